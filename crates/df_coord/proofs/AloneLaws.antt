-- A command that runs on one shard alone has one hop, its run there.
use Rattle.std.proofs.Common.{◌≡◌, ◌≢◌, ℕ, ◌<◌, Bool, true, false, cond, [], ◌∷◌, refl, sym, ap, ◌∙◌, subst, eq-eqb, ne_eqb}
use Rattle.std.specs.Prelude.{Some, None, ◌==◌, nat_lt}
use Rattle.df_model.specs.declared.command.Command.{Command}
use Rattle.df_model.specs.declared.command.Call.TheVariants.{Single}
use Rattle.df_log.specs.Acts.{Run}
use Rattle.df_core.specs.Courses.{Alone, are_quick, course_of}
use Rattle.df_core.specs.Due.{due}
use Rattle.df_core.specs.History.{NamesAShard}
use Rattle.df_core.proofs.DueLaws.{next_named}
use Rattle.df_rounds.specs.Progress.{asks_next, hop_next, progress_of}
use Rattle.df_rounds.proofs.ToldLaws.{on-in}
use Rattle.df_rounds.proofs.ProgressLaws.{calls_start, next_is_due}

module _ (shards t : ℕ) (command : Command) (alone : course_of shards command ≡ Alone t) where
  pub quick-alone : are_quick shards (command ∷ []) ≡ true
  quick-alone = rw alone

  -- its shard is asked to run it, as hop 0
  pub asks-run : t < shards → asks_next shards (progress_of (Single command)) t ≡ Some (Run command)
  asks-run lt = rw alone
      (on-in shards (λ s. cond (t == s) (Some (Run command)) None) t lt ∙ ap (λ b. cond b (Some (Run command)) None) (eq-eqb t t refl))

  pub asks-none : (s : ℕ) → s ≢ t → asks_next shards (progress_of (Single command)) s ≡ None
  asks-none s ne = rw alone (go (nat_lt s shards))
    where
      other : cond (t == s) (Some (Run command)) None ≡ None
      other = ap (λ b. cond b (Some (Run command)) None) (ne_eqb t s (λ e. ne (sym e)))

      go : (b : Bool) → cond b (cond (t == s) (Some (Run command)) None) None ≡ None
      go true = other
      go false = refl

  pub hop-zero : hop_next shards (progress_of (Single command)) ≡ 0
  hop-zero = rw alone

  pub due-run : 0 < shards → t < shards → due shards (Single command) (λ i. []) t 0 ≡ Some (Run command)
  due-run pos lt =
      subst (λ h. due shards (Single command) (λ i. []) t h ≡ Some (Run command)) hop-zero
      (next_is_due shards (Single command) (progress_of (Single command)) (λ i. []) t (Run command) pos
      (calls_start shards (Single command) (λ i. []) (λ i. refl)) (asks-run lt))

  pub names-it : 0 < shards → t < shards → NamesAShard shards (Single command)
  names-it pos lt = (t, next_named shards (Single command) (λ i. []) t 0 (Run command) (due-run pos lt))
