-- From the order law, for calls that keep its laws, to the one history of calls.
use Rattle.std.proofs.Common.{◌≡◌, inl, inr, ℕ, zero, suc, ◌<◌, Bool, true, List, [], ◌∷◌, ◌++◌, map, append-nil, refl, sym, ap, subst, ◌∙◌, arith}
use Rattle.std.specs.Prelude.{None}
use Rattle.df_model.specs.Keyspace.{Keyspace}
use Rattle.df_model.specs.History.{Leads, IsLegal}
use Rattle.df_model.specs.declared.command.WholeOp.TheVariants as wholes
use Rattle.df_model.specs.declared.command.Command.TheVariants.{Whole}
use Rattle.df_model.specs.declared.command.Call.TheVariants.{Single}
use Rattle.df_model.specs.declared.reply.Reply.{Reply}
use Rattle.df_model.proofs.WholeLaws.{same_map_by}
use Rattle.df_order.specs.Lists.{Has}
use Rattle.df_order.specs.Model.{Laws, FitAll, own, names_none}
use Rattle.df_order.specs.Histories as order
use Rattle.df_order.proofs.LogsAlone.{legal, number_stands, has_entry}
use Rattle.df_order.proofs.Commute.{own_has}
use Rattle.df_log.specs.Parts.{Part, own_keys}
use Rattle.df_log.specs.declared.entry.Entry.{Entry}
use Rattle.df_core.specs.Joined.{joined}
use Rattle.df_core.specs.Calls.{calls}
use Rattle.df_core.specs.History.{Draw, with_draw}
use Rattle.df_core.specs.Laws.{LogsAreOneHistory, SavesStandInTheHistory}
use Rattle.df_core.specs.Steps.{Step, step_of, steps_of}
use Rattle.df_model.specs.declared.command.Call.{Call}
use Rattle.df_core.specs.Done.{Done, Gives, nowhere, nowhere_wanted, ran, run_wanted, changed, looked, stopped, undone, names, counts, names_wanted, counts_wanted, cuts, cleared, kept_all, first_step}
use Rattle.df_core.proofs.StepLaws.{told_cut}
use Rattle.df_core.proofs.JoinedLaws.{held_own, held_joined}
use Rattle.df_log.specs.Acts.{Told, Begin, Cut}
use Rattle.df_log.specs.Parts.{IsTold}
use Rattle.df_model.specs.Keyspace.{held}
use Rattle.df_model.specs.Hash.{shard_of}
use Rattle.std.specs.Prelude.{cond, ◌==◌}
use Rattle.std.proofs.lemmas.Bool.{ne_eqb, or_right}
use Rattle.std.proofs.lemmas.Bool.Decides.{eqb_tells}

module _ (shards : ℕ) (draws : ℕ → Draw) where
  leads : (K last : Keyspace) (items : List (order.Item (calls shards))) → order.LegalTo (calls shards) K items last →
      Leads K (map (with_draw shards draws) items) last
  leads K last [] e = sym e
  leads K last (i ∷ items) step = (step.0, step.1, leads step.0 last items step.2)

  -- a legal history of the order law is one of calls
  pub is_legal : (K : Keyspace) (items : List (order.Item (calls shards))) → order.Legal (calls shards) K items →
      IsLegal K (map (with_draw shards draws) items)
  is_legal K [] e = (K, refl)
  is_legal K (i ∷ items) step =
      let rest = is_legal step.0 items step.2 in
      (rest.0, (step.0, step.1, rest.1))

pub one_history : ((shards : ℕ) → 0 < shards → Laws (calls shards)) → LogsAreOneHistory
one_history laws shards some draws count start logs replies recorded =
    is_legal shards draws (joined shards start) _ (legal (calls shards) (laws shards some) (λ n. (draws n).call) count start logs replies recorded)

-- ---- saves

-- what stands in the log of a shard once a save has begun everywhere
begins : (shards : ℕ) (steps : ℕ → List Step) (kept : Bool) (reply : Reply) →
    Done shards 0 (Whole wholes.Save) steps kept reply → (s : ℕ) → s < shards →
    (told : Told) × (steps s ≡ first_step 0 Begin told ∷ [])
begins shards steps kept reply (nowhere e none) s lt = cc
begins shards steps kept reply (nowhere_wanted e none) s lt = cc
begins shards steps kept reply (ran t r e here there) s lt = cc
begins shards steps kept reply (run_wanted t e here there) s lt = cc
begins shards steps kept reply (changed K e shows some) s lt = cc
begins shards steps kept reply (looked K e shows none) s lt = cc
begins shards steps kept reply (stopped e stops) s lt = cc
begins shards steps kept reply (undone K e undoes some) s lt = cc
begins shards steps kept reply (names p ns e each) s lt = cc
begins shards steps kept reply (counts ns e each) s lt = cc
begins shards steps kept reply (names_wanted p told e each) s lt = cc
begins shards steps kept reply (counts_wanted told e each some) s lt = cc
begins shards steps kept reply (cuts pairs r e each is) s lt = (Cut (pairs s), each.within s lt)
begins shards steps kept reply (cleared e each) s lt = cc
begins shards steps kept reply (kept_all told e each some) s lt = cc

-- the one entry of a list whose steps are one
one_entry : (es : List Entry) (x : Step) (e : Entry) → steps_of es ≡ x ∷ [] → Has es e → (es ≡ e ∷ []) × (step_of e ≡ x)
one_entry [] x e same h = absurd h
one_entry (f ∷ []) x e same (inl i) = (ap (λ g. g ∷ []) i, ap step_of (sym i) ∙ first same)
  where
    first : step_of f ∷ [] ≡ x ∷ [] → step_of f ≡ x
    first same = cc
one_entry (f ∷ []) x e same (inr h) = absurd h
one_entry (f ∷ g ∷ es) x e same h = cc

own_joined : (shards : ℕ) (parts : ℕ → Part) (s : ℕ) → 0 < shards →
    own_keys shards s (joined shards parts) ≡ own_keys shards s (parts s).visible
own_joined shards parts s some = same_map_by _ _ (λ key.
    held_own shards s (joined shards parts) key
    ∙ elim (eqb_tells (shard_of key shards) s) [
      | inl e ↦ ap (λ v. cond (shard_of key shards == s) v None) (held_joined shards parts key some ∙ ap (λ t. held (parts t).visible key) e.1)
      | inr e ↦ ap (λ b. cond b (held (joined shards parts) key) None) (ne_eqb (shard_of key shards) s e.1)
          ∙ sym (ap (λ b. cond b (held (parts s).visible key) None) (ne_eqb (shard_of key shards) s e.1))
    ]
    ∙ sym (held_own shards s (parts s).visible key))

-- the steps of a call that is one save
one_save : (shards : ℕ) (call : Call) (steps : ℕ → List Step) (reply : Reply) → call ≡ Single (Whole wholes.Save) →
    Gives shards call steps reply → (s : ℕ) → s < shards → (told : Told) × (steps s ≡ first_step 0 Begin told ∷ [])
one_save shards call steps reply e g s lt =
    let all = subst (λ c. Gives shards c steps reply) e g in
    let own = begins shards all.1.0 all.0 reply all.1.3 s lt in
    (own.0, all.1.2 s ∙ ap (λ xs. all.1.0 s ++ xs) (all.1.4 s) ∙ append-nil (all.1.0 s) ∙ own.1)

module _ (laws : (shards : ℕ) → 0 < shards → Laws (calls shards)) where
  module _ (shards : ℕ) (some : 0 < shards) (draws : ℕ → Draw) (count : ℕ) (start : ℕ → Part) (logs : ℕ → List Entry) (replies : ℕ → Reply)
      (recorded : order.Recorded (calls shards) (λ n. (draws n).call) count start logs replies) (n : ℕ)
      (is_save : (draws n).call ≡ Single (Whole wholes.Save)) where
    was_executed : (s : ℕ) (e : Entry) → s < shards → Has (logs s) e → e.number ≡ n →
        order.executed (calls shards) (λ m. (draws m).call) logs n ≡ true
    was_executed s e lt h is = or_right (names_none (calls shards) (draws n).call shards) _ (has_entry (calls shards) logs n shards s e lt h is)

    cut_told : (s : ℕ) (e : Entry) → s < shards → Has (logs s) e → e.number ≡ n →
        FitAll (calls shards) (λ m. (draws m).call) s (order.state_at (calls shards) start logs n s) (own (calls shards) n (logs s)) →
        e.told ≡ Cut (own_keys shards s (joined shards (order.state_at (calls shards) start logs n)))
    cut_told s e lt h is fit =
        let begun = one_save shards (draws n).call (λ t. steps_of (own (calls shards) n (logs t))) (replies n) is_save
        (recorded.complete n (was_executed s e lt h is)) s lt in
        let one = one_entry (own (calls shards) n (logs s)) (first_step 0 Begin begun.0) e begun.1 (own_has (calls shards) n (logs s) e h is) in
        let fits = subst (FitAll (calls shards) (λ m. (draws m).call) s (order.state_at (calls shards) start logs n s)) one.0 fit in
        let visible = (order.state_at (calls shards) start logs n s).visible in
        told_cut shards s visible e.told (subst (λ a. IsTold shards s visible a e.told) (ap (λ x. x.act) one.1) fits.0.0.1)
        ∙ ap Cut (sym (own_joined shards (order.state_at (calls shards) start logs n) s some))

  pub saves_stand : SavesStandInTheHistory
  saves_stand shards some draws count start logs replies recorded zero pos le is_save = absurd (omega (arith, pos))
  saves_stand shards some draws count start logs replies recorded (suc m) pos le is_save =
      let stands = number_stands (calls shards) (laws shards some) (λ n. (draws n).call) count start logs replies recorded m (omega (arith, le)) in
      let parts : ℕ → Part = order.state_at (calls shards) start logs (suc m) in
      record {
        keyspace = joined shards parts;
        reached = leads shards draws (joined shards start) (joined shards parts)
            (order.items (calls shards) (λ n. (draws n).call) logs replies 1 m) stands.reached;
        cuts = λ s e lt h is. cut_told shards some draws count start logs replies recorded (suc m) is_save s e lt h is (stands.fitting s);
      }
