-- Steps one after another, what they leave to be seen, and the same of entries.
use Rattle.std.proofs.Common.{◌≡◌, ℕ, Bool, true, false, cond, List, [], ◌∷◌, ◌++◌, ◌⊎◌, inl, inr, refl, ap, ◌∙◌, subst}
use Rattle.std.specs.Prelude.{Option, map}
use Rattle.std.proofs.lemmas.Bool.{false≢true}
use Rattle.std.specs.FinMap as fin
use Rattle.df_model.specs.Values.{Bytes, Value}
use Rattle.df_model.specs.Keyspace.{Keyspace, held}
use Rattle.df_model.specs.Meaning.{meaning}
use Rattle.df_model.specs.declared.command.Command.{Command}
use Rattle.df_model.specs.declared.reply.Reply.{Reply}
use Rattle.df_model.specs.declared.command.Call.{Call}
use Rattle.df_order.specs.Lists.{Has}
use Rattle.df_order.specs.Model.{replay, FitAll}
use Rattle.df_order.proofs.Puts.{put_same}
use Rattle.df_log.specs.Acts.{Changes, Run, Read, Stage, Apply, Unstage, Begin, Walk, Count, Told, Ran, Values, Staged, Applied, Number, Cut, NoMemory}
use Rattle.df_log.specs.Acts as acts
use Rattle.df_log.specs.Changes.{with_changes}
use Rattle.df_log.specs.Parts.{Part, did, after_act, effect, own_keys, IsTold}
use Rattle.df_log.specs.declared.entry.Entry.{Entry}
use Rattle.df_core.specs.Steps.{Step, steps_of, after_steps, AllTold}
use Rattle.df_core.specs.Calls.{calls}

-- ---- some steps, and others behind them

module _ (shards s n : ℕ) where
  -- the steps of two lists, one after the other
  pub after_both : (own rest : List Step) (x : Part) → after_steps n (own ++ rest) x ≡ after_steps n rest (after_steps n own x)
  after_both [] rest x = refl
  after_both (st ∷ own) rest x = after_both own rest (after_act n st.act st.told x)

  pub told_front : (own rest : List Step) (x : Part) → AllTold shards s n (own ++ rest) x → AllTold shards s n own x
  told_front [] rest x told = tt
  told_front (st ∷ own) rest x told = (told.0, told_front own rest (after_act n st.act st.told x) told.1)

  pub told_back : (own rest : List Step) (x : Part) → AllTold shards s n (own ++ rest) x →
      AllTold shards s n rest (after_steps n own x)
  told_back [] rest x told = told
  told_back (st ∷ own) rest x told = told_back own rest (after_act n st.act st.told x) told.1

-- ---- what is told

module _ (shards s : ℕ) (K : Keyspace) where
  -- an act is told what it gives
  pub told_reply : (command : Command) (reply : Reply) → IsTold shards s K (Run command) (Ran reply) →
      reply ≡ (meaning command K).0
  told_reply command reply (IsTold.ran c) = refl

  pub told_values : (keys : List Bytes) (values : List (Option Value)) → IsTold shards s K (Read keys) (Values values) →
      values ≡ map (held K) keys
  told_values keys values (IsTold.read k) = refl

  pub told_names : (names : List Bytes) → IsTold shards s K Walk (acts.Names names) → names ≡ fin.keys (own_keys shards s K)
  told_names names IsTold.walked = refl

  pub told_number : (n : ℕ) → IsTold shards s K Count (Number n) → n ≡ fin.len (own_keys shards s K)
  told_number n IsTold.counted = refl

  pub told_cut : (told : Told) → IsTold shards s K Begin told → told ≡ Cut (own_keys shards s K)
  told_cut told IsTold.began = refl
  told_cut told (IsTold.wanted act w) = absurd (false≢true w)

  -- or the act found no memory
  pub run_told : (command : Command) (told : Told) → IsTold shards s K (Run command) told →
      ((reply : Reply) × (told ≡ Ran reply)) ⊎ (told ≡ NoMemory)
  run_told command _ (IsTold.ran c) = inl ((meaning c K).0, refl)
  run_told command _ (IsTold.wanted act h) = inr refl

  pub walk_told : (told : Told) → IsTold shards s K Walk told →
      ((names : List Bytes) × (told ≡ acts.Names names)) ⊎ (told ≡ NoMemory)
  walk_told _ IsTold.walked = inl (fin.keys (own_keys shards s K), refl)
  walk_told _ (IsTold.wanted act h) = inr refl

  pub count_told : (told : Told) → IsTold shards s K Count told → ((n : ℕ) × (told ≡ Number n)) ⊎ (told ≡ NoMemory)
  count_told _ IsTold.counted = inl (fin.len (own_keys shards s K), refl)
  count_told _ (IsTold.wanted act h) = inr refl

-- ---- what acts leave to be seen

-- want of memory or not
pub either_way : {X : Type 0} (b : Bool) (x : X) → cond b x x ≡ x
either_way true x = refl
either_way false x = refl

module _ (n : ℕ) (x : Part) where
  -- reads and stages show nothing
  pub read_stays : (keys : List Bytes) (told : Told) → (after_act n (Read keys) told x).visible ≡ x.visible
  read_stays keys told = either_way (did told) x.visible

  pub stage_stays : (changes : Changes) (told : Told) → (after_act n (Stage changes) told x).visible ≡ x.visible
  stage_stays changes told = either_way (did told) x.visible

  -- what is applied right after it was staged
  pub apply_shows : (changes : Changes) →
      (after_act n Apply Applied (after_act n (Stage changes) Staged x)).visible ≡ with_changes changes x.visible
  apply_shows changes = ap (λ c. with_changes c x.visible) (put_same n n changes x.staged refl)

-- ---- entries of one number

-- they do what their steps do, and were told what their steps were told
module _ (shards s n : ℕ) where
  pub after_entries : (es : List Entry) (x : Part) → ((e : Entry) → Has es e → e.number ≡ n) →
      replay (calls shards) x es ≡ after_steps n (steps_of es) x
  after_entries [] x numbers = refl
  after_entries (e ∷ es) x numbers =
      after_entries es (effect e x) (λ f h. numbers f (inr h))
      ∙ ap (λ m. after_steps n (steps_of es) (after_act m e.act e.told x)) (numbers e (inl refl))

  pub told_entries : (call : ℕ → Call) (es : List Entry) (x : Part) → ((e : Entry) → Has es e → e.number ≡ n) →
      FitAll (calls shards) call s x es → AllTold shards s n (steps_of es) x
  told_entries call [] x numbers fit = tt
  told_entries call (e ∷ es) x numbers fit = (
    fit.0.0.1,
    subst (λ m. AllTold shards s n (steps_of es) (after_act m e.act e.told x)) (numbers e (inl refl))
        (told_entries call es (effect e x) (λ f h. numbers f (inr h)) fit.1),
  )
