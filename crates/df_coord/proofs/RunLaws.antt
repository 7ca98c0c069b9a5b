-- A call of one hop from its draw to what it leaves.
use Rattle.std.proofs.Common.{◌≡◌, ◌≢◌, ℕ, ◌<◌, ◌≤◌, Bool, true, false, cond, is_some, [], ◌∷◌, refl, sym, ap, ◌∙◌, subst, arith}
use Rattle.std.specs.Prelude.{Option, Some, None, nat_lt}
use Rattle.std.proofs.lemmas.Bool.{false≢true}
use mathlib.Core.Logic.{dite}
use native.Mathlib.Decide.{ℕ_discrete}
use Rattle.df_model.specs.Keyspace.{Keyspace}
use Rattle.df_model.specs.declared.command.Command.{Command}
use Rattle.df_model.specs.declared.command.Call.{Call}
use Rattle.df_model.specs.declared.command.Call.TheVariants.{Single}
use Rattle.df_order.specs.Puts.{put}
use Rattle.df_order.proofs.Puts.{put_case, put_same, put_other}
use Rattle.df_log.specs.Acts.{Act, Told, Passed, Run}
use Rattle.df_log.specs.Parts.{IsTold}
use Rattle.df_log.specs.declared.entry.Entry.{Entry}
use Rattle.df_core.specs.Courses.{Alone, Cuts, course_of}
use Rattle.df_core.specs.Done.{want_of_memory}
use Rattle.df_core.specs.Due.{some}
use Rattle.df_core.specs.Steps.{step_of}
use Rattle.df_core.proofs.HopLaws.{none_passes, one_passes}
use Rattle.df_book.specs.Passes.{Caller, after_draw}
use Rattle.df_end.specs.Rounds.{CallWent}
use Rattle.df_rounds.specs.Standing.{AllMayBeTold, MayBeTold, Once, asks, goes_on}
use Rattle.df_rounds.specs.Replies.{reply_in, reply_of}
use Rattle.df_rounds.specs.Progress.{Answers, Progress, after_command, after_round, asks_next, hop_next, progress_of}
use Rattle.df_rounds.specs.Underway.{Underway}
use Rattle.df_rounds.specs.Between.{Between, row_of}
use Rattle.df_rounds.proofs.ProgressLaws.{over_goes_on}
use Rattle.df_rounds.proofs.UnderwayLaws.{rounds_send}
use Rattle.df_rounds.proofs.BetweenLaws.{calls_are_drawn, calls_ask, calls_go_round, calls_leave, calls_move, calls_pass}
use Rattle.df_coord.specs.Asking.{Asked}
use Rattle.df_coord.proofs.AloneLaws.{asks-none, asks-run, hop-zero, names-it}

nobody : (b : Bool) → is_some {T = Act} (cond b None None) ≡ false
nobody true = refl
nobody false = refl

-- one shard was sent a ticket
abbrev pub sent-to : ℕ → ℕ → Bool
sent-to t = put t true (λ s. false)

-- one entry came back
abbrev pub back-from : ℕ → Entry → ℕ → Option Entry
back-from t e = put t (Some e) (λ s. None)

pub drawn-so : (shards : ℕ) (v u : Caller) (call : Call) (n : ℕ) → Asked v u call n → Between shards v call n (progress_of call) (after_draw v call n)
drawn-so shards v u call n a = calls_are_drawn shards v call n a.above a.below a.fresh a.positive a.bounded

-- its ticket is on its way
pub asked-so : (shards t : ℕ) (v u : Caller) (call : Call) (n : ℕ) → t < shards → Asked v u call n →
    Underway shards n (after_draw v call n) u (sent-to t) (λ s. None)
asked-so shards t v u call n lt a =
    let d : Caller = after_draw v call n in
    subst (λ w. Underway shards n d w (sent-to t) (λ s. None)) (sym a.now)
    (rounds_send shards n d d (λ s. false) (λ s. None) t lt refl (calls_ask shards v call n (progress_of call) d (drawn-so shards v u call n a)))

-- a command that runs on this shard alone
module _ (shards t : ℕ) (command : Command) (alone : course_of shards command ≡ Alone t) (pos : 0 < shards) (lt : t < shards) where
  -- ---- its entry came back

  pub ran-so : (v u w : Caller) (n : ℕ) (e : Entry) (told : Told) (K : Keyspace) → Asked v u (Single command) n →
      Underway shards n (after_draw v (Single command) n) w (sent-to t) (back-from t e) →
      step_of e ≡ record { hop = 0; act = Run command; told = told } → IsTold shards t K (Run command) told →
      CallWent shards v w (Single command) (row_of v (Single command) n (Some (reply_in told)) ∷ [])
  ran-so v u w n e told K a under is is-told =
      subst (λ r. CallWent shards v w call (row_of v call n (Some r) ∷ [])) said
      (calls_leave shards v call n after w
      (calls_move shards v call n (after_round (λ s. told) first) after w
      (calls_go_round shards v call n first (after_draw v call n) w (sent-to t) (back-from t e) (λ s. told) pos (drawn-so shards v u call n a) under
      goes may all-sent answers)
      (λ steps stands. over_goes_on shards call (after_round (λ s. told) first) steps command [] want_of_memory pos stands refl over (λ cuts. absurd (not-cuts cuts))))
      refl)
    where
      call : Call
      call = Single command

      first : Progress
      first = progress_of (Single command)

      after : Progress
      after = after_command (reply_of shards command (course_of shards command) want_of_memory (Once (λ s. told))) [] (after_round (λ s. told) (progress_of (Single command)))

      goes : some (λ s. is_some (asks_next shards (progress_of (Single command)) s)) shards ≡ true
      goes = one_passes (λ s. is_some (asks_next shards (progress_of (Single command)) s)) shards t lt
          (ap is_some (asks-run shards t command alone lt))

      may : AllMayBeTold shards (asks_next shards (progress_of (Single command))) (λ s. told)
      may s = dite (ℕ_discrete s t)
          (λ (e : s ≡ t). subst (λ i. MayBeTold shards i (asks_next shards (progress_of (Single command)) i) told) (sym e)
          (subst (λ o. MayBeTold shards t o told) (sym (asks-run shards t command alone lt)) (K, is-told)))
          (λ (ne : s ≢ t). subst (λ o. MayBeTold shards s o told) (sym (asks-none shards t command alone s ne)) tt)

      all-sent : (s : ℕ) → sent-to t s ≡ is_some (asks_next shards (progress_of (Single command)) s)
      all-sent s = put_case (λ b. b ≡ is_some (asks_next shards (progress_of (Single command)) s)) t s true (λ i. false)
          (λ e. sym (ap (λ i. is_some (asks_next shards (progress_of (Single command)) i)) e ∙ ap is_some (asks-run shards t command alone lt)))
          (λ ne. sym (ap is_some (asks-none shards t command alone s ne)))

      answers : (s : ℕ) → Answers (hop_next shards (progress_of (Single command))) (asks_next shards (progress_of (Single command)) s) told (back-from t e s)
      answers s = subst (λ h. Answers h (asks_next shards (progress_of (Single command)) s) told (back-from t e s)) (sym (hop-zero shards t command alone))
          (put_case (λ o. Answers 0 (asks_next shards (progress_of (Single command)) s) told o) t s (Some e) (λ i. None)
          (λ i. subst (λ o. Answers 0 o told (Some e)) (sym (ap (asks_next shards (progress_of (Single command))) i ∙ asks-run shards t command alone lt)) (e, refl, is))
          (λ ne. subst (λ o. Answers 0 o told None) (sym (asks-none shards t command alone s ne)) refl))

      over : goes_on shards command (course_of shards command) (Once (λ s. told)) ≡ false
      over = none_passes (λ s. is_some (asks shards command (course_of shards command) (Once (λ i. told)) s)) shards (λ s.
          subst (λ c. is_some (asks shards command c (Once (λ i. told)) s) ≡ false) (sym alone) (nobody (nat_lt s shards)))

      not-cuts : course_of shards command ≡ Cuts → ⊥
      not-cuts cuts = let e : Alone t ≡ Cuts = sym alone ∙ cuts in cc

      said : reply_of shards command (course_of shards command) want_of_memory (Once (λ s. told)) ≡ reply_in told
      said = ap (λ c. reply_of shards command c want_of_memory (Once (λ s. told))) alone

  -- ---- a note of it came back

  pub passed-so : (v u w : Caller) (n : ℕ) (e : Entry) →
      Asked v u (Single command) n →
      Underway shards n (after_draw v (Single command) n) w (sent-to t) (back-from t e) →
      e.act ≡ Passed → CallWent shards v w (Single command) (row_of v (Single command) n None ∷ [])
  passed-so v u w n e a under act =
      calls_pass shards v (Single command) n w (sent-to t) (back-from t e) a.above a.below a.fresh a.positive under all beyond notes
      (names-it shards t command alone pos lt)
    where
      all : (s : ℕ) → sent-to t s ≡ is_some (back-from t e s)
      all s = put_case (λ b. b ≡ is_some (back-from t e s)) t s true (λ i. false)
          (λ i. sym (ap is_some (put_same t s (Some e) (λ x. None) i)))
          (λ ne. sym (ap is_some (put_other t s (Some e) (λ x. None) ne)))

      beyond : (s : ℕ) → shards ≤ s → back-from t e s ≡ None
      beyond s le = put_other t s (Some e) (λ x. None) (λ i. omega (arith, i, le, lt))

      notes : (s : ℕ) (f : Entry) → back-from t e s ≡ Some f → f.act ≡ Passed
      notes s f = put_case (λ o. o ≡ Some f → f.act ≡ Passed) t s (Some e) (λ x. None)
          (λ i is. let same : e ≡ f = cc in ap (λ (x : Entry). x.act) (sym same) ∙ act)
          (λ ne is. absurd (false≢true (ap is_some is)))
