-- A complete call has nothing due but the staging of a command that stopped behind its reads.
use Rattle.std.proofs.Common.{◌≡◌, inl, inr, ℕ, zero, suc, ◌/◌, ◌%◌, ◌<◌, ◌≤◌, ◌++◌, Bool, true, false, not, ◌&&◌, length, List, [], ◌∷◌, refl, sym, ap, ◌∙◌, subst, arith, append-nil}
use Rattle.std.specs.Prelude.{Some, ◌==◌}
use Rattle.std.proofs.lemmas.Bool.{false≢true, and_parts, eqb-true}
use Rattle.std.proofs.lemmas.Option.{none-some, cond_some}
use Rattle.df_model.specs.Values.{Bytes}
use Rattle.df_model.specs.Keyspace.{Keyspace}
use Rattle.df_model.specs.declared.command.Command.{Command}
use Rattle.df_model.specs.declared.command.Call.{Call}
use Rattle.df_model.specs.declared.reply.Reply.{Reply}
use Rattle.df_footprints.specs.Footprints.{commands_of}
use Rattle.df_log.specs.Acts.{Changes, Act, Run, Read, Stage, Apply, Unstage, Begin, Walk, Count, Clear}
use Rattle.df_core.specs.Courses.{Course, Nowhere, Alone, Spread, Counts, Cuts, Clears, course_of, keys_on, changes_on}
use Rattle.df_core.specs.Courses as courses
use Rattle.df_core.specs.Due.{every, some, is_nil, first_wanted, second_wanted, values_read, all_read, all_staged, first_due, spread_due, clear_due, due_by, may_end_by, of_command, due_from, due}
use Rattle.df_core.specs.Steps.{Step}
use Rattle.df_core.specs.Done.{Shows, Stops, Undoes, OnEach, Done, DoneAll, Gives, want_of_memory}
use Rattle.df_core.proofs.StandLaws.{not_nil}
use Rattle.df_core.proofs.DueLaws.{cond_found, either_some, first_due_is, due_within, due_of_commands}
use Rattle.df_core.proofs.CompleteLaws.{of_gives}
use Rattle.df_core.proofs.HopLaws.{of_itself, of_other, of_append, of_before, done_of, all_from}
use Rattle.df_core.proofs.ReadLaws.{changes_read, shows_read, undoes_read}

-- ---- what is due of a command on several shards

-- its keys are to be read, its changes staged, or what is staged is to be ended
data SpreadDue (keys : List Bytes) (changes : Changes) (steps : List Step) (act : Act) (j : ℕ) : Type 0 where
  reading : not (is_nil keys) ≡ true → is_nil steps ≡ true → SpreadDue keys changes steps act j
  staging : j ≡ 1 → (length steps == 1) ≡ true → not (is_nil changes) ≡ true → Stage changes ≡ act →
      SpreadDue keys changes steps act j
  ending : (length steps == 2) ≡ true → SpreadDue keys changes steps act j

spread_due_is : (keys : List Bytes) (changes : Changes) (read staged wanted : Bool) (steps : List Step) (j : ℕ) (act : Act) →
    spread_due keys changes read staged wanted steps j ≡ Some act → SpreadDue keys changes steps act j
spread_due_is keys changes read staged wanted steps zero act h =
    let p = and_parts (not (is_nil keys)) (is_nil steps) (cond_some (not (is_nil keys) && is_nil steps) (Read keys) act h).0 in
    SpreadDue.reading p.0 p.1
spread_due_is keys changes read staged wanted steps (suc zero) act h =
    let c = cond_some (read && (not (is_nil changes) && (length steps == 1))) (Stage changes) act h in
    let p = and_parts (not (is_nil changes)) (length steps == 1) (and_parts read _ c.0).1 in
    SpreadDue.staging refl p.1 p.0 c.1
spread_due_is keys changes read staged wanted steps (suc (suc zero)) act h =
    let c = cond_some (read && (staged && (not wanted && (not (is_nil changes) && (length steps == 2))))) Apply act h in
    SpreadDue.ending (and_parts (not (is_nil changes)) (length steps == 2)
    (and_parts (not wanted) _ (and_parts staged _ (and_parts read _ c.0).1).1).1).1
spread_due_is keys changes read staged wanted steps (suc (suc (suc j))) act h =
    let c = cond_some (read && (staged && (wanted && (not (is_nil changes) && (length steps == 2))))) Unstage act h in
    SpreadDue.ending (and_parts (not (is_nil changes)) (length steps == 2) (and_parts wanted _ (and_parts staged _ (and_parts read _ c.0).1).1).1).1

module _ (shards i s : ℕ) (command : Command) where
  shows_spent : (K : Keyspace) (steps : List Step) (act : Act) (j : ℕ) → Shows shards i s command K steps →
      SpreadDue (keys_on shards s command) (changes_on shards s command K) steps act j → ⊥
  shows_spent K _ act j (Shows.unnamed e) (SpreadDue.reading k n) = not_nil _ k e
  shows_spent K _ act j (Shows.unnamed e) (SpreadDue.staging one l c a) = false≢true l
  shows_spent K _ act j (Shows.unnamed e) (SpreadDue.ending l) = false≢true l
  shows_spent K _ act j (Shows.looked e f) (SpreadDue.reading k n) = false≢true n
  shows_spent K _ act j (Shows.looked e f) (SpreadDue.staging one l c a) = false≢true (sym (ap (λ x. not (is_nil x)) f) ∙ c)
  shows_spent K _ act j (Shows.looked e f) (SpreadDue.ending l) = false≢true l
  shows_spent K _ act j (Shows.applied e) (SpreadDue.reading k n) = false≢true n
  shows_spent K _ act j (Shows.applied e) (SpreadDue.staging one l c a) = false≢true l
  shows_spent K _ act j (Shows.applied e) (SpreadDue.ending l) = false≢true l

  undoes_spent : (K : Keyspace) (steps : List Step) (act : Act) (j : ℕ) → Undoes shards i s command K steps →
      SpreadDue (keys_on shards s command) (changes_on shards s command K) steps act j → ⊥
  undoes_spent K _ act j (Undoes.unnamed e) (SpreadDue.reading k n) = not_nil _ k e
  undoes_spent K _ act j (Undoes.unnamed e) (SpreadDue.staging one l c a) = false≢true l
  undoes_spent K _ act j (Undoes.unnamed e) (SpreadDue.ending l) = false≢true l
  undoes_spent K _ act j (Undoes.looked e f) (SpreadDue.reading k n) = false≢true n
  undoes_spent K _ act j (Undoes.looked e f) (SpreadDue.staging one l c a) = false≢true (sym (ap (λ x. not (is_nil x)) f) ∙ c)
  undoes_spent K _ act j (Undoes.looked e f) (SpreadDue.ending l) = false≢true l
  undoes_spent K _ act j (Undoes.undone e told) (SpreadDue.reading k n) = false≢true n
  undoes_spent K _ act j (Undoes.undone e told) (SpreadDue.staging one l c a) = false≢true l
  undoes_spent K _ act j (Undoes.undone e told) (SpreadDue.ending l) = false≢true l

  stops_stages : (changes : Changes) (steps : List Step) (act : Act) (j : ℕ) → Stops shards i s command steps →
      SpreadDue (keys_on shards s command) changes steps act j → (j ≡ 1) × (Stage changes ≡ act)
  stops_stages changes _ act j (Stops.unnamed e) (SpreadDue.reading k n) = absurd (not_nil _ k e)
  stops_stages changes _ act j (Stops.unnamed e) (SpreadDue.staging one l c a) = absurd (false≢true l)
  stops_stages changes _ act j (Stops.unnamed e) (SpreadDue.ending l) = absurd (false≢true l)
  stops_stages changes _ act j (Stops.read e told) (SpreadDue.reading k n) = absurd (false≢true n)
  stops_stages changes _ act j (Stops.read e told) (SpreadDue.staging one l c a) = (one, a)
  stops_stages changes _ act j (Stops.read e told) (SpreadDue.ending l) = absurd (false≢true l)

-- ---- what is due of a command that is done

-- it stopped behind its reads, was answered want of memory, and may yet go on to stage
pub record GoesOn (shards i : ℕ) (command : Command) (own : ℕ → List Step) (kept : Bool) (reply : Reply) (j : ℕ) (act : Act) : Type 0 where
  pub stages : j ≡ 1
  pub changes : Changes
  pub is_stage : act ≡ Stage changes
  pub stopped : (s : ℕ) → Stops shards i s command (own s)
  pub dropped : kept ≡ false
  pub answered : reply ≡ want_of_memory

module _ (shards i : ℕ) (pos : 0 < shards) (command : Command) (own : ℕ → List Step) (s j : ℕ) (act : Act) (within : s < shards)
    (is_due : due_by shards command (course_of shards command) own s j ≡ Some act) where
  at_course : (course : Course) → course_of shards command ≡ course → due_by shards command course own s j ≡ Some act
  at_course course e = ap (λ c. due_by shards command c own s j) (sym e) ∙ is_due

  alone_spent : (t : ℕ) (x : Step) → course_of shards command ≡ Alone t → own t ≡ x ∷ [] → ⊥
  alone_spent t x e here =
      let c = cond_found (t == s) (first_due (Run command) (own s) j) act (at_course (Alone t) e) in
      let f = first_due_is (Run command) act (own s) j c.1 in
      false≢true (sym (ap is_nil (ap own (sym (eqb-true t s c.0)) ∙ here)) ∙ f.1)

  each_spent : (next : Act) (these : ℕ → Step) → OnEach shards own (λ t. these t ∷ []) → first_due next (own s) j ≡ Some act → ⊥
  each_spent next these on h = false≢true (sym (ap is_nil (on.within s within)) ∙ (first_due_is next act (own s) j h).1)

  spread_is : (changes : Changes) → course_of shards command ≡ Spread →
      changes_on shards s command (values_read shards command own) ≡ changes →
      SpreadDue (keys_on shards s command) changes (own s) act j
  spread_is changes e same =
      subst (λ c. SpreadDue (keys_on shards s command) c (own s) act j) same
      (spread_due_is (keys_on shards s command) (changes_on shards s command (values_read shards command own))
      (all_read shards command own && not (some (λ t. first_wanted (own t)) shards)) (all_staged shards command own)
      (some (λ t. second_wanted (own t)) shards)
      (own s) j act (at_course Spread e))

  clear_spent : (these : ℕ → List Step) → course_of shards command ≡ Clears → OnEach shards own these → length (these s) ≡ 2 → ⊥
  clear_spent these e on two = go j (at_course Clears e)
    where
      long : length (own s) ≡ 2
      long = ap length (on.within s within) ∙ two

      nil_short : (l : List Step) → is_nil l ≡ true → length l ≡ 0
      nil_short [] h = refl
      nil_short (x ∷ l) h = absurd (false≢true h)

      go : (k : ℕ) →
          clear_due (every (λ t. not (is_nil (own t))) shards) (some (λ t. first_wanted (own t)) shards) (own s) k ≡ Some act →
          ⊥
      go zero h = none-some act h
      go (suc zero) h = omega (arith, long, nil_short (own s) (cond_some (is_nil (own s)) (Stage []) act h).0)
      go (suc (suc zero)) h =
          let a = every (λ t. not (is_nil (own t))) shards in
          let b = not (some (λ t. first_wanted (own t)) shards) in
          let c = (cond_some (a && (b && (length (own s) == 1))) Clear act h).0 in
          omega (arith, long, eqb-true (length (own s)) 1 (and_parts b _ (and_parts a _ c).1).1)
      go (suc (suc (suc k))) h =
          let a = every (λ t. not (is_nil (own t))) shards in
          let b = some (λ t. first_wanted (own t)) shards in
          let c = (cond_some (a && (b && (length (own s) == 1))) Unstage act h).0 in
          omega (arith, long, eqb-true (length (own s)) 1 (and_parts b _ (and_parts a _ c).1).1)

  -- of a command that is done nothing is due, unless it stopped behind its reads
  pub done_due : (kept : Bool) (reply : Reply) → Done shards i command own kept reply →
      GoesOn shards i command own kept reply j act
  done_due _ _ (Done.nowhere e n) = absurd (none-some act (at_course Nowhere e))
  done_due _ _ (Done.nowhere_wanted e n) = absurd (none-some act (at_course Nowhere e))
  done_due _ _ (Done.ran t reply e x n) = absurd (alone_spent t _ e x)
  done_due _ _ (Done.run_wanted t e x n) = absurd (alone_spent t _ e x)
  done_due _ _ (Done.changed K e shows some) =
      absurd (shows_spent shards i s command K (own s) act j (shows s)
      (spread_is (changes_on shards s command K) e
      (changes_read shards command own K pos e (λ t l. shows_read shards i t command K (own t) (shows t)) s)))
  done_due _ _ (Done.looked K e shows none) =
      absurd (shows_spent shards i s command K (own s) act j (shows s)
      (spread_is (changes_on shards s command K) e
      (changes_read shards command own K pos e (λ t l. shows_read shards i t command K (own t) (shows t)) s)))
  done_due _ _ (Done.stopped e stops) =
      let changes = changes_on shards s command (values_read shards command own) in
      let g = stops_stages shards i s command changes (own s) act j (stops s) (spread_is changes e refl) in
      record { stages = g.0; changes = changes; is_stage = sym g.1; stopped = stops; dropped = refl; answered = refl }
  done_due _ _ (Done.undone K e undoes some) =
      absurd (undoes_spent shards i s command K (own s) act j (undoes s)
      (spread_is (changes_on shards s command K) e
      (changes_read shards command own K pos e (λ t l. undoes_read shards i t command K (own t) (undoes t)) s)))
  done_due _ _ (Done.names pattern names e on) = absurd (each_spent Walk _ on (at_course courses.Names (ap (course_of shards) e)))
  done_due _ _ (Done.counts numbers e on) = absurd (each_spent Count _ on (at_course Counts (ap (course_of shards) e)))
  done_due _ _ (Done.names_wanted pattern told e on) = absurd (each_spent Walk _ on (at_course courses.Names (ap (course_of shards) e)))
  done_due _ _ (Done.counts_wanted told e on w) = absurd (each_spent Count _ on (at_course Counts (ap (course_of shards) e)))
  done_due _ _ (Done.cuts pairs reply e on w) = absurd (each_spent Begin _ on (at_course Cuts (ap (course_of shards) e)))
  done_due _ _ (Done.cleared e on) = absurd (clear_spent _ e on refl)
  done_due _ _ (Done.kept_all told e on w) = absurd (clear_spent _ e on refl)

-- ---- what is due of a call that is complete

module _ (shards : ℕ) (pos : 0 < shards) (whole : ℕ → List Step) (s hop : ℕ) (act : Act) (within : s < shards) where
  all_due : (i : ℕ) (commands : List Command) (steps : ℕ → List Step) (marks : List Bool) (replies : List Reply) →
      DoneAll shards i commands steps marks replies →
      ((t j : ℕ) → i ≤ j → of_command j (whole t) ≡ of_command j (steps t)) →
      due_from shards i commands whole s hop ≡ Some act → (hop % 4 ≡ 1) × ((changes : Changes) × (act ≡ Stage changes))
  all_due i [] steps marks replies g same due = absurd (none-some act due)
  all_due i (c ∷ commands) steps [] replies g same due = absurd g
  all_due i (c ∷ commands) steps (kept ∷ marks) [] g same due = absurd g
  all_due i (c ∷ commands) steps (kept ∷ marks) (reply ∷ replies) g same due =
      elim (either_some (hop / 4 == i) (may_end_by shards c (course_of shards c) (λ t. of_command i (whole t)))
      (due_by shards c (course_of shards c) (λ t. of_command i (whole t)) s (hop % 4)) (due_from shards (suc i) commands whole s hop) act due) [
        | inl d ↦ (
            let v = done_due shards i pos c g.0 s (hop % 4) act within
            (subst (λ own. due_by shards c (course_of shards c) own s (hop % 4) ≡ Some act) (λ k t. mine t k) d.1) kept reply g.3 in
            (v.stages, (v.changes, v.is_stage)))
        | inr d ↦ all_due (suc i) commands g.1 marks replies g.4 (λ t j le. same t j (omega (arith, le)) ∙ theirs t j le) d.1
      ]
    where
      mine : (t : ℕ) → of_command i (whole t) ≡ g.0 t
      mine t =
          same t i (omega arith) ∙ ap (of_command i) (g.2 t) ∙ of_append i (g.0 t) (g.1 t)
          ∙ ap (λ l. of_command i (g.0 t) ++ l) (of_before (suc i) i (g.1 t) (omega arith) (all_from shards (suc i) commands g.1 marks replies g.4 t))
          ∙ append-nil (of_command i (g.0 t)) ∙ of_itself i (g.0 t) (done_of shards i c g.0 kept reply g.3 t)

      theirs : (t j : ℕ) → suc i ≤ j → of_command j (steps t) ≡ of_command j (g.1 t)
      theirs t j le =
          ap (of_command j) (g.2 t) ∙ of_append j (g.0 t) (g.1 t)
          ∙ ap (λ l. l ++ of_command j (g.1 t)) (of_other i j (g.0 t) (λ e. omega (arith, le, e)) (done_of shards i c g.0 kept reply g.3 t))

-- a complete call has nothing due, unless a command stopped behind its reads and may yet stage
pub gives_due : (shards : ℕ) (call : Call) (steps : ℕ → List Step) (r : Reply) (s hop : ℕ) (act : Act) → 0 < shards →
    Gives shards call steps r → due shards call steps s hop ≡ Some act →
    (hop % 4 ≡ 1) × ((changes : Changes) × (act ≡ Stage changes))
gives_due shards call steps r s hop act pos g h =
    let d = of_gives shards call steps r g in
    all_due shards pos steps s hop act (due_within shards call steps s hop act h) 0 (commands_of call) steps d.0 d.1 d.2
    (λ t j le. refl) (due_of_commands shards call steps s hop act h)
