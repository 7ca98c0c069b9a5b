-- Quick calls: they ask for something on one shard, and are complete behind the one hop that they have there.
use Rattle.std.proofs.Common.{◌≡◌, ◌≢◌, ◌⊎◌, inl, inr, ℕ, suc, ◌*◌, ◌/◌, ◌%◌, ◌<◌, ◌++◌, Bool, true, false, cond, ◌&&◌, List, [], ◌∷◌, refl, sym, ap, ◌∙◌, subst, arith, append-nil}
use Rattle.std.specs.Prelude.{Some, None, ◌==◌}
use Rattle.std.proofs.lemmas.Bool.{false≢true, true≢false, and_parts, eqb-true}
use Rattle.std.proofs.lemmas.Option.{none-some}
use Rattle.df_model.specs.Keyspace.{Keyspace, no_keys}
use Rattle.df_model.specs.Meaning.{meaning}
use Rattle.df_model.specs.Outcomes.{ok}
use Rattle.df_model.specs.declared.command.Command.{Command}
use Rattle.df_model.specs.declared.command.Call.{Call}
use Rattle.df_model.specs.declared.reply.Reply.{Reply}
use Rattle.df_footprints.specs.Footprints.{commands_of, footprint_of}
use Rattle.df_order.specs.Lists.{Has}
use Rattle.df_log.specs.Acts.{Changes, Act, Run, Read, Stage, Apply, Unstage, Begin, Walk, Count, Clear, Told, Ran, Number, Cut, NoMemory}
use Rattle.df_log.specs.Acts as acts
use Rattle.df_log.specs.Parts.{own_keys, IsTold}
use Rattle.df_log.specs.declared.entry.Entry.{Entry}
use Rattle.df_core.specs.Courses.{Course, Nowhere, Alone, Spread, Counts, Cuts, Clears, course_of, keys_on, changes_on, are_quick, is_quick, has_hop}
use Rattle.df_core.specs.Courses as courses
use Rattle.df_core.specs.Due.{every, is_nil, first_due, due_by, may_end_by, of_command, due_from, IsNext}
use Rattle.df_core.specs.Steps.{Step, step_of, steps_of}
use Rattle.df_core.specs.Done.{want_of_memory, first_step, OnEach, Done, DoneAll, Gives}
use Rattle.df_core.proofs.CourseLaws.{names_whole, counts_whole, cuts_whole}
use Rattle.df_core.proofs.StepLaws.{run_told, walk_told, count_told, told_cut}
use Rattle.df_core.proofs.StandLaws.{On, on_where_asked, on_hop, quick_on}
use Rattle.df_core.proofs.DueLaws.{cond_found, either_some, first_due_is, due_within, due_of_commands}
use Rattle.df_core.proofs.CompleteLaws.{Hopless, no_hop, asked, none_done, gives_of}

tail_none : (b q h n m k : Bool) → b ≡ true → cond b (q && cond h false n) m ≡ true → (h ≡ false) × (cond b (q && n) k ≡ true)
tail_none true true true n m k e f = absurd (false≢true f)
tail_none true true false n m k e f = (refl, f)
tail_none true false h n m k e f = absurd (false≢true f)
tail_none false q h n m k e f = absurd (false≢true e)

quick_head : (b q n m : Bool) → b ≡ true → cond b (q && n) m ≡ true → q ≡ true
quick_head true q n m e f = (and_parts q n f).0
quick_head false q n m e f = absurd (false≢true e)

quick_skip : (b x m : Bool) → b ≡ false → cond b x m ≡ true → m ≡ true
quick_skip true x m e f = absurd (true≢false e)
quick_skip false x m e f = f

module _ (shards : ℕ) where
  -- behind the one command with a hop stand none
  none_behind_quick : (c : Command) (commands : List Command) → has_hop (course_of shards c) ≡ true →
      are_quick shards (c ∷ commands) ≡ true → (d : Command) → Has commands d → Hopless shards d
  none_behind_quick c [] e q d h = absurd h
  none_behind_quick c (x ∷ commands) e q d h =
      let v = tail_none (has_hop (course_of shards c)) (is_quick shards (course_of shards c))
      (has_hop (course_of shards x)) _ _ (are_quick shards commands) e q in
      elim h [
        | inl i ↦ ap (λ y. has_hop (course_of shards y)) (sym i) ∙ v.0
        | inr k ↦ none_behind_quick c commands e v.1 d k
      ]

  -- a quick call has one command with a hop
  quick_split : (commands : List Command) → are_quick shards commands ≡ true →
      (c : Command) × Has commands c × (is_quick shards (course_of shards c) ≡ true)
      × ((d : Command) → Has commands d → has_hop (course_of shards d) ≡ true → d ≡ c)
  quick_split [] e = absurd (false≢true e)
  quick_split (c ∷ commands) e = go (has_hop (course_of shards c)) refl (quick_split commands)
    where
      go : (b : Bool) → has_hop (course_of shards c) ≡ b →
          (are_quick shards commands ≡ true
          → (x : Command) × Has commands x × (is_quick shards (course_of shards x) ≡ true)
          × ((d : Command) → Has commands d → has_hop (course_of shards d) ≡ true → d ≡ x)) →
          (x : Command) × Has (c ∷ commands) x × (is_quick shards (course_of shards x) ≡ true)
          × ((d : Command) → Has (c ∷ commands) d → has_hop (course_of shards d) ≡ true → d ≡ x)
      go true i more = (
        c,
        inl refl,
        quick_head (has_hop (course_of shards c)) (is_quick shards (course_of shards c)) _ _ i e,
        λ d h k. elim h [ inl j ↦ sym j | inr m ↦ absurd (false≢true (sym (none_behind_quick c commands i e d m) ∙ k)) ],
      )
      go false i more =
          let v = more (quick_skip (has_hop (course_of shards c)) _ (are_quick shards commands) i e) in (
            v.0,
            inr v.1,
            v.2,
            λ d h k. elim h [ inl j ↦ absurd (false≢true (sym i ∙ ap (λ y. has_hop (course_of shards y)) j ∙ k)) | inr m ↦ v.3 d m k ],
          )

  -- a quick call asks for something on one shard
  pub quick_one : (call : Call) (s t : ℕ) → are_quick shards (commands_of call) ≡ true →
      footprint_of shards call s ≢ None → footprint_of shards call t ≢ None → t ≡ s
  quick_one call s t q hs ht =
      let v = quick_split (commands_of call) q in
      let here = asked shards call s hs in
      let there = asked shards call t ht in
      let a = on_where_asked shards s (commands_of call) here.1 in
      let b = on_where_asked shards t (commands_of call) there.1 in
      quick_on shards s t v.0 v.2 here.0 there.0
      (subst (On shards s) (v.3 a.0 a.1 (on_hop shards s a.0 a.2)) a.2)
      (subst (On shards t) (v.3 b.0 b.1 (on_hop shards t b.0 b.2)) b.2)

-- ---- a quick call is complete behind its one hop

abbrev no_step : ℕ → List Step
no_step t = []

-- a command with one hop isn't over before it
not_ended : (shards : ℕ) (command : Command) (course : Course) → is_quick shards course ≡ true →
    may_end_by shards command course no_step ≡ true → ⊥
not_ended shards command Nowhere q e = false≢true q
not_ended shards command (Alone t) q e = false≢true e
not_ended shards command Spread q e = false≢true q
not_ended shards command courses.Names q e = false≢true (subst (λ n. every (λ t. false) n ≡ true) (eqb-true shards 1 q) e)
not_ended shards command Counts q e = false≢true (subst (λ n. every (λ t. false) n ≡ true) (eqb-true shards 1 q) e)
not_ended shards command Cuts q e = false≢true (subst (λ n. every (λ t. false) n ≡ true) (eqb-true shards 1 q) e)
not_ended shards command Clears q e = false≢true q

-- one step on one shard, told what it gives
module _ (shards s : ℕ) (st : Step) (steps : ℕ → List Step) (K : Keyspace) (within : s < shards) (told : IsTold shards s K st.act st.told)
    (here : steps s ≡ st ∷ []) (there : (t : ℕ) → t ≢ s → steps t ≡ []) where
  is_first : (i : ℕ) (act : Act) (answer : Told) → st.hop ≡ 4 * i → act ≡ st.act → st.told ≡ answer →
      steps s ≡ first_step i act answer ∷ []
  is_first i act answer p q r = here ∙ λ j. record { hop = p j; act = sym q j; told = r j } ∷ []

  -- with one shard it is that of each
  on_one : (x : Step) → shards ≡ 1 → steps s ≡ x ∷ [] → OnEach shards steps (λ t. x ∷ [])
  on_one x one e = record {
    within = λ t lt. subst (λ u. steps u ≡ x ∷ []) (omega (arith, one, within, lt)) e;
    beyond = λ t ge. there t (λ i. omega (arith, within, ge, i));
  }

  -- the one hop of a command is all that it has to do
  hit : (i : ℕ) (command : Command) (course : Course) → course_of shards command ≡ course →
      is_quick shards course ≡ true → st.hop / 4 ≡ i →
      due_by shards command course no_step s (st.hop % 4) ≡ Some st.act →
      (kept : Bool) × (reply : Reply) × Done shards i command steps kept reply
  hit i command Nowhere e q at due = absurd (false≢true q)
  hit i command (Alone t) e q at due =
      let p = cond_found (t == s) (first_due (Run command) [] (st.hop % 4)) st.act due in
      let f = first_due_is (Run command) st.act [] (st.hop % 4) p.1 in
      let alone : course_of shards command ≡ Alone s = e ∙ ap Alone (eqb-true t s p.0) in
      let hop : st.hop ≡ 4 * i = omega (arith, at, f.0) in
      elim (run_told shards s K command st.told (subst (λ a. IsTold shards s K a st.told) (sym f.2) told)) [
        | inl r ↦ (true, r.0, Done.ran s r.0 alone (is_first i (Run command) (Ran r.0) hop f.2 r.1) there)
        | inr w ↦ (false, want_of_memory, Done.run_wanted s alone (is_first i (Run command) NoMemory hop f.2 w) there)
      ]
  hit i command Spread e q at due = absurd (false≢true q)
  hit i command courses.Names e q at due =
      let f = first_due_is Walk st.act [] (st.hop % 4) due in
      let c = names_whole shards command e in
      let hop : st.hop ≡ 4 * i = omega (arith, at, f.0) in
      elim (walk_told shards s K st.told (subst (λ a. IsTold shards s K a st.told) (sym f.2) told)) [
        | inl r ↦ (
          false,
          _,
          Done.names c.0 (λ t. r.0) c.1
              (on_one (first_step i Walk (acts.Names r.0)) (eqb-true shards 1 q) (is_first i Walk (acts.Names r.0) hop f.2 r.1)),
        )
        | inr w ↦ (
          false,
          want_of_memory,
          Done.names_wanted c.0 (λ t. NoMemory) c.1
              (on_one (first_step i Walk NoMemory) (eqb-true shards 1 q) (is_first i Walk NoMemory hop f.2 w)),
        )
      ]
  hit i command Counts e q at due =
      let f = first_due_is Count st.act [] (st.hop % 4) due in
      let c = counts_whole shards command e in
      let hop : st.hop ≡ 4 * i = omega (arith, at, f.0) in
      elim (count_told shards s K st.told (subst (λ a. IsTold shards s K a st.told) (sym f.2) told)) [
        | inl r ↦ (
          false,
          _,
          Done.counts (λ t. r.0) c
              (on_one (first_step i Count (Number r.0)) (eqb-true shards 1 q) (is_first i Count (Number r.0) hop f.2 r.1)),
        )
        | inr w ↦ (
          false,
          want_of_memory,
          Done.counts_wanted (λ t. NoMemory) c
              (on_one (first_step i Count NoMemory) (eqb-true shards 1 q) (is_first i Count NoMemory hop f.2 w)) (s, within, refl),
        )
      ]
  hit i command Cuts e q at due =
      let f = first_due_is Begin st.act [] (st.hop % 4) due in
      let hop : st.hop ≡ 4 * i = omega (arith, at, f.0) in
      let cut : Keyspace = own_keys shards s K in
      let r = told_cut shards s K st.told (subst (λ a. IsTold shards s K a st.told) (sym f.2) told) in (
        false,
        ok,
        Done.cuts (λ t. cut) ok (cuts_whole shards command e)
            (on_one (first_step i Begin (Cut cut)) (eqb-true shards 1 q) (is_first i Begin (Cut cut) hop f.2 r)) (inl refl),
      )
  hit i command Clears e q at due = absurd (false≢true q)

  quick_from : (i : ℕ) (commands : List Command) → are_quick shards commands ≡ true →
      due_from shards i commands no_step s st.hop ≡ Some st.act →
      (marks : List Bool) × (replies : List Reply) × DoneAll shards i commands steps marks replies
  quick_from i [] q due = absurd (none-some st.act due)
  quick_from i (c ∷ commands) q due = go (has_hop (course_of shards c)) refl (quick_from (suc i) commands)
    where
      go : (b : Bool) → has_hop (course_of shards c) ≡ b →
          (are_quick shards commands ≡ true → due_from shards (suc i) commands no_step s st.hop ≡ Some st.act
          → (marks : List Bool) × (replies : List Reply) × DoneAll shards (suc i) commands steps marks replies) →
          (marks : List Bool) × (replies : List Reply) × DoneAll shards i (c ∷ commands) steps marks replies
      go false e more = elim (either_some (st.hop / 4 == i) (may_end_by shards c (course_of shards c) no_step)
          (due_by shards c (course_of shards c) no_step s (st.hop % 4)) (due_from shards (suc i) commands no_step s st.hop) st.act due) [
            | inl d ↦ absurd (none-some st.act (sym (ap (λ k. due_by shards c k no_step s (st.hop % 4)) (no_hop (course_of shards c) e)) ∙ d.1))
            | inr d ↦ (
                let v = more (quick_skip (has_hop (course_of shards c)) _ (are_quick shards commands) e q) d.1 in (
                  false ∷ v.0,
                  (meaning c no_keys).0 ∷ v.1,
                  ((λ t. []), steps, (λ t. refl), Done.nowhere (no_hop (course_of shards c) e) (λ t. refl), v.2),
                ))
          ]
      go true e more =
          let quick = quick_head (has_hop (course_of shards c)) (is_quick shards (course_of shards c)) _ _ e q in
          elim (either_some (st.hop / 4 == i) (may_end_by shards c (course_of shards c) no_step)
          (due_by shards c (course_of shards c) no_step s (st.hop % 4)) (due_from shards (suc i) commands no_step s st.hop) st.act due) [
            | inl d ↦ (
                let h = hit i c (course_of shards c) refl quick (eqb-true (st.hop / 4) i d.0) d.1 in
                let v = none_done shards (suc i) commands no_step (none_behind_quick shards c commands e q) (λ t. refl) in
                (h.0 ∷ v.0, h.1 ∷ v.1, (steps, no_step, (λ t. sym (append-nil (steps t))), h.2, v.2)))
            | inr d ↦ absurd (not_ended shards c (course_of shards c) quick d.0)
          ]

-- where no command has a hop none is due
hopless_due : (shards i : ℕ) (commands : List Command) (steps : ℕ → List Step) (t hop : ℕ) (act : Act) →
    ((d : Command) → Has commands d → Hopless shards d) → due_from shards i commands steps t hop ≡ Some act → ⊥
hopless_due shards i [] steps t hop act none due = none-some act due
hopless_due shards i (c ∷ commands) steps t hop act none due =
    let own : ℕ → List Step = λ u. of_command i (steps u) in
    elim (either_some (hop / 4 == i) (may_end_by shards c (course_of shards c) own)
    (due_by shards c (course_of shards c) own t (hop % 4)) (due_from shards (suc i) commands steps t hop) act due) [
      | inl d ↦ none-some act (sym (ap (λ k. due_by shards c k own t (hop % 4)) (no_hop (course_of shards c) (none c (inl refl)))) ∙ d.1)
      | inr d ↦ hopless_due shards (suc i) commands steps t hop act (λ x k. none x (inr k)) d.1
    ]

-- the one step of a quick call, and then another
module _ (shards s t : ℕ) (st : Step) (steps : ℕ → List Step) (within : s < shards) (beside : t < shards)
    (here : steps s ≡ st ∷ []) (hop : ℕ) (act : Act) where
  its_own : (i : ℕ) → (st.hop / 4 == i) ≡ true → of_command i (steps s) ≡ st ∷ []
  its_own i e = ap (of_command i) here ∙ ap (λ b. cond b (st ∷ []) []) e

  taken : (i j : ℕ) (next : Act) → (st.hop / 4 == i) ≡ true → t ≡ s → first_due next (of_command i (steps t)) j ≡ Some act → ⊥
  taken i j next e same due =
      let f = first_due_is next act (of_command i (steps t)) j due in
      false≢true (sym (ap is_nil (ap (λ u. of_command i (steps u)) same ∙ its_own i e)) ∙ f.1)

  -- what was due of it isn't due again
  once : (i : ℕ) (command : Command) (course : Course) → is_quick shards course ≡ true → (st.hop / 4 == i) ≡ true →
      due_by shards command course no_step s (st.hop % 4) ≡ Some st.act →
      due_by shards command course (λ u. of_command i (steps u)) t (hop % 4) ≡ Some act → ⊥
  once i command Nowhere q e first due = false≢true q
  once i command (Alone u) q e first due =
      let a = cond_found (u == s) (first_due (Run command) [] (st.hop % 4)) st.act first in
      let b = cond_found (u == t) (first_due (Run command) (of_command i (steps t)) (hop % 4)) act due in
      taken i (hop % 4) (Run command) e (sym (eqb-true u t b.0) ∙ eqb-true u s a.0) b.1
  once i command Spread q e first due = false≢true q
  once i command courses.Names q e first due = taken i (hop % 4) Walk e (omega (arith, eqb-true shards 1 q, within, beside)) due
  once i command Counts q e first due = taken i (hop % 4) Count e (omega (arith, eqb-true shards 1 q, within, beside)) due
  once i command Cuts q e first due = taken i (hop % 4) Begin e (omega (arith, eqb-true shards 1 q, within, beside)) due
  once i command Clears q e first due = false≢true q

  spent : (i : ℕ) (commands : List Command) → are_quick shards commands ≡ true →
      due_from shards i commands no_step s st.hop ≡ Some st.act → due_from shards i commands steps t hop ≡ Some act → ⊥
  spent i [] q first due = none-some act due
  spent i (c ∷ commands) q first due = go (has_hop (course_of shards c)) refl (spent (suc i) commands)
    where
      earlier : ((st.hop / 4 == i) ≡ true) × (due_by shards c (course_of shards c) no_step s (st.hop % 4) ≡ Some st.act)
          ⊎ (may_end_by shards c (course_of shards c) no_step ≡ true)
          × (due_from shards (suc i) commands no_step s st.hop ≡ Some st.act)
      earlier = either_some (st.hop / 4 == i) (may_end_by shards c (course_of shards c) no_step)
          (due_by shards c (course_of shards c) no_step s (st.hop % 4)) (due_from shards (suc i) commands no_step s st.hop) st.act first

      later : ((hop / 4 == i) ≡ true)
          × (due_by shards c (course_of shards c) (λ u. of_command i (steps u)) t (hop % 4) ≡ Some act)
          ⊎ (may_end_by shards c (course_of shards c) (λ u. of_command i (steps u)) ≡ true)
          × (due_from shards (suc i) commands steps t hop ≡ Some act)
      later = either_some (hop / 4 == i) (may_end_by shards c (course_of shards c) (λ u. of_command i (steps u)))
          (due_by shards c (course_of shards c) (λ u. of_command i (steps u)) t (hop % 4)) (due_from shards (suc i) commands steps t hop) act due

      go : (b : Bool) → has_hop (course_of shards c) ≡ b →
          (are_quick shards commands ≡ true → due_from shards (suc i) commands no_step s st.hop ≡ Some st.act
          → due_from shards (suc i) commands steps t hop ≡ Some act → ⊥) →
          ⊥
      go false e more =
          let nowhere = no_hop (course_of shards c) e in
          elim earlier [
            | inl d ↦ none-some st.act (sym (ap (λ k. due_by shards c k no_step s (st.hop % 4)) nowhere) ∙ d.1)
            | inr d ↦ elim later [
              | inl x ↦ none-some act (sym (ap (λ k. due_by shards c k (λ u. of_command i (steps u)) t (hop % 4)) nowhere) ∙ x.1)
              | inr x ↦ more (quick_skip (has_hop (course_of shards c)) _ (are_quick shards commands) e q) d.1 x.1
            ]
          ]
      go true e more =
          let quick = quick_head (has_hop (course_of shards c)) (is_quick shards (course_of shards c)) _ _ e q in
          elim earlier [
            | inl d ↦ elim later [
              | inl x ↦ once i c (course_of shards c) quick d.0 d.1 x.1
              | inr x ↦ hopless_due shards (suc i) commands steps t hop act (none_behind_quick shards c commands e q) x.1
            ]
            | inr d ↦ not_ended shards c (course_of shards c) quick d.0
          ]

-- a quick call is complete behind its next hop, where that was told what it gives and nothing ran before
pub quick_whole : (shards : ℕ) (call : Call) (es es' : ℕ → List Entry) (s : ℕ) (e : Entry) (K : Keyspace) →
    are_quick shards (commands_of call) ≡ true → IsNext shards call es s e → IsTold shards s K e.act e.told →
    ((t : ℕ) → es t ≡ []) → es' s ≡ es s ++ e ∷ [] → ((t : ℕ) → t ≢ s → es' t ≡ es t) →
    (r : Reply) × Gives shards call (λ t. steps_of (es' t)) r
quick_whole shards call es es' s e K q next told none here there =
    let bare : (λ t. steps_of (es t)) ≡ (λ t. []) = λ j t. steps_of (none t j) in
    let v = quick_from shards s (step_of e) (λ t. steps_of (es' t)) K (due_within shards call (λ t. steps_of (es t)) s e.hop e.act next) told
    (ap steps_of (here ∙ ap (λ l. l ++ e ∷ []) (none s))) (λ t ne. ap steps_of (there t ne ∙ none t)) 0 (commands_of call) q
    (subst (λ f. due_from shards 0 (commands_of call) f s e.hop ≡ Some e.act) bare
    (due_of_commands shards call (λ t. steps_of (es t)) s e.hop e.act next)) in
    gives_of shards call (λ t. steps_of (es' t)) v.0 v.1 v.2

-- and nothing of it is next then
pub quick_last : (shards : ℕ) (call : Call) (es es' : ℕ → List Entry) (s t : ℕ) (e f : Entry) →
    are_quick shards (commands_of call) ≡ true → IsNext shards call es s e → ((u : ℕ) → es u ≡ []) →
    es' s ≡ es s ++ e ∷ [] → IsNext shards call es' t f → ⊥
quick_last shards call es es' s t e f q next none here again =
    let bare : (λ u. steps_of (es u)) ≡ no_step = λ j u. steps_of (none u j) in
    spent shards s t (step_of e) (λ u. steps_of (es' u)) (due_within shards call (λ u. steps_of (es u)) s e.hop e.act next)
    (due_within shards call (λ u. steps_of (es' u)) t f.hop f.act again)
    (ap steps_of (here ∙ ap (λ l. l ++ e ∷ []) (none s))) f.hop f.act 0 (commands_of call) q
    (subst (λ g. due_from shards 0 (commands_of call) g s e.hop ≡ Some e.act) bare
    (due_of_commands shards call (λ u. steps_of (es u)) s e.hop e.act next))
    (due_of_commands shards call (λ u. steps_of (es' u)) t f.hop f.act again)
