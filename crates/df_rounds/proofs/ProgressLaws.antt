-- How a call goes on from round to round and from command to command, to its reply.
use Rattle.std.proofs.Common.{◌≡◌, ℕ, suc, ◌+◌, ◌*◌, ◌/◌, ◌%◌, ◌<◌, ◌≤◌, Bool, true, false, cond, not, length, List, [], ◌∷◌, ◌++◌, refl, sym, ap, ◌∙◌, subst, arith, append-nil, append_assoc}
use Rattle.std.specs.Prelude.{Option, Some, None, ◌==◌, nat_lt}
use Rattle.std.proofs.lemmas.Bool.{false≢true, and_from, and_parts, lt-ltb, ltb-true, eq-eqb, ne_eqb}
use Rattle.std.proofs.lemmas.List.{length-append}
use Rattle.std.proofs.lemmas.Option.{none-some}
use Rattle.df_model.specs.Keyspace.{Keyspace}
use Rattle.df_model.specs.declared.command.Command.{Command}
use Rattle.df_model.specs.declared.command.Call.{Call}
use Rattle.df_model.specs.declared.command.Call.TheVariants.{Single, Exec}
use Rattle.df_model.specs.declared.reply.Reply.{Reply}
use Rattle.df_footprints.specs.Footprints.{commands_of}
use Rattle.df_order.specs.Lists.{cons_if}
use Rattle.df_log.specs.Acts.{Act, Run, Read, Stage, Apply, Unstage, Begin, Walk, Count, Clear, Told}
use Rattle.df_log.specs.Acts as acts
use Rattle.df_log.specs.Parts.{may_want, IsTold}
use Rattle.df_log.specs.Entries.{is_note}
use Rattle.df_log.specs.declared.entry.Entry.{Entry}
use Rattle.df_core.specs.Courses.{Course, Nowhere, Alone, Spread, Counts, Cuts, Clears, course_of}
use Rattle.df_core.specs.Courses as courses
use Rattle.df_core.specs.Steps.{Step, steps_of}
use Rattle.df_core.specs.Due.{every, of_command, all_below, none_behind, may_end_by, due_by, due_from, due}
use Rattle.df_core.specs.Done.{Done, DoneAll, Gives, want_of_memory}
use Rattle.df_core.proofs.HopLaws.{all_pass, Of, of_itself, of_other, of_append, of_before, done_of, all_from}
use Rattle.df_core.proofs.ReadLaws.{done_may_end}
use Rattle.df_book.specs.Logs.{uses}
use Rattle.df_end.specs.Rounds.{acts_in}
use Rattle.df_end.proofs.RoundLaws.{rounds_are_seen, calls_end}
use Rattle.df_end.proofs.AskedLaws.{steps-append}
use Rattle.df_rounds.specs.Standing.{Standing, Fresh, Once, Twice, Thrice, round_wanted, first_asked, second_asked, third_asked, asks, first_hop, second_hop, third_hop, hop_of, then_told, step_told, first_steps, second_steps, third_steps, steps_so_far, MayBeTold, AllMayBeTold, IsReached}
use Rattle.df_rounds.specs.Replies.{kept_of, reply_of}
use Rattle.df_rounds.specs.Progress.{Stands, asks_in, hop_in, steps_in, IsReachedIn, GoesOn, asks_next, hop_next, after_round, Answers, reply_to, CallsStart, NextIsDue, RoundsGoOn, SeenGoesOn, CommandsGoOn, CallsGive, OverGoesOn, StopGoesOn, EndsLeave}
use Rattle.df_rounds.proofs.ToldLaws.{some-found, on-found}
use Rattle.df_rounds.proofs.AskedLaws.{course-due}
use Rattle.df_rounds.proofs.OverLaws.{over_is_done, stop_is_done}

-- ---- the hops of a command

choice-of : (i : ℕ) (z : Bool) → (4 * i + cond z 3 2) / 4 ≡ i
choice-of i true = omega arith
choice-of i false = omega arith

module _ (shards i : ℕ) (command : Command) where
  first-of : (course : Course) → (4 * i + first_hop course) / 4 ≡ i
  first-of Nowhere = omega arith
  first-of (Alone t) = omega arith
  first-of Spread = omega arith
  first-of courses.Names = omega arith
  first-of Counts = omega arith
  first-of Cuts = omega arith
  first-of Clears = omega arith

  second-of : (course : Course) (a : ℕ → Told) → (4 * i + second_hop shards command course a) / 4 ≡ i
  second-of Nowhere a = omega arith
  second-of (Alone t) a = omega arith
  second-of Spread a = omega arith
  second-of courses.Names a = omega arith
  second-of Counts a = omega arith
  second-of Cuts a = omega arith
  second-of Clears a = choice-of i (round_wanted shards (first_asked shards command Clears) a)

  hop-of : (course : Course) (standing : Standing) → (4 * i + hop_of shards command course standing) / 4 ≡ i
  hop-of course Fresh = first-of course
  hop-of course (Once a) = second-of course a
  hop-of course (Twice a b) = choice-of i (round_wanted shards (second_asked shards command course a) b)
  hop-of course (Thrice a b c) = omega arith

  hop-rest : (j : ℕ) → (4 * i + j) / 4 ≡ i → (4 * i + j) % 4 ≡ j
  hop-rest j e = omega (arith, e)

  told-of : (h : ℕ) (o : Option Act) (x : Told) → h / 4 ≡ i → Of i (step_told h o x)
  told-of h None x e = tt
  told-of h (Some act) x e = (e, tt)

  both-of : (xs ys : List Step) → Of i xs → Of i ys → Of i (xs ++ ys)
  both-of [] ys o p = p
  both-of (x ∷ xs) ys o p = (o.0, both-of xs ys o.1 p)

  pub so-far-of : (course : Course) (standing : Standing) (s : ℕ) → Of i (steps_so_far shards i command course standing s)
  so-far-of course Fresh s = tt
  so-far-of course (Once a) s = told-of _ (asks shards command course Fresh s) (a s) (first-of course)
  so-far-of course (Twice a b) s =
      both-of (first_steps shards i command course a s) (second_steps shards i command course a b s)
      (told-of _ (asks shards command course Fresh s) (a s) (first-of course))
      (told-of _ (asks shards command course (Once a) s) (b s) (second-of course a))
  so-far-of course (Thrice a b c) s =
      both-of (first_steps shards i command course a s ++ second_steps shards i command course a b s) (third_steps shards i command course a b c s)
      (both-of (first_steps shards i command course a s) (second_steps shards i command course a b s)
      (told-of _ (asks shards command course Fresh s) (a s) (first-of course))
      (told-of _ (asks shards command course (Once a) s) (b s) (second-of course a)))
      (told-of _ (asks shards command course (Twice a b) s) (c s) (choice-of i (round_wanted shards (second_asked shards command course a) b)))

-- ---- hops below a number

below-both : (k : ℕ) (xs ys : List Step) → all_below k xs ≡ true → all_below k ys ≡ true → all_below k (xs ++ ys) ≡ true
below-both k [] ys e f = f
below-both k (x ∷ xs) ys e f =
    let p = and_parts (nat_lt x.hop k) (all_below k xs) e in
    and_from (nat_lt x.hop k) (all_below k (xs ++ ys)) p.0 (below-both k xs ys p.1 f)

below-more : (k m : ℕ) (xs : List Step) → k ≤ m → all_below k xs ≡ true → all_below m xs ≡ true
below-more k m [] le e = refl
below-more k m (x ∷ xs) le e =
    let p = and_parts (nat_lt x.hop k) (all_below k xs) e in
    and_from (nat_lt x.hop m) (all_below m xs) (lt-ltb x.hop m (omega (arith, le, ltb-true x.hop k p.0))) (below-more k m xs le p.1)

below-of : (i : ℕ) (xs : List Step) → Of i xs → all_below (4 * suc i) xs ≡ true
below-of i [] o = refl
below-of i (x ∷ xs) o =
    and_from (nat_lt x.hop (4 * suc i)) (all_below (4 * suc i) xs) (lt-ltb x.hop (4 * suc i) (omega (arith, o.0))) (below-of i xs o.1)

below-told : (h k : ℕ) (o : Option Act) (x : Told) → h < k → all_below k (step_told h o x) ≡ true
below-told h k None x lt = refl
below-told h k (Some act) x lt = and_from (nat_lt h k) true (lt-ltb h k lt) refl

-- steps of earlier commands are not of a later one
below-none : (i : ℕ) (xs : List Step) → all_below (4 * i) xs ≡ true → of_command i xs ≡ []
below-none i [] e = refl
below-none i (x ∷ xs) e =
    let p = and_parts (nat_lt x.hop (4 * i)) (all_below (4 * i) xs) e in
    ap (λ b. cond b (x ∷ of_command i xs) (of_command i xs))
    (ne_eqb (x.hop / 4) i (λ q. omega (arith, q, ltb-true x.hop (4 * i) p.0))) ∙ below-none i xs p.1

less-choice : (h i : ℕ) (z : Bool) → h < 4 * i + 2 → h < 4 * i + cond z 3 2
less-choice h i true lt = omega (arith, lt)
less-choice h i false lt = lt

module _ (shards i : ℕ) (command : Command) where
  -- a round is above the one before it
  second-above : (course : Course) (a : ℕ → Told) → 4 * i + first_hop course < 4 * i + second_hop shards command course a
  second-above Nowhere a = omega arith
  second-above (Alone t) a = omega arith
  second-above Spread a = omega arith
  second-above courses.Names a = omega arith
  second-above Counts a = omega arith
  second-above Cuts a = omega arith
  second-above Clears a = less-choice (4 * i + 1) i (round_wanted shards (first_asked shards command Clears) a) (omega arith)

  third-above : (course : Course) (a b : ℕ → Told) (s : ℕ) (act : Act) → asks shards command course (Twice a b) s ≡ Some act →
      4 * i + second_hop shards command course a < 4 * i + third_hop shards command course a b
  third-above Nowhere a b s act h = absurd (none-some act (on-found shards (third_asked shards command Nowhere a b) s act h).1)
  third-above (Alone t) a b s act h = absurd (none-some act (on-found shards (third_asked shards command (Alone t) a b) s act h).1)
  third-above Spread a b s act h = less-choice (4 * i + 1) i (round_wanted shards (second_asked shards command Spread a) b) (omega arith)
  third-above courses.Names a b s act h = absurd (none-some act (on-found shards (third_asked shards command courses.Names a b) s act h).1)
  third-above Counts a b s act h = absurd (none-some act (on-found shards (third_asked shards command Counts a b) s act h).1)
  third-above Cuts a b s act h = absurd (none-some act (on-found shards (third_asked shards command Cuts a b) s act h).1)
  third-above Clears a b s act h = absurd (none-some act (on-found shards (third_asked shards command Clears a b) s act h).1)

  so-far-below : (course : Course) (standing : Standing) (s : ℕ) (act : Act) → asks shards command course standing s ≡ Some act →
      all_below (4 * i + hop_of shards command course standing) (steps_so_far shards i command course standing s) ≡ true
  so-far-below course Fresh s act h = refl
  so-far-below course (Once a) s act h =
      below-told (4 * i + first_hop course) _ (asks shards command course Fresh s) (a s) (second-above course a)
  so-far-below course (Twice a b) s act h =
      let up = third-above course a b s act h in
      below-both (4 * i + third_hop shards command course a b) (first_steps shards i command course a s) (second_steps shards i command course a b s)
      (below-told (4 * i + first_hop course) _ (asks shards command course Fresh s) (a s) (omega (arith, up, second-above course a)))
      (below-told (4 * i + second_hop shards command course a) _ (asks shards command course (Once a) s) (b s) up)
  so-far-below course (Thrice a b c) s act h = absurd (none-some act h)

  asked-within : (course : Course) (standing : Standing) (s : ℕ) (act : Act) → asks shards command course standing s ≡ Some act → s < shards
  asked-within course Fresh s act h = (on-found shards (first_asked shards command course) s act h).0
  asked-within course (Once a) s act h = (on-found shards (second_asked shards command course a) s act h).0
  asked-within course (Twice a b) s act h = (on-found shards (third_asked shards command course a b) s act h).0
  asked-within course (Thrice a b c) s act h = absurd (none-some act h)

-- ---- the commands that are over

module _ (shards : ℕ) where
  before-below : (k : ℕ) (earlier : List Command) (before : ℕ → List Step) (marks : List Bool) (replies : List Reply) →
      DoneAll shards k earlier before marks replies → (s : ℕ) → all_below (4 * (k + length earlier)) (before s) ≡ true
  before-below k [] before [] [] d s = ap (all_below (4 * (k + 0))) (d s)
  before-below k [] before [] (r ∷ replies) d s = absurd d
  before-below k [] before (m ∷ marks) replies d s = absurd d
  before-below k (c ∷ earlier) before [] replies d s = absurd d
  before-below k (c ∷ earlier) before (m ∷ marks) [] d s = absurd d
  before-below k (c ∷ earlier) before (m ∷ marks) (r ∷ replies) d s =
      ap (all_below (4 * (k + suc (length earlier)))) (d.2 s)
      ∙ below-both (4 * (k + suc (length earlier))) (d.0 s) (d.1 s)
      (below-more (4 * suc k) (4 * (k + suc (length earlier))) (d.0 s) (omega arith) (below-of k (d.0 s) (done_of shards k c d.0 m r d.3 s)))
      (below-more (4 * (suc k + length earlier)) (4 * (k + suc (length earlier))) (d.1 s) (omega arith)
      (before-below (suc k) earlier d.1 marks replies d.4 s))

  -- one more command that is done
  snoc : (k j : ℕ) (earlier : List Command) (before : ℕ → List Step) (marks : List Bool) (replies : List Reply) →
      DoneAll shards k earlier before marks replies → j ≡ k + length earlier → (command : Command) (own : ℕ → List Step) (kept : Bool) (reply : Reply) →
      Done shards j command own kept reply → (steps : ℕ → List Step) → ((s : ℕ) → steps s ≡ before s ++ own s) →
      DoneAll shards k (earlier ++ command ∷ []) steps (marks ++ kept ∷ []) (replies ++ reply ∷ [])
  snoc k j [] before [] [] d e command own kept reply done steps is = (
    own,
    (λ s. []),
    (λ s. is s ∙ ap (λ l. l ++ own s) (d s) ∙ sym (append-nil (own s))),
    subst (λ m. Done shards m command own kept reply) (omega (arith, e)) done,
    (λ s. refl),
  )
  snoc k j [] before [] (r ∷ replies) d e command own kept reply done steps is = absurd d
  snoc k j [] before (m ∷ marks) replies d e command own kept reply done steps is = absurd d
  snoc k j (c ∷ earlier) before [] replies d e command own kept reply done steps is = absurd d
  snoc k j (c ∷ earlier) before (m ∷ marks) [] d e command own kept reply done steps is = absurd d
  snoc k j (c ∷ earlier) before (m ∷ marks) (r ∷ replies) d e command own kept reply done steps is = (
    d.0,
    (λ s. d.1 s ++ own s),
    (λ s. is s ∙ ap (λ l. l ++ own s) (d.2 s) ∙ append_assoc (d.0 s) (d.1 s) (own s)),
    d.3,
    snoc (suc k) j earlier d.1 marks replies d.4 (omega (arith, e)) command own kept reply done (λ s. d.1 s ++ own s) (λ s. refl),
  )

  module _ (pos : 0 < shards) (whole : ℕ → List Step) (s hop at : ℕ) (rest : List Command) (here : hop / 4 ≡ at) where
    -- a hop of a later command is due where the earlier ones are done
    due-after : (k : ℕ) (earlier : List Command) (before : ℕ → List Step) (marks : List Bool) (replies : List Reply) →
        DoneAll shards k earlier before marks replies → at ≡ k + length earlier →
        ((t j : ℕ) → k ≤ j → j < at → of_command j (whole t) ≡ of_command j (before t)) →
        due_from shards k (earlier ++ rest) whole s hop ≡ due_from shards at rest whole s hop
    due-after k [] before marks replies d e same =
        let is : k ≡ at = omega (arith, e) in ap (λ m. due_from shards m rest whole s hop) is
    due-after k (c ∷ earlier) before [] replies d e same = absurd d
    due-after k (c ∷ earlier) before (m ∷ marks) [] d e same = absurd d
    due-after k (c ∷ earlier) before (m ∷ marks) (r ∷ replies) d e same =
        (λ q. cond (not-here q) (due_by shards c (course_of shards c) (λ t. of_command k (whole t)) s (hop % 4))
        (cond (ends q) (due_from shards (suc k) (earlier ++ rest) whole s hop) None))
        ∙ due-after (suc k) earlier d.1 marks replies d.4 (omega (arith, e)) (λ t j le lt. same t j (omega (arith, le)) lt ∙ theirs t j le)
      where
        not-here : (hop / 4 == k) ≡ false
        not-here = ne_eqb (hop / 4) k (λ i. omega (arith, i, here, e))

        mine : (t : ℕ) → of_command k (whole t) ≡ d.0 t
        mine t =
            same t k (omega arith) (omega (arith, e)) ∙ ap (of_command k) (d.2 t) ∙ of_append k (d.0 t) (d.1 t)
            ∙ ap (λ l. of_command k (d.0 t) ++ l) (of_before (suc k) k (d.1 t) (omega arith) (all_from shards (suc k) earlier d.1 marks replies d.4 t))
            ∙ append-nil (of_command k (d.0 t)) ∙ of_itself k (d.0 t) (done_of shards k c d.0 m r d.3 t)

        theirs : (t j : ℕ) → suc k ≤ j → of_command j (before t) ≡ of_command j (d.1 t)
        theirs t j le =
            ap (of_command j) (d.2 t) ∙ of_append j (d.0 t) (d.1 t)
            ∙ ap (λ l. l ++ of_command j (d.1 t)) (of_other k j (d.0 t) (λ i. omega (arith, le, i)) (done_of shards k c d.0 m r d.3 t))

        ends : may_end_by shards c (course_of shards c) (λ t. of_command k (whole t)) ≡ true
        ends = ap (λ own. may_end_by shards c (course_of shards c) own) (λ q t. mine t q) ∙ done_may_end shards k pos c d.0 m r d.3

-- ---- what is asked is due

-- of a call whose commands `earlier` are done by the steps `before`, and whose next command stands so
module _ (shards : ℕ) (pos : 0 < shards) (call : Call) (earlier : List Command) (command : Command) (commands : List Command)
    (is-call : commands_of call ≡ earlier ++ command ∷ commands) (at : ℕ) (is-at : length earlier ≡ at) (before : ℕ → List Step)
    (marks : List Bool) (replies : List Reply) (done : DoneAll shards 0 earlier before marks replies) (standing : Standing)
    (steps : ℕ → List Step)
    (split : (s : ℕ) → steps s ≡ before s ++ steps_so_far shards at command (course_of shards command) standing s) (s : ℕ) (act : Act)
    (asked : asks shards command (course_of shards command) standing s ≡ Some act) where
  abbrev own : ℕ → List Step
  own t = steps_so_far shards at command (course_of shards command) standing t

  abbrev j : ℕ
  j = hop_of shards command (course_of shards command) standing

  low : (t : ℕ) → all_below (4 * at) (before t) ≡ true
  low t =
      let e : 4 * (0 + length earlier) ≡ 4 * at = omega (arith, is-at) in
      subst (λ k. all_below k (before t) ≡ true) e (before-below shards 0 earlier before marks replies done t)

  here : (4 * at + j) / 4 ≡ at
  here = hop-of shards at command (course_of shards command) standing

  own-of : (t : ℕ) → Of at (own t)
  own-of t = so-far-of shards at command (course_of shards command) standing t

  above : all_below (4 * at + j) (steps s) ≡ true
  above =
      ap (all_below (4 * at + j)) (split s)
      ∙ below-both (4 * at + j) (before s) (own s) (below-more (4 * at) (4 * at + j) (before s) (omega arith) (low s))
      (so-far-below shards at command (course_of shards command) standing s act asked)

  behind : every (λ t. none_behind ((4 * at + j) / 4) (steps t)) shards ≡ true
  behind =
      all_pass (λ t. none_behind ((4 * at + j) / 4) (steps t)) shards (λ t lt.
      (λ q. all_below (4 * suc (here q)) (split t q))
      ∙ below-both (4 * suc at) (before t) (own t) (below-more (4 * at) (4 * suc at) (before t) (omega arith) (low t)) (below-of at (own t) (own-of t)))

  mine : (t : ℕ) → of_command at (steps t) ≡ own t
  mine t =
      ap (of_command at) (split t) ∙ of_append at (before t) (own t)
      ∙ ap (λ l. l ++ of_command at (own t)) (below-none at (before t) (low t)) ∙ of_itself at (own t) (own-of t)

  theirs : (t i : ℕ) → 0 ≤ i → i < at → of_command i (steps t) ≡ of_command i (before t)
  theirs t i le lt =
      ap (of_command i) (split t) ∙ of_append i (before t) (own t)
      ∙ ap (λ l. of_command i (before t) ++ l) (of_other at i (own t) (λ e. omega (arith, lt, e)) (own-of t)) ∙ append-nil (of_command i (before t))

  now : due_from shards at (command ∷ commands) steps s (4 * at + j) ≡ Some act
  now =
      (λ q. cond (eq-eqb ((4 * at + j) / 4) at here q)
      (due_by shards command (course_of shards command) (λ t. mine t q) s (hop-rest shards at command j here q))
      (cond (may_end_by shards command (course_of shards command) (λ t. of_command at (steps t)))
      (due_from shards (suc at) commands steps s (4 * at + j)) None))
      ∙ course-due shards at command (course_of shards command) standing s act asked

  pub next-due : due shards call steps s (4 * at + j) ≡ Some act
  next-due =
      (λ q. cond (and_from (nat_lt s shards) _ (lt-ltb s shards (asked-within shards at command (course_of shards command) standing s act asked))
      (and_from (all_below (4 * at + j) (steps s)) _ above behind) q) (due_from shards 0 (is-call q) steps s (4 * at + j)) None)
      ∙ due-after shards pos steps s (4 * at + j) at (command ∷ commands) here 0 earlier before marks replies done (omega (arith, is-at)) theirs
      ∙ now

pub next_is_due : NextIsDue
next_is_due shards call progress steps s act pos st asked = go progress.left progress.standing st.commands st.split asked
  where
    go : (left : List Command) (standing : Standing) → commands_of call ≡ st.earlier ++ left →
        ((t : ℕ) → steps t ≡ st.before t ++ steps_in shards progress.at left standing t) → asks_in shards left standing s ≡ Some act →
        due shards call steps s (4 * progress.at + hop_in shards left standing) ≡ Some act
    go [] standing c split a = absurd (none-some act a)
    go (command ∷ commands) standing c split a =
        next-due shards pos call st.earlier command commands c progress.at st.at st.before st.marks progress.replies st.done standing steps split s act a

-- ---- going on

nothing-yet : (shards i : ℕ) (left : List Command) (s : ℕ) → steps_in shards i left Fresh s ≡ []
nothing-yet shards i [] s = refl
nothing-yet shards i (command ∷ commands) s = refl

reached-yet : (shards : ℕ) (left : List Command) → IsReachedIn shards left Fresh
reached-yet shards [] = refl
reached-yet shards (command ∷ commands) = tt

pub calls_start : CallsStart
calls_start shards call steps none = record {
  earlier = [];
  commands = refl;
  at = refl;
  before = λ s. [];
  marks = [];
  done = λ s. refl;
  reached = reached-yet shards (commands_of call);
  split = λ s. none s ∙ sym (nothing-yet shards 0 (commands_of call) s);
}

reached-more : (shards : ℕ) (left : List Command) (standing : Standing) (told : ℕ → Told) → IsReachedIn shards left standing →
    GoesOn shards left standing → AllMayBeTold shards (asks_in shards left standing) told → IsReachedIn shards left (then_told told standing)
reached-more shards [] standing told reached asked may = absurd asked
reached-more shards (command ∷ commands) Fresh told reached asked may = (asked, may)
reached-more shards (command ∷ commands) (Once a) told reached asked may = (reached.1, asked, may)
reached-more shards (command ∷ commands) (Twice a b) told reached asked may = (reached.0, reached.1, reached.2, asked, may)
reached-more shards (command ∷ commands) (Thrice a b c) told reached asked may = absurd (false≢true (some-found (λ s. false) shards asked).2)

steps-more : (shards i : ℕ) (left : List Command) (standing : Standing) (told : ℕ → Told) → GoesOn shards left standing → (s : ℕ) →
    steps_in shards i left standing s ++ step_told (4 * i + hop_in shards left standing) (asks_in shards left standing s) (told s)
    ≡ steps_in shards i left (then_told told standing) s
steps-more shards i [] standing told asked s = absurd asked
steps-more shards i (command ∷ commands) Fresh told asked s = refl
steps-more shards i (command ∷ commands) (Once a) told asked s = refl
steps-more shards i (command ∷ commands) (Twice a b) told asked s = refl
steps-more shards i (command ∷ commands) (Thrice a b c) told asked s = absurd (false≢true (some-found (λ t. false) shards asked).2)

pub rounds_go_on : RoundsGoOn
rounds_go_on shards call progress steps told st asked may = record {
  earlier = st.earlier;
  commands = st.commands;
  at = st.at;
  before = st.before;
  marks = st.marks;
  done = st.done;
  reached = reached-more shards progress.left progress.standing told st.reached asked may;
  split = λ s. (
      ap (λ l. l ++ step_told (hop_next shards progress) (asks_next shards progress s) (told s)) (st.split s)
      ∙ append_assoc (st.before s) (steps_in shards progress.at progress.left progress.standing s) (step_told (hop_next shards progress) (asks_next shards progress s) (told s))
      ∙ ap (λ l. st.before s ++ l) (steps-more shards progress.at progress.left progress.standing told asked s));
}

-- an act that may be told something is no note, and uses its ticket up
pub acts-use : (shards s : ℕ) (K : Keyspace) (act : Act) (told : Told) → IsTold shards s K act told → (is_note act ≡ false) × (uses act ≡ 1)
acts-use shards s K _ _ (IsTold.ran c) = (refl, refl)
acts-use shards s K _ _ (IsTold.read keys) = (refl, refl)
acts-use shards s K _ _ (IsTold.staged changes) = (refl, refl)
acts-use shards s K _ _ IsTold.applied = (refl, refl)
acts-use shards s K _ _ IsTold.unstaged = (refl, refl)
acts-use shards s K _ _ IsTold.began = (refl, refl)
acts-use shards s K _ _ IsTold.walked = (refl, refl)
acts-use shards s K _ _ IsTold.counted = (refl, refl)
acts-use shards s K _ _ IsTold.cleared = (refl, refl)
acts-use shards s K act _ (IsTold.wanted _ h) = takes act h
  where
    takes : (a : Act) → may_want a ≡ true → (is_note a ≡ false) × (uses a ≡ 1)
    takes (Run command) h = (refl, refl)
    takes (Read keys) h = (refl, refl)
    takes (Stage changes) h = (refl, refl)
    takes Apply h = (refl, refl)
    takes Unstage h = (refl, refl)
    takes Begin h = (refl, refl)
    takes Walk h = (refl, refl)
    takes Count h = (refl, refl)
    takes Clear h = (refl, refl)
    takes acts.Passed h = absurd (false≢true h)
    takes acts.Pull h = absurd (false≢true h)
    takes acts.Saved h = absurd (false≢true h)

-- the entry of an answer is the step that was asked for
answer-step : (shards s hop : ℕ) (asked : Option Act) (told : Told) (entry : Option Entry) → MayBeTold shards s asked told →
    Answers hop asked told entry → steps_of (acts_in entry) ≡ step_told hop asked told
answer-step shards s hop None told entry may a = ap (λ o. steps_of (acts_in o)) a
answer-step shards s hop (Some act) told entry may a =
    ap (λ o. steps_of (acts_in o)) a.1
    ∙ ap (λ b. steps_of (cons_if (not b) a.0 [])) (ap is_note (ap (λ x. x.act) a.2) ∙ (acts-use shards s may.0 act told may.1).0)
    ∙ ap (λ x. x ∷ []) a.2

pub seen_goes_on : SeenGoesOn
seen_goes_on shards n v u es round call progress told hopped r st asked may answers = (
  (λ s. es s ++ acts_in (round s)),
  rounds_are_seen shards n v u es round hopped r,
  subst (Stands shards call (after_round told progress))
      (λ q s. sym (steps-append (es s) (acts_in (round s))
      ∙ ap (λ l. steps_of (es s) ++ l) (answer-step shards s (hop_next shards progress) (asks_next shards progress s) (told s) (round s) (may s) (answers s))) q)
      (rounds_go_on shards call progress (λ s. steps_of (es s)) told st asked may),
)

pub commands_go_on : CommandsGoOn
commands_go_on shards call progress steps command commands kept reply st is done = record {
  earlier = st.earlier ++ command ∷ [];
  commands = st.commands ∙ ap (λ l. st.earlier ++ l) is ∙ sym (append_assoc st.earlier (command ∷ []) commands);
  at = length-append st.earlier (command ∷ []) ∙ omega (arith, st.at);
  before = steps;
  marks = st.marks ++ kept ∷ [];
  done = snoc shards 0 progress.at st.earlier st.before st.marks progress.replies st.done (omega (arith, st.at)) command
      (steps_so_far shards progress.at command (course_of shards command) progress.standing) kept reply done steps
      (λ s. st.split s ∙ ap (λ l. st.before s ++ steps_in shards progress.at l progress.standing s) is);
  reached = reached-yet shards commands;
  split = λ s. sym (append-nil (steps s)) ∙ ap (λ l. steps s ++ l) (sym (nothing-yet shards (suc progress.at) commands s));
}

-- what was told of the next command is as it stands
reached-there : (shards : ℕ) (left : List Command) (command : Command) (commands : List Command) (standing : Standing) → left ≡ command ∷ commands →
    IsReachedIn shards left standing → IsReached shards command (course_of shards command) standing
reached-there shards left command commands standing is reached = subst (λ l. IsReachedIn shards l standing) is reached

pub over_goes_on : OverGoesOn
over_goes_on shards call progress steps command commands saved pos st is over saves =
    let course = course_of shards command in
    commands_go_on shards call progress steps command commands (kept_of shards command course progress.standing)
    (reply_of shards command course saved progress.standing) st is
    (over_is_done shards progress.at command progress.standing saved pos (reached-there shards progress.left command commands progress.standing is st.reached) over saves)

pub stop_goes_on : StopGoesOn
stop_goes_on shards call progress steps command commands pos st is stops =
    commands_go_on shards call progress steps command commands false want_of_memory st is
    (stop_is_done shards progress.at command progress.standing pos (reached-there shards progress.left command commands progress.standing is st.reached) stops)

-- ---- the reply

gives : (shards : ℕ) (call : Call) (steps : ℕ → List Step) (marks : List Bool) (replies : List Reply) →
    DoneAll shards 0 (commands_of call) steps marks replies → Gives shards call steps (reply_to call replies)
gives shards (Single command) steps [] replies d = absurd d
gives shards (Single command) steps (kept ∷ marks) [] d = absurd d
gives shards (Single command) steps (kept ∷ []) (reply ∷ []) d = (kept, d)
gives shards (Single command) steps (kept ∷ m ∷ marks) (reply ∷ replies) d = absurd d.4
gives shards (Single command) steps (kept ∷ []) (reply ∷ r ∷ replies) d = absurd d.4
gives shards (Exec commands) steps marks replies d = (marks, replies, refl, d)

pub calls_give : CallsGive
calls_give shards call progress steps st none =
    gives shards call steps st.marks progress.replies
    (subst (λ cs. DoneAll shards 0 cs steps st.marks progress.replies) (sym (st.commands ∙ ap (λ l. st.earlier ++ l) none ∙ append-nil st.earlier))
    (subst (λ f. DoneAll shards 0 st.earlier f st.marks progress.replies) (λ q s. sym (same s) q) st.done))
  where
    same : (s : ℕ) → steps s ≡ st.before s
    same s = st.split s ∙ ap (λ l. st.before s ++ steps_in shards progress.at l progress.standing s) none ∙ append-nil (st.before s)

pub ends_leave : EndsLeave
ends_leave shards u d es progress hopped st none =
    (calls_end shards u d es hopped).0 (reply_to d.call progress.replies) (calls_give shards d.call progress (λ s. steps_of (es s)) st none)
