-- What a command asks of its shards next is due there.
use Rattle.std.proofs.Common.{◌≡◌, ℕ, ◌+◌, ◌*◌, ◌<◌, Bool, true, false, cond, not, is_some, length, List, [], ◌∷◌, ◌++◌, refl, sym, ap, ◌∙◌, subst, append-nil}
use Rattle.std.specs.Prelude.{Some, None, ◌==◌, ◌&&◌, ◌||◌, nat_lt}
use Rattle.std.proofs.lemmas.Bool.{and_from, not_from_false}
use Rattle.std.proofs.lemmas.Option.{none-some}
use Rattle.df_model.specs.Values.{Bytes}
use Rattle.df_model.specs.declared.command.Command.{Command}
use Rattle.df_log.specs.Acts.{Changes, Act, Stage, Apply, Unstage, Clear, Told}
use Rattle.df_log.specs.Parts.{did}
use Rattle.df_core.specs.Courses.{Course, Nowhere, Alone, Spread, Counts, Cuts, Clears, course_of, keys_on, changes_on}
use Rattle.df_core.specs.Courses as courses
use Rattle.df_core.specs.Steps.{Step}
use Rattle.df_core.specs.Due.{every, some, is_nil, values_read, all_read, all_staged, first_wanted, second_wanted, spread_due, clear_due, due_by}
use Rattle.df_core.proofs.HopLaws.{all_pass}
use Rattle.df_rounds.specs.Standing.{Standing, Fresh, Once, Twice, Thrice, round_wanted, read_of, stage_of, values_told, first_asked, second_asked, third_asked, asks, hop_of, second_hop, third_hop, step_told, first_steps, second_steps, steps_so_far, AskedIsDue, ListsGoOn}
use Rattle.df_rounds.proofs.ToldLaws.{some-same, on-in, on-found, not_so, keyless, stage-some, end-some, staged-at, second-at, two-long, one-long, reads-all, reads-wanted, reads-values, no-second}

-- ---- one due act, by its tests

reading-due : (keys : List Bytes) (changes : Changes) (read staged wanted : Bool) (act : Act) → read_of keys ≡ Some act →
    spread_due keys changes read staged wanted [] 0 ≡ Some act
reading-due [] changes read staged wanted act e = absurd (none-some act e)
reading-due (k ∷ keys) changes read staged wanted act e = e

staging-due : (keys : List Bytes) (changes : Changes) (read staged wanted : Bool) (steps : List Step) (act : Act) → read ≡ true →
    length steps ≡ 1 → stage_of changes ≡ Some act → spread_due keys changes read staged wanted steps 1 ≡ Some act
staging-due keys changes read staged wanted steps act r l e =
    let p = stage-some changes act e in
    (λ j. cond (r j && (p.0 j && (l j == 1))) (Some (p.1 j)) None)

ending-due : (keys : List Bytes) (changes : Changes) (read staged wanted z : Bool) (steps : List Step) → read ≡ true → staged ≡ true →
    wanted ≡ z → not (is_nil changes) ≡ true → length steps ≡ 2 →
    spread_due keys changes read staged wanted steps (cond z 3 2) ≡ Some (cond z Unstage Apply)
ending-due keys changes read staged wanted true steps r s w c l = λ j. cond (r j && (s j && (w j && (c j && (l j == 2))))) (Some Unstage) None
ending-due keys changes read staged wanted false steps r s w c l = λ j. cond (r j && (s j && (not (w j) && (c j && (l j == 2))))) (Some Apply) None

clearing-due : (staged wanted z : Bool) (steps : List Step) → staged ≡ true → wanted ≡ z → length steps ≡ 1 →
    clear_due staged wanted steps (cond z 3 2) ≡ Some (cond z Unstage Clear)
clearing-due staged wanted true steps s w l = λ j. cond (s j && (w j && (l j == 1))) (Some Unstage) None
clearing-due staged wanted false steps s w l = λ j. cond (s j && (not (w j) && (l j == 1))) (Some Clear) None

-- ---- several shards

module _ (shards i : ℕ) (command : Command) (a : ℕ → Told) where
  abbrev first : ℕ → List Step
  first t = first_steps shards i command Spread a t

  pub first-shape : (t : ℕ) → t < shards → first t ≡ step_told (4 * i + 0) (read_of (keys_on shards t command)) (a t)
  first-shape t lt = ap (λ o. step_told (4 * i + 0) o (a t)) (on-in shards (first_asked shards command Spread) t lt)

  pub once-shape : (t : ℕ) → t < shards → first t ≡ step_told (4 * i + 0) (read_of (keys_on shards t command)) (a t) ++ []
  once-shape t lt = first-shape t lt ∙ sym (append-nil (step_told (4 * i + 0) (read_of (keys_on shards t command)) (a t)))

  pub once-values : values_read shards command first ≡ values_told shards command a
  once-values = reads-values shards command (4 * i + 0) a first (λ t. []) once-shape (λ t e. refl)

  abbrev keys : ℕ → List Bytes
  keys t = keys_on shards t command

  abbrev changes : ℕ → Changes
  changes t = changes_on shards t command (values_told shards command a)

  abbrev wanted : Bool
  wanted = round_wanted shards (first_asked shards command Spread) a

  module _ (s : ℕ) (lt : s < shards) (act : Act) where
    once-due : second_asked shards command Spread a s ≡ Some act → due_by shards command Spread first s 1 ≡ Some act
    once-due asked =
        let p = not_so wanted (stage_of (changes s)) act asked in
        subst (λ K. spread_due (keys s) (changes_on shards s command K)
        (all_read shards command first && not (some (λ t. first_wanted (first t)) shards)) (all_staged shards command first)
        (some (λ t. second_wanted (first t)) shards) (first s) 1 ≡ Some act) (sym once-values)
        (staging-due (keys s) (changes s) (all_read shards command first && not (some (λ t. first_wanted (first t)) shards))
        (all_staged shards command first)
        (some (λ t. second_wanted (first t)) shards) (first s) act
        (and_from (all_read shards command first) _ (reads-all shards command (4 * i + 0) a first (λ t. []) once-shape (λ t e. refl))
        (not_from_false _ (reads-wanted shards command (4 * i + 0) a first (λ t. []) once-shape (λ t e. refl) ∙ p.0)))
        (ap length (first-shape s lt)
        ∙ one-long (4 * i + 0) (a s) (keys s) (changes s) (keyless shards s command (values_told shards command a)) (stage-some (changes s) act p.1).0)
        p.1)

  module _ (b : ℕ → Told) where
    abbrev second : ℕ → List Step
    second t = second_steps shards i command Spread a b t

    abbrev both : ℕ → List Step
    both t = first t ++ second t

    pub both-first : (t : ℕ) → t < shards → both t ≡ step_told (4 * i + 0) (read_of (keys t)) (a t) ++ second t
    both-first t lt = ap (λ l. l ++ second t) (first-shape t lt)

    pub second-none : (t : ℕ) → keys t ≡ [] → second t ≡ []
    second-none t e = ap (λ o. step_told (4 * i + 1) o (b t)) (no-second shards command a t e)

    pub both-values : values_read shards command both ≡ values_told shards command a
    both-values = reads-values shards command (4 * i + 0) a both second both-first second-none

    module _ (had : wanted ≡ false) where
      pub second-asked : (t : ℕ) → second_asked shards command Spread a t ≡ stage_of (changes t)
      second-asked t = ap (λ w. cond w None (stage_of (changes t))) had

      pub second-shape : (t : ℕ) → t < shards → second t ≡ step_told (4 * i + 1) (stage_of (changes t)) (b t)
      second-shape t lt =
          ap (λ o. step_told (4 * i + 1) o (b t)) (on-in shards (second_asked shards command Spread a) t lt ∙ second-asked t)

      pub both-shape : (t : ℕ) → t < shards →
          both t ≡ step_told (4 * i + 0) (read_of (keys t)) (a t) ++ step_told (4 * i + 1) (stage_of (changes t)) (b t)
      both-shape t lt = λ j. first-shape t lt j ++ second-shape t lt j

      both-read : (all_read shards command both && not (some (λ t. first_wanted (both t)) shards)) ≡ true
      both-read =
          and_from (all_read shards command both) _ (reads-all shards command (4 * i + 0) a both second both-first second-none)
          (not_from_false _ (reads-wanted shards command (4 * i + 0) a both second both-first second-none ∙ had))

      both-staged : all_staged shards command both ≡ true
      both-staged =
          all_pass (λ t. is_nil (changes_on shards t command (values_read shards command both)) || nat_lt 1 (length (both t))) shards
          (λ t lt.
          (λ j. is_nil (changes_on shards t command (both-values j)) || nat_lt 1 (length (both-shape t lt j)))
          ∙ staged-at (4 * i + 0) (4 * i + 1) (a t) (b t) (keys t) (changes t) (keyless shards t command (values_told shards command a)))

      pub both-wanted : some (λ t. second_wanted (both t)) shards ≡ round_wanted shards (second_asked shards command Spread a) b
      both-wanted =
          some-same (λ t. second_wanted (both t)) (λ t. is_some (second_asked shards command Spread a t) && not (did (b t))) shards
          (λ t lt.
          ap second_wanted (both-shape t lt)
          ∙ second-at (4 * i + 0) (4 * i + 1) (a t) (b t) (keys t) (changes t) (keyless shards t command (values_told shards command a))
          ∙ ap (λ o. is_some o && not (did (b t))) (sym (second-asked t)))

    module _ (s : ℕ) (lt : s < shards) (act : Act) where
      twice-due : third_asked shards command Spread a b s ≡ Some act →
          due_by shards command Spread both s (third_hop shards command Spread a b) ≡ Some act
      twice-due asked =
          let z = round_wanted shards (second_asked shards command Spread a) b in
          let q = end-some z Apply (second_asked shards command Spread a s) act asked in
          let p = not_so wanted (stage_of (changes s)) q.0 q.1 in
          subst (λ K. spread_due (keys s) (changes_on shards s command K)
          (all_read shards command both && not (some (λ t. first_wanted (both t)) shards)) (all_staged shards command both)
          (some (λ t. second_wanted (both t)) shards) (both s) (cond z 3 2) ≡ Some act) (sym both-values)
          (ending-due (keys s) (changes s) (all_read shards command both && not (some (λ t. first_wanted (both t)) shards))
          (all_staged shards command both) (some (λ t. second_wanted (both t)) shards) z (both s)
          (both-read p.0) (both-staged p.0) (both-wanted p.0) (stage-some (changes s) q.0 p.1).0
          (ap length (both-shape p.0 s lt)
          ∙ two-long (4 * i + 0) (4 * i + 1) (a s) (b s) (keys s) (changes s) (keyless shards s command (values_told shards command a))
          (stage-some (changes s) q.0 p.1).0)
          ∙ ap Some q.2)

-- ---- FLUSHALL on several shards

module _ (shards i : ℕ) (command : Command) (a : ℕ → Told) where
  abbrev staged : ℕ → List Step
  staged t = first_steps shards i command Clears a t

  pub staged-shape : (t : ℕ) → t < shards → staged t ≡ record { hop = 4 * i + 1; act = Stage []; told = a t } ∷ []
  staged-shape t lt = ap (λ o. step_told (4 * i + 1) o (a t)) (on-in shards (first_asked shards command Clears) t lt)

  clears-due : (s : ℕ) → s < shards → (act : Act) → second_asked shards command Clears a s ≡ Some act →
      due_by shards command Clears staged s (second_hop shards command Clears a) ≡ Some act
  clears-due s lt act asked =
      let z = round_wanted shards (first_asked shards command Clears) a in
      clearing-due (every (λ t. not (is_nil (staged t))) shards) (some (λ t. first_wanted (staged t)) shards) z (staged s)
      (all_pass (λ t. not (is_nil (staged t))) shards (λ t l. ap (λ x. not (is_nil x)) (staged-shape t l)))
      (some-same (λ t. first_wanted (staged t)) (λ t. is_some (first_asked shards command Clears t) && not (did (a t))) shards
      (λ t l. ap first_wanted (staged-shape t l)))
      (ap length (staged-shape s lt)) ∙ asked

-- ---- each course

pub course-due : (shards i : ℕ) (command : Command) (course : Course) (standing : Standing) (s : ℕ) (act : Act) →
    asks shards command course standing s ≡ Some act →
    due_by shards command course (steps_so_far shards i command course standing) s (hop_of shards command course standing) ≡ Some act
course-due shards i command Nowhere Fresh s act h = absurd (none-some act (on-found shards (first_asked shards command Nowhere) s act h).1)
course-due shards i command (Alone t) Fresh s act h = (on-found shards (first_asked shards command (Alone t)) s act h).1
course-due shards i command Spread Fresh s act h =
    let none : ℕ → List Step = λ t. [] in
    reading-due (keys_on shards s command) (changes_on shards s command (values_read shards command none))
    (all_read shards command none && not (some (λ t. first_wanted (none t)) shards)) (all_staged shards command none)
    (some (λ t. second_wanted (none t)) shards) act (on-found shards (first_asked shards command Spread) s act h).1
course-due shards i command courses.Names Fresh s act h = (on-found shards (first_asked shards command courses.Names) s act h).1
course-due shards i command Counts Fresh s act h = (on-found shards (first_asked shards command Counts) s act h).1
course-due shards i command Cuts Fresh s act h = (on-found shards (first_asked shards command Cuts) s act h).1
course-due shards i command Clears Fresh s act h = (on-found shards (first_asked shards command Clears) s act h).1
course-due shards i command Nowhere (Once a) s act h = absurd (none-some act (on-found shards (second_asked shards command Nowhere a) s act h).1)
course-due shards i command (Alone t) (Once a) s act h = absurd (none-some act (on-found shards (second_asked shards command (Alone t) a) s act h).1)
course-due shards i command Spread (Once a) s act h =
    let f = on-found shards (second_asked shards command Spread a) s act h in once-due shards i command a s f.0 act f.1
course-due shards i command courses.Names (Once a) s act h = absurd (none-some act (on-found shards (second_asked shards command courses.Names a) s act h).1)
course-due shards i command Counts (Once a) s act h = absurd (none-some act (on-found shards (second_asked shards command Counts a) s act h).1)
course-due shards i command Cuts (Once a) s act h = absurd (none-some act (on-found shards (second_asked shards command Cuts a) s act h).1)
course-due shards i command Clears (Once a) s act h =
    let f = on-found shards (second_asked shards command Clears a) s act h in clears-due shards i command a s f.0 act f.1
course-due shards i command Nowhere (Twice a b) s act h = absurd (none-some act (on-found shards (third_asked shards command Nowhere a b) s act h).1)
course-due shards i command (Alone t) (Twice a b) s act h = absurd (none-some act (on-found shards (third_asked shards command (Alone t) a b) s act h).1)
course-due shards i command Spread (Twice a b) s act h =
    let f = on-found shards (third_asked shards command Spread a b) s act h in twice-due shards i command a b s f.0 act f.1
course-due shards i command courses.Names (Twice a b) s act h =
    absurd (none-some act (on-found shards (third_asked shards command courses.Names a b) s act h).1)
course-due shards i command Counts (Twice a b) s act h = absurd (none-some act (on-found shards (third_asked shards command Counts a b) s act h).1)
course-due shards i command Cuts (Twice a b) s act h = absurd (none-some act (on-found shards (third_asked shards command Cuts a b) s act h).1)
course-due shards i command Clears (Twice a b) s act h = absurd (none-some act (on-found shards (third_asked shards command Clears a b) s act h).1)
course-due shards i command course (Thrice a b c) s act h = absurd (none-some act h)

pub asked_is_due : AskedIsDue
asked_is_due shards i command standing s act h = course-due shards i command (course_of shards command) standing s act h

pub lists_go_on : ListsGoOn
lists_go_on [] answers = refl
lists_go_on (a ∷ []) answers = refl
lists_go_on (a ∷ b ∷ []) answers = refl
lists_go_on (a ∷ b ∷ c ∷ rounds) answers = refl
