-- Nothing is due of a command but what it asks next.
use Rattle.std.proofs.Common.{◌≡◌, ℕ, zero, suc, ◌+◌, ◌*◌, ◌<◌, ◌≤◌, Bool, true, false, cond, not, is_some, length, List, [], ◌∷◌, ◌++◌, refl, sym, ap, ◌∙◌, subst, arith, append-nil, append_assoc}
use Rattle.std.specs.Prelude.{Option, Some, None, ◌==◌, ◌&&◌, nat_lt}
use Rattle.std.proofs.lemmas.Bool.{false≢true, and_parts, eqb-true, not-true}
use Rattle.std.proofs.lemmas.Option.{none-some, cond_some}
use Rattle.df_model.specs.Values.{Bytes}
use Rattle.df_model.specs.Keyspace.{Keyspace}
use Rattle.df_model.specs.declared.command.Command.{Command}
use Rattle.df_log.specs.Acts.{Changes, Act, Run, Read, Stage, Apply, Unstage, Begin, Walk, Count, Clear, Told}
use Rattle.df_log.specs.Parts.{did}
use Rattle.df_core.specs.Courses.{Course, Nowhere, Alone, Spread, Counts, Cuts, Clears, course_of, keys_on, changes_on}
use Rattle.df_core.specs.Courses as courses
use Rattle.df_core.specs.Steps.{Step}
use Rattle.df_core.specs.Due.{every, some, is_nil, values_read, all_read, all_staged, first_wanted, second_wanted, first_due, spread_due, clear_due, due_by}
use Rattle.df_core.proofs.StepLaws.{either_way}
use Rattle.df_core.proofs.DueLaws.{cond_found, first_due_is}
use Rattle.df_rounds.specs.Standing.{Standing, Fresh, Once, Twice, Thrice, round_wanted, read_of, stage_of, end_of, values_told, first_asked, second_asked, third_asked, asks, hop_of, second_hop, third_hop, step_told, first_steps, second_steps, third_steps, steps_so_far, DueIsAsked}
use Rattle.df_rounds.proofs.ToldLaws.{some-same, on-in, keyless, two-long, reads-wanted, reads-values}
use Rattle.df_rounds.proofs.AskedLaws.{first-shape, once-shape, once-values, both-first, second-none, both-values, both-shape, both-wanted, second-asked, staged-shape}

-- ---- what is due, by its hop, with the tests that let it be

data DueAs (keys : List Bytes) (changes : Changes) (read wanted : Bool) (steps : List Step) (act : Act) : ℕ → Type 0 where
  reads : not (is_nil keys) ≡ true → is_nil steps ≡ true → Read keys ≡ act → DueAs keys changes read wanted steps act 0
  stages : read ≡ true → not (is_nil changes) ≡ true → length steps ≡ 1 → Stage changes ≡ act → DueAs keys changes read wanted steps act 1
  applies : read ≡ true → wanted ≡ false → not (is_nil changes) ≡ true → length steps ≡ 2 → Apply ≡ act → DueAs keys changes read wanted steps act 2
  unstages : read ≡ true → wanted ≡ true → not (is_nil changes) ≡ true → length steps ≡ 2 → Unstage ≡ act → DueAs keys changes read wanted steps act 3

due-as : (keys : List Bytes) (changes : Changes) (read staged wanted : Bool) (steps : List Step) (act : Act) (j : ℕ) → j < 4 →
    spread_due keys changes read staged wanted steps j ≡ Some act → DueAs keys changes read wanted steps act j
due-as keys changes read staged wanted steps act zero lt h =
    let c = cond_some (not (is_nil keys) && is_nil steps) (Read keys) act h in
    let p = and_parts (not (is_nil keys)) (is_nil steps) c.0 in
    DueAs.reads p.0 p.1 c.1
due-as keys changes read staged wanted steps act (suc zero) lt h =
    let c = cond_some (read && (not (is_nil changes) && (length steps == 1))) (Stage changes) act h in
    let p = and_parts read _ c.0 in
    let q = and_parts (not (is_nil changes)) (length steps == 1) p.1 in
    DueAs.stages p.0 q.0 (eqb-true (length steps) 1 q.1) c.1
due-as keys changes read staged wanted steps act (suc (suc zero)) lt h =
    let c = cond_some (read && (staged && (not wanted && (not (is_nil changes) && (length steps == 2))))) Apply act h in
    let p = and_parts read _ c.0 in
    let r = and_parts (not wanted) _ (and_parts staged _ p.1).1 in
    let q = and_parts (not (is_nil changes)) (length steps == 2) r.1 in
    DueAs.applies p.0 (not-true wanted r.0) q.0 (eqb-true (length steps) 2 q.1) c.1
due-as keys changes read staged wanted steps act (suc (suc (suc zero))) lt h =
    let c = cond_some (read && (staged && (wanted && (not (is_nil changes) && (length steps == 2))))) Unstage act h in
    let p = and_parts read _ c.0 in
    let r = and_parts wanted _ (and_parts staged _ p.1).1 in
    let q = and_parts (not (is_nil changes)) (length steps == 2) r.1 in
    DueAs.unstages p.0 r.0 q.0 (eqb-true (length steps) 2 q.1) c.1
due-as keys changes read staged wanted steps act (suc (suc (suc (suc j)))) lt h = absurd (omega (arith, lt))

stage-of : (changes : Changes) → not (is_nil changes) ≡ true → stage_of changes ≡ Some (Stage changes)
stage-of [] e = absurd (false≢true e)
stage-of (c ∷ changes) e = refl

read-of : (keys : List Bytes) → not (is_nil keys) ≡ true → read_of keys ≡ Some (Read keys)
read-of [] e = absurd (false≢true e)
read-of (k ∷ keys) e = refl

some-act : {A : Type 0} (x a : A) (o : Option A) → o ≡ Some x → x ≡ a → o ≡ Some a
some-act x a o e i = e ∙ ap Some i

one-short : (h : ℕ) (o : Option Act) (x : Told) → length (step_told h o x) ≤ 1
one-short h None x = omega arith
one-short h (Some act) x = omega arith

not-begun : (h : ℕ) (keys : List Bytes) (x : Told) (rest steps : List Step) → steps ≡ step_told h (read_of keys) x ++ rest →
    not (is_nil keys) ≡ true → is_nil steps ≡ true → ⊥
not-begun h [] x rest steps e k n = false≢true k
not-begun h (q ∷ keys) x rest steps e k n = false≢true (sym (ap is_nil e) ∙ n)

-- ---- several shards

module _ (shards i : ℕ) (command : Command) (s : ℕ) (act : Act) (lt : s < shards) where
  abbrev keys : List Bytes
  keys = keys_on shards s command

  abbrev IsAskedNext : Course → Standing → ℕ → Type 0
  IsAskedNext course standing j = (j ≡ hop_of shards command course standing) × (asks shards command course standing s ≡ Some act)

  -- what is due of it, by what was told
  abbrev DueOf : (ℕ → List Step) → Keyspace → ℕ → Type 0
  DueOf own K j =
      DueAs keys (changes_on shards s command K) (all_read shards command own && not (some (λ t. first_wanted (own t)) shards))
      (some (λ t. second_wanted (own t)) shards) (own s) act j

  due-of : (own : ℕ → List Step) (K : Keyspace) (j : ℕ) → j < 4 → values_read shards command own ≡ K →
      due_by shards command Spread own s j ≡ Some act → DueOf own K j
  due-of own K j few e h =
      subst (λ L. DueOf own L j) e
      (due-as keys (changes_on shards s command (values_read shards command own))
      (all_read shards command own && not (some (λ t. first_wanted (own t)) shards)) (all_staged shards command own)
      (some (λ t. second_wanted (own t)) shards) (own s) act j few h)

  fresh-now : (K : Keyspace) (j : ℕ) → DueOf (λ t. []) K j → IsAskedNext Spread Fresh j
  fresh-now K _ (DueAs.reads k n a) = (refl, on-in shards (first_asked shards command Spread) s lt ∙ read-of keys k ∙ ap Some a)
  fresh-now K _ (DueAs.stages r c l a) = absurd (omega (arith, l))
  fresh-now K _ (DueAs.applies r w c l a) = absurd (omega (arith, l))
  fresh-now K _ (DueAs.unstages r w c l a) = absurd (omega (arith, l))

  module _ (a : ℕ → Told) where
    abbrev K : Keyspace
    K = values_told shards command a

    abbrev changes : Changes
    changes = changes_on shards s command K

    abbrev wanted : Bool
    wanted = round_wanted shards (first_asked shards command Spread) a

    abbrev first : ℕ → List Step
    first t = first_steps shards i command Spread a t

    -- where all were read nobody found no memory
    had-by : (own more : ℕ → List Step) →
        ((t : ℕ) → t < shards → own t ≡ step_told (4 * i + 0) (read_of (keys_on shards t command)) (a t) ++ more t) →
        ((t : ℕ) → keys_on shards t command ≡ [] → more t ≡ []) →
        (all_read shards command own && not (some (λ t. first_wanted (own t)) shards)) ≡ true → wanted ≡ false
    had-by own more shape none r =
        sym (reads-wanted shards command (4 * i + 0) a own more shape none)
        ∙ not-true (some (λ t. first_wanted (own t)) shards) (and_parts (all_read shards command own) _ r).1

    short : length (first s) ≤ 1
    short = one-short (4 * i + 0) (asks shards command Spread Fresh s) (a s)

    once-now : (j : ℕ) → DueOf first K j → IsAskedNext Spread (Once a) j
    once-now _ (DueAs.reads k n e) = absurd (not-begun (4 * i + 0) keys (a s) [] (first s) (once-shape shards i command a s lt) k n)
    once-now _ (DueAs.stages r c l e) =
        let had = had-by first (λ t. []) (once-shape shards i command a) (λ t q. refl) r in
        (refl, on-in shards (second_asked shards command Spread a) s lt ∙ second-asked shards i command a (λ t. a t) had s ∙ stage-of changes c ∙ ap Some e)
    once-now _ (DueAs.applies r w c l e) = absurd (omega (arith, l, short))
    once-now _ (DueAs.unstages r w c l e) = absurd (omega (arith, l, short))

    module _ (b : ℕ → Told) where
      abbrev second : ℕ → List Step
      second t = second_steps shards i command Spread a b t

      abbrev both : ℕ → List Step
      both t = first t ++ second t

      abbrev z : Bool
      z = round_wanted shards (second_asked shards command Spread a) b

      both-long : wanted ≡ false → not (is_nil changes) ≡ true → length (both s) ≡ 2
      both-long had c =
          ap length (both-shape shards i command a b had s lt)
          ∙ two-long (4 * i + 0) (4 * i + 1) (a s) (b s) keys changes (keyless shards s command K) c

      third-asked : wanted ≡ false → not (is_nil changes) ≡ true → asks shards command Spread (Twice a b) s ≡ Some (cond z Unstage Apply)
      third-asked had c =
          on-in shards (third_asked shards command Spread a b) s lt
          ∙ ap (end_of z Apply) (second-asked shards i command a b had s ∙ stage-of changes c)

      had-both : (all_read shards command both && not (some (λ t. first_wanted (both t)) shards)) ≡ true → wanted ≡ false
      had-both r = had-by both second (both-first shards i command a b) (second-none shards i command a b) r

      twice-now : (j : ℕ) → DueOf both K j → IsAskedNext Spread (Twice a b) j
      twice-now _ (DueAs.reads k n e) = absurd (not-begun (4 * i + 0) keys (a s) (second s) (both s) (both-first shards i command a b s lt) k n)
      twice-now _ (DueAs.stages r c l e) = absurd (omega (arith, l, both-long (had-both r) c))
      twice-now _ (DueAs.applies r w c l e) =
          let had = had-both r in
          let is = sym (both-wanted shards i command a b had) ∙ w in
          (sym (ap (λ q. cond q 3 2) is), third-asked had c ∙ ap (λ q. Some (cond q Unstage Apply)) is ∙ ap Some e)
      twice-now _ (DueAs.unstages r w c l e) =
          let had = had-both r in
          let is = sym (both-wanted shards i command a b had) ∙ w in
          (sym (ap (λ q. cond q 3 2) is), third-asked had c ∙ ap (λ q. Some (cond q Unstage Apply)) is ∙ ap Some e)

      module _ (c : ℕ → Told) where
        abbrev third : ℕ → List Step
        third t = third_steps shards i command Spread a b c t

        abbrev all : ℕ → List Step
        all t = both t ++ third t

        all-first : (t : ℕ) → t < shards → all t ≡ step_told (4 * i + 0) (read_of (keys_on shards t command)) (a t) ++ (second t ++ third t)
        all-first t l = append_assoc (first t) (second t) (third t) ∙ ap (λ x. x ++ (second t ++ third t)) (first-shape shards i command a t l)

        third-none : (t : ℕ) → keys_on shards t command ≡ [] → second t ++ third t ≡ []
        third-none t e =
            (λ q. second-none shards i command a b t e q ++ step_told (4 * i + third_hop shards command Spread a b) (no-third t e q) (c t))
          where
            no-third : (u : ℕ) → keys_on shards u command ≡ [] → asks shards command Spread (Twice a b) u ≡ None
            no-third u n =
                ap (λ x. cond (nat_lt u shards) (end_of z Apply (cond wanted None (stage_of x))) None) (keyless shards u command K n)
                ∙ ap (λ o. cond (nat_lt u shards) (end_of z Apply o) None) (either_way wanted None) ∙ either_way (nat_lt u shards) None

        had-all : (all_read shards command all && not (some (λ t. first_wanted (all t)) shards)) ≡ true → wanted ≡ false
        had-all r = had-by all (λ t. second t ++ third t) all-first third-none r

        all-long : wanted ≡ false → not (is_nil changes) ≡ true → length (all s) ≡ 3
        all-long had d =
            ap (λ o. length (both s ++ step_told (4 * i + third_hop shards command Spread a b) o (c s))) (third-asked had d)
            ∙ ap (λ l. length (l ++ record { hop = 4 * i + third_hop shards command Spread a b; act = cond z Unstage Apply; told = c s } ∷ []))
            (both-shape shards i command a b had s lt)
            ∙ three (4 * i + 0) (4 * i + 1) keys changes (a s) (b s) _ (keyless shards s command K) d
          where
            three : (h k : ℕ) (ks : List Bytes) (ch : Changes) (x y : Told) (last : Step) → (ks ≡ [] → ch ≡ []) → not (is_nil ch) ≡ true →
                length ((step_told h (read_of ks) x ++ step_told k (stage_of ch) y) ++ last ∷ []) ≡ 3
            three h k [] [] x y last n e = absurd (false≢true e)
            three h k [] (p ∷ ch) x y last n e = absurd (none-some _ (sym (ap stage_of (n refl))))
            three h k (q ∷ ks) [] x y last n e = absurd (false≢true e)
            three h k (q ∷ ks) (p ∷ ch) x y last n e = refl

        all-values : values_read shards command all ≡ K
        all-values = reads-values shards command (4 * i + 0) a all (λ t. second t ++ third t) all-first third-none

        thrice-never : (j : ℕ) → DueOf all K j → ⊥
        thrice-never _ (DueAs.reads k n e) = not-begun (4 * i + 0) keys (a s) (second s ++ third s) (all s) (all-first s lt) k n
        thrice-never _ (DueAs.stages r d l e) = omega (arith, l, all-long (had-all r) d)
        thrice-never _ (DueAs.applies r w d l e) = omega (arith, l, all-long (had-all r) d)
        thrice-never _ (DueAs.unstages r w d l e) = omega (arith, l, all-long (had-all r) d)

  -- ---- FLUSHALL on several shards

  clear-short : (p w : Bool) (steps : List Step) (j : ℕ) → j < 4 → clear_due p w steps j ≡ Some act → length steps ≡ 2 → ⊥
  clear-short p w steps zero few h l = none-some act h
  clear-short p w [] (suc zero) few h l = omega (arith, l)
  clear-short p w (x ∷ steps) (suc zero) few h l = none-some act h
  clear-short p w steps (suc (suc zero)) few h l =
      let c = cond_some (p && (not w && (length steps == 1))) Clear act h in
      omega (arith, l, eqb-true (length steps) 1 (and_parts (not w) _ (and_parts p _ c.0).1).1)
  clear-short p w steps (suc (suc (suc j))) few h l =
      let c = cond_some (p && (w && (length steps == 1))) Unstage act h in
      omega (arith, l, eqb-true (length steps) 1 (and_parts w _ (and_parts p _ c.0).1).1)

  clear-fresh : (p w : Bool) (j : ℕ) → j < 4 → clear_due p w [] j ≡ Some act → (j ≡ 1) × (Stage [] ≡ act)
  clear-fresh p w zero few h = absurd (none-some act h)
  clear-fresh p w (suc zero) few h = (refl, cc)
  clear-fresh p w (suc (suc zero)) few h =
      absurd (false≢true (and_parts (not w) _ (and_parts p _ (cond_some (p && (not w && false)) Clear act h).0).1).1)
  clear-fresh p w (suc (suc (suc j))) few h =
      absurd (false≢true (and_parts w _ (and_parts p _ (cond_some (p && (w && false)) Unstage act h).0).1).1)

  clear-once : (p w : Bool) (x : Step) (j : ℕ) → j < 4 → clear_due p w (x ∷ []) j ≡ Some act → (j ≡ cond w 3 2) × (cond w Unstage Clear ≡ act)
  clear-once p w x zero few h = absurd (none-some act h)
  clear-once p w x (suc zero) few h = absurd (none-some act h)
  clear-once p w x (suc (suc zero)) few h =
      let c = cond_some (p && (not w && true)) Clear act h in
      let n = not-true w (and_parts (not w) true (and_parts p _ c.0).1).0 in
      (sym (ap (λ q. cond q 3 2) n), ap (λ q. cond q Unstage Clear) n ∙ c.1)
  clear-once p w x (suc (suc (suc zero))) few h =
      let c = cond_some (p && (w && true)) Unstage act h in
      let n = (and_parts w true (and_parts p _ c.0).1).0 in
      (sym (ap (λ q. cond q 3 2) n), ap (λ q. cond q Unstage Clear) n ∙ c.1)
  clear-once p w x (suc (suc (suc (suc j)))) few h = absurd (omega (arith, few))

  module _ (a : ℕ → Told) where
    abbrev staged : ℕ → List Step
    staged t = first_steps shards i command Clears a t

    abbrev clear_wanted : Bool
    clear_wanted = round_wanted shards (first_asked shards command Clears) a

    clears-once : (j : ℕ) → j < 4 → due_by shards command Clears staged s j ≡ Some act → IsAskedNext Clears (Once a) j
    clears-once j few h =
        let shape = staged-shape shards i command a s lt in
        let flag : some (λ t. first_wanted (staged t)) shards ≡ clear_wanted
        = some-same (λ t. first_wanted (staged t)) (λ t. is_some (first_asked shards command Clears t) && not (did (a t))) shards
        (λ t l. ap first_wanted (staged-shape shards i command a t l)) in
        let c = clear-once (every (λ t. not (is_nil (staged t))) shards) clear_wanted record { hop = 4 * i + 1; act = Stage []; told = a s } j few
        (sym (λ q. clear_due (every (λ t. not (is_nil (staged t))) shards) (flag q) (shape q) j) ∙ h) in
        (c.0, on-in shards (second_asked shards command Clears a) s lt ∙ ap Some c.1)

    clears-two : (b : ℕ → Told) → length (staged s ++ second_steps shards i command Clears a b s) ≡ 2
    clears-two b =
        (λ q. length (staged-shape shards i command a s lt q
        ++ step_told (4 * i + second_hop shards command Clears a) (on-in shards (second_asked shards command Clears a) s lt q) (b s)))

    clears-three : (b c : ℕ → Told) →
        length ((staged s ++ second_steps shards i command Clears a b s) ++ third_steps shards i command Clears a b c s) ≡ 2
    clears-three b c =
        ap (λ o. length ((staged s ++ second_steps shards i command Clears a b s) ++ step_told (4 * i + third_hop shards command Clears a b) o (c s)))
        (on-in shards (third_asked shards command Clears a b) s lt)
        ∙ ap length (append-nil (staged s ++ second_steps shards i command Clears a b s)) ∙ clears-two b

  -- ---- one hop alone

  -- a shard that was asked has begun
  spent : (hop : ℕ) (found next : Act) (o : Option Act) (x : Told) (rest own : List Step) (j : ℕ) → o ≡ Some found → own ≡ step_told hop o x ++ rest →
      first_due next own j ≡ Some act → ⊥
  spent hop found next o x rest own j e is h =
      false≢true (sym (ap is_nil (is ∙ ap (λ p. step_told hop p x ++ rest) e)) ∙ (first_due_is next act own j h).1)

  single : (course : Course) (next : Act) → first_asked shards command course s ≡ Some next → (a : ℕ → Told) (rest own : List Step) (j : ℕ) →
      own ≡ first_steps shards i command course a s ++ rest → first_due next own j ≡ Some act → ⊥
  single course next e a rest own j is h =
      spent (4 * i + hop_of shards command course Fresh) next next (asks shards command course Fresh s) (a s) rest own j
      (on-in shards (first_asked shards command course) s lt ∙ e) is h

  single-thrice : (course : Course) (next : Act) → first_asked shards command course s ≡ Some next → (a b c : ℕ → Told) (j : ℕ) →
      first_due next (steps_so_far shards i command course (Thrice a b c) s) j ≡ Some act → ⊥
  single-thrice course next e a b c j h =
      single course next e a (second_steps shards i command course a b s ++ third_steps shards i command course a b c s)
      (steps_so_far shards i command course (Thrice a b c) s) j
      (append_assoc (first_steps shards i command course a s) (second_steps shards i command course a b s) (third_steps shards i command course a b c s)) h

  agrees : (course : Course) (standing : Standing) (j : ℕ) → j < 4 →
      due_by shards command course (steps_so_far shards i command course standing) s j ≡ Some act → IsAskedNext course standing j
  agrees Nowhere standing j few h = absurd (none-some act h)
  agrees (Alone t) Fresh j few h =
      let c = cond_found (t == s) (first_due (Run command) [] j) act h in
      let f = first_due_is (Run command) act [] j c.1 in
      (f.0, on-in shards (first_asked shards command (Alone t)) s lt ∙ ap (λ b. cond b (Some (Run command)) None) c.0 ∙ ap Some f.2)
  agrees (Alone t) (Once a) j few h =
      let c = cond_found (t == s) (first_due (Run command) (steps_so_far shards i command (Alone t) (Once a) s) j) act h in
      absurd (single (Alone t) (Run command) (ap (λ b. cond b (Some (Run command)) None) c.0) a [] _ j (sym (append-nil _)) c.1)
  agrees (Alone t) (Twice a b) j few h =
      let c = cond_found (t == s) (first_due (Run command) (steps_so_far shards i command (Alone t) (Twice a b) s) j) act h in
      absurd (single (Alone t) (Run command) (ap (λ b. cond b (Some (Run command)) None) c.0) a _ _ j refl c.1)
  agrees (Alone t) (Thrice a b d) j few h =
      let c = cond_found (t == s) (first_due (Run command) (steps_so_far shards i command (Alone t) (Thrice a b d) s) j) act h in
      absurd (single-thrice (Alone t) (Run command) (ap (λ q. cond q (Some (Run command)) None) c.0) a b d j c.1)
  agrees Spread Fresh j few h = fresh-now _ j (due-of (λ t. []) _ j few refl h)
  agrees Spread (Once a) j few h =
      once-now a j (due-of (first_steps shards i command Spread a) (values_told shards command a) j few (once-values shards i command a) h)
  agrees Spread (Twice a b) j few h =
      twice-now a b j (due-of (steps_so_far shards i command Spread (Twice a b)) (values_told shards command a) j few (both-values shards i command a b) h)
  agrees Spread (Thrice a b c) j few h =
      absurd (thrice-never a b c j
      (due-of (steps_so_far shards i command Spread (Thrice a b c)) (values_told shards command a) j few (all-values a b c) h))
  agrees courses.Names Fresh j few h =
      let f = first_due_is Walk act [] j h in (f.0, on-in shards (first_asked shards command courses.Names) s lt ∙ ap Some f.2)
  agrees courses.Names (Once a) j few h = absurd (single courses.Names Walk refl a [] _ j (sym (append-nil _)) h)
  agrees courses.Names (Twice a b) j few h = absurd (single courses.Names Walk refl a _ _ j refl h)
  agrees courses.Names (Thrice a b c) j few h = absurd (single-thrice courses.Names Walk refl a b c j h)
  agrees Counts Fresh j few h =
      let f = first_due_is Count act [] j h in (f.0, on-in shards (first_asked shards command Counts) s lt ∙ ap Some f.2)
  agrees Counts (Once a) j few h = absurd (single Counts Count refl a [] _ j (sym (append-nil _)) h)
  agrees Counts (Twice a b) j few h = absurd (single Counts Count refl a _ _ j refl h)
  agrees Counts (Thrice a b c) j few h = absurd (single-thrice Counts Count refl a b c j h)
  agrees Cuts Fresh j few h =
      let f = first_due_is Begin act [] j h in (f.0, on-in shards (first_asked shards command Cuts) s lt ∙ ap Some f.2)
  agrees Cuts (Once a) j few h = absurd (single Cuts Begin refl a [] _ j (sym (append-nil _)) h)
  agrees Cuts (Twice a b) j few h = absurd (single Cuts Begin refl a _ _ j refl h)
  agrees Cuts (Thrice a b c) j few h = absurd (single-thrice Cuts Begin refl a b c j h)
  agrees Clears Fresh j few h =
      let c = clear-fresh _ _ j few h in (c.0, on-in shards (first_asked shards command Clears) s lt ∙ ap Some c.1)
  agrees Clears (Once a) j few h = clears-once a j few h
  agrees Clears (Twice a b) j few h = absurd (clear-short _ _ _ j few h (clears-two a b))
  agrees Clears (Thrice a b c) j few h = absurd (clear-short _ _ _ j few h (clears-three a b c))

pub due_is_asked : DueIsAsked
due_is_asked shards i command standing s j act lt few h = agrees shards i command s act lt (course_of shards command) standing j few h
