-- A command that asks for nothing more is done.
use Rattle.std.proofs.Common.{◌≡◌, ◌≢◌, ◌⊎◌, ℕ, ◌+◌, ◌*◌, ◌<◌, ◌≤◌, Bool, true, false, cond, not, is_some, map, List, [], ◌∷◌, ◌++◌, inl, inr, refl, sym, ap, ◌∙◌, subst, arith}
use Rattle.std.specs.Prelude.{Option, Some, None, ◌==◌, ◌&&◌, nat_lt}
use Rattle.std.proofs.lemmas.Bool.{false≢true, true≢false, not-true, not-false, and_parts, and_cases, cases_lt, eq-eqb, ne_eqb, eqb-true}
use Rattle.std.proofs.lemmas.Option.{none-some}
use Rattle.df_model.specs.Values.{Bytes, Value}
use Rattle.df_model.specs.Keyspace.{Keyspace, held, no_keys}
use Rattle.df_model.specs.Access.{among, names}
use Rattle.df_model.specs.Hash.{shard_of}
use Rattle.df_model.specs.Meaning.{meaning}
use Rattle.df_model.specs.Outcomes.{ok, count}
use Rattle.df_model.specs.declared.command.Command.{Command}
use Rattle.df_model.specs.declared.reply.Reply.{Reply}
use Rattle.df_model.proofs.WholeLaws.{first_among}
use Rattle.df_footprints.proofs.ModesLaws.{keys_of_one}
use Rattle.df_log.specs.Acts.{Changes, Act, Run, Read, Stage, Apply, Unstage, Begin, Walk, Count, Clear, Told, Ran, Values, Staged, Applied, Number, Cut, NoMemory, Refused, Handed, Replied}
use Rattle.df_log.specs.Acts as acts
use Rattle.df_log.specs.Parts.{did, IsTold}
use Rattle.df_core.specs.Courses.{Course, Nowhere, Alone, Spread, Counts, Cuts, Clears, course_of, keys_on, changes_on}
use Rattle.df_core.specs.Courses as courses
use Rattle.df_core.specs.Steps.{Step}
use Rattle.df_core.specs.Due.{some, values_in, values_of, second_wanted}
use Rattle.df_core.specs.Done.{Done, Shows, Stops, Undoes, OnEach, Wanted, IsSaveReply, want_of_memory, names_of, sum_of, first_step, stage_step, read_step}
use Rattle.df_core.proofs.CourseLaws.{below_shards, spread_access, names_whole, counts_whole, cuts_whole, alone_within}
use Rattle.df_core.proofs.StandLaws.{spread_keys}
use Rattle.df_core.proofs.StepLaws.{run_told, either_way}
use Rattle.df_core.proofs.ReadLaws.{HasRead, values_back}
use Rattle.df_rounds.specs.Standing.{Standing, Fresh, Once, Twice, Thrice, Asked, on_shards, round_wanted, read_of, stage_of, end_of, values_told, first_asked, second_asked, third_asked, asks, hop_of, second_hop, goes_on, step_told, first_steps, second_steps, third_steps, steps_so_far, MayBeTold, AllMayBeTold, IsReached}
use Rattle.df_rounds.specs.Replies.{reply_in, names_in, number_in, cut_in, names_reply, reply_of, kept_of, may_stop, OverIsDone, StopIsDone}
use Rattle.df_rounds.proofs.ToldLaws.{some-found, some-none, on-in, on-out, on-found, not_so, some-is, none-is, keyless, stage-none}
use Rattle.df_rounds.proofs.AskedLaws.{once-values, staged-shape}

-- ---- what is told, by what was asked

no-memory : (x : Told) → did x ≡ false → x ≡ NoMemory
no-memory NoMemory e = refl
no-memory (Ran reply) e = absurd (true≢false e)
no-memory (Values values) e = absurd (true≢false e)
no-memory Staged e = absurd (true≢false e)
no-memory Applied e = absurd (true≢false e)
no-memory (acts.Names names) e = absurd (true≢false e)
no-memory (Number n) e = absurd (true≢false e)
no-memory (Cut pairs) e = absurd (true≢false e)
no-memory (Refused limit) e = absurd (true≢false e)
no-memory (Handed bytes) e = absurd (true≢false e)
no-memory (Replied reply) e = absurd (true≢false e)

module _ (shards s : ℕ) (K : Keyspace) where
  read-is : (keys : List Bytes) (x : Told) → IsTold shards s K (Read keys) x → did x ≡ true → x ≡ Values (map (held K) keys)
  read-is keys _ (IsTold.read k) d = refl
  read-is keys _ (IsTold.wanted act h) d = absurd (false≢true d)

  stage-is : (changes : Changes) (x : Told) → IsTold shards s K (Stage changes) x → did x ≡ true → x ≡ Staged
  stage-is changes _ (IsTold.staged c) d = refl
  stage-is changes _ (IsTold.wanted act h) d = absurd (false≢true d)

  apply-is : (x : Told) → IsTold shards s K Apply x → x ≡ Applied
  apply-is _ IsTold.applied = refl
  apply-is _ (IsTold.wanted act h) = absurd (false≢true h)

  unstage-is : (x : Told) → IsTold shards s K Unstage x → x ≡ Applied
  unstage-is _ IsTold.unstaged = refl
  unstage-is _ (IsTold.wanted act h) = absurd (false≢true h)

  clear-is : (x : Told) → IsTold shards s K Clear x → x ≡ Applied
  clear-is _ IsTold.cleared = refl
  clear-is _ (IsTold.wanted act h) = absurd (false≢true h)

  walk-is : (x : Told) → IsTold shards s K Walk x → did x ≡ true → x ≡ acts.Names (names_in x)
  walk-is _ IsTold.walked d = refl
  walk-is _ (IsTold.wanted act h) d = absurd (false≢true d)

  count-is : (x : Told) → IsTold shards s K Count x → did x ≡ true → x ≡ Number (number_in x)
  count-is _ IsTold.counted d = refl
  count-is _ (IsTold.wanted act h) d = absurd (false≢true d)

  cut-is : (x : Told) → IsTold shards s K Begin x → x ≡ Cut (cut_in x)
  cut-is _ IsTold.began = refl
  cut-is _ (IsTold.wanted act h) = absurd (false≢true h)

-- ---- who was asked

-- somebody
asked-some : (shards : ℕ) (command : Command) (course : Course) (standing : Standing) → goes_on shards command course standing ≡ true →
    (s : ℕ) × (s < shards) × (act : Act) × (asks shards command course standing s ≡ Some act)
asked-some shards command course standing h =
    let v = some-found (λ s. is_some (asks shards command course standing s)) shards h in
    let o = some-is (asks shards command course standing v.0) v.2 in
    (v.0, v.1, o.0, o.1)

-- or nobody
asked-none : (shards : ℕ) (command : Command) (course : Course) (standing : Standing) → goes_on shards command course standing ≡ false →
    (s : ℕ) → s < shards → asks shards command course standing s ≡ None
asked-none shards command course standing h s lt =
    none-is (asks shards command course standing s) (some-none (λ t. is_some (asks shards command course standing t)) shards h s lt)

-- an answer of one that was asked
told-at : (shards : ℕ) (asked : Asked) (told : ℕ → Told) → AllMayBeTold shards asked told → (s : ℕ) (act : Act) → asked s ≡ Some act →
    (K : Keyspace) × IsTold shards s K act (told s)
told-at shards asked told reached s act e = subst (λ o. MayBeTold shards s o (told s)) e (reached s)

-- one of those that were asked found no memory, or all did what they were asked
wanted-one : (shards : ℕ) (asked : Asked) (told : ℕ → Told) → round_wanted shards asked told ≡ true →
    (s : ℕ) × (s < shards) × (is_some (asked s) ≡ true) × (told s ≡ NoMemory)
wanted-one shards asked told h =
    let v = some-found (λ t. is_some (asked t) && not (did (told t))) shards h in
    let p = and_parts (is_some (asked v.0)) (not (did (told v.0))) v.2 in
    (v.0, v.1, p.0, no-memory (told v.0) (not-true (did (told v.0)) p.1))

all-did : (shards : ℕ) (asked : Asked) (told : ℕ → Told) → round_wanted shards asked told ≡ false → (s : ℕ) → s < shards → (act : Act) →
    asked s ≡ Some act → did (told s) ≡ true
all-did shards asked told h s lt act e = elim (and_cases (is_some (asked s)) (not (did (told s))) (some-none (λ t. is_some (asked t) && not (did (told t))) shards h s lt)) [
  | inl n ↦ absurd (true≢false (sym (ap is_some e) ∙ n))
  | inr d ↦ not-false (did (told s)) d
]

nil-or : {X : Type 0} (xs : List X) → (xs ≡ []) ⊎ (xs ≢ [])
nil-or [] = inl refl
nil-or (x ∷ xs) = inr (λ e. cc)

hop-0 : (i : ℕ) → 4 * i + 0 ≡ 4 * i
hop-0 i = omega arith

-- ---- one shard

module _ (shards i : ℕ) (command : Command) (t : ℕ) (e : course_of shards command ≡ Alone t) (own : ℕ → List Step) where
  alone-done : (x : Told) → own t ≡ first_step i (Run command) x ∷ [] → ((u : ℕ) → u ≢ t → own u ≡ []) →
      ((reply : Reply) × (x ≡ Ran reply)) ⊎ (x ≡ NoMemory) → Done shards i command own (did x) (reply_in x)
  alone-done x here there (inl r) =
      subst (λ y. Done shards i command own (did y) (reply_in y)) (sym r.1)
      (Done.ran t r.0 e (here ∙ ap (λ y. first_step i (Run command) y ∷ []) r.1) there)
  alone-done x here there (inr n) =
      subst (λ y. Done shards i command own (did y) (reply_in y)) (sym n)
      (Done.run_wanted t e (here ∙ ap (λ y. first_step i (Run command) y ∷ []) n) there)

module _ (shards i : ℕ) (command : Command) (t : ℕ) (pos : 0 < shards) (e : course_of shards command ≡ Alone t) (a : ℕ → Told) where
  alone-here : asks shards command (Alone t) Fresh t ≡ Some (Run command)
  alone-here =
      on-in shards (first_asked shards command (Alone t)) t (alone_within shards t command pos e)
      ∙ ap (λ b. cond b (Some (Run command)) None) (eq-eqb t t refl)

  alone-there : (u : ℕ) → u ≢ t → asks shards command (Alone t) Fresh u ≡ None
  alone-there u ne =
      ap (λ b. cond (nat_lt u shards) (cond b (Some (Run command)) None) None) (ne_eqb t u (λ i. ne (sym i)))
      ∙ either_way (nat_lt u shards) None

  alone-once : AllMayBeTold shards (asks shards command (Alone t) Fresh) a →
      Done shards i command (first_steps shards i command (Alone t) a) (did (a t)) (reply_in (a t))
  alone-once reached =
      let k = told-at shards (asks shards command (Alone t) Fresh) a reached t (Run command) alone-here in
      alone-done shards i command t e (first_steps shards i command (Alone t) a) (a t)
      (ap (λ o. step_told (4 * i + 0) o (a t)) alone-here ∙ ap (λ h. record { hop = h; act = Run command; told = a t } ∷ []) (hop-0 i))
      (λ u ne. ap (λ o. step_told (4 * i + 0) o (a u)) (alone-there u ne))
      (run_told shards t k.0 command (a t) k.1)

-- ---- each shard

module _ (shards i : ℕ) (command : Command) (course : Course) (act : Act) (is : (s : ℕ) → first_asked shards command course s ≡ Some act)
    (first : 4 * i + hop_of shards command course Fresh ≡ 4 * i) (a : ℕ → Told) where
  each-asked : (s : ℕ) → s < shards → asks shards command course Fresh s ≡ Some act
  each-asked s lt = on-in shards (first_asked shards command course) s lt ∙ is s

  each-on : (told : ℕ → Told) → ((s : ℕ) → s < shards → a s ≡ told s) →
      OnEach shards (first_steps shards i command course a) (λ s. first_step i act (told s) ∷ [])
  each-on told same = record {
    within = λ s lt. (
        ap (λ o. step_told (4 * i + hop_of shards command course Fresh) o (a s)) (each-asked s lt)
        ∙ (λ j. record { hop = first j; act = act; told = same s lt j } ∷ []));
    beyond = λ s le. ap (λ o. step_told (4 * i + hop_of shards command course Fresh) o (a s)) (on-out shards (first_asked shards command course) s le);
  }

  each-wanted : round_wanted shards (first_asked shards command course) a ≡ true → Wanted shards a
  each-wanted h = let v = wanted-one shards (first_asked shards command course) a h in (v.0, v.1, v.3)

  each-told : AllMayBeTold shards (asks shards command course Fresh) a → (s : ℕ) → s < shards → (K : Keyspace) × IsTold shards s K act (a s)
  each-told reached s lt = told-at shards (asks shards command course Fresh) a reached s act (each-asked s lt)

  each-did : round_wanted shards (first_asked shards command course) a ≡ false → (s : ℕ) → s < shards → did (a s) ≡ true
  each-did h s lt = all-did shards (first_asked shards command course) a h s lt act (is s)

module _ (shards i : ℕ) (command : Command) (a : ℕ → Told) where
  names-stops : course_of shards command ≡ courses.Names → Done shards i command (first_steps shards i command courses.Names a) false want_of_memory
  names-stops e =
      let p = names_whole shards command e in
      Done.names_wanted p.0 a p.1 (each-on shards i command courses.Names Walk (λ s. refl) (hop-0 i) a a (λ s lt. refl))

  names-once : course_of shards command ≡ courses.Names → AllMayBeTold shards (asks shards command courses.Names Fresh) a →
      (b : Bool) → round_wanted shards (first_asked shards command courses.Names) a ≡ b →
      Done shards i command (first_steps shards i command courses.Names a) false
      (cond b want_of_memory (names_reply command (names_of (λ t. names_in (a t)) shards)))
  names-once e reached true w = names-stops e
  names-once e reached false w =
      let p = names_whole shards command e in
      subst (λ r. Done shards i command (first_steps shards i command courses.Names a) false r)
      (sym (ap (λ c. names_reply c (names_of (λ t. names_in (a t)) shards)) p.1))
      (Done.names p.0 (λ t. names_in (a t)) p.1
      (each-on shards i command courses.Names Walk (λ s. refl) (hop-0 i) a (λ s. acts.Names (names_in (a s)))
      (λ s lt.
      let k = each-told shards i command courses.Names Walk (λ s. refl) (hop-0 i) a reached s lt in
      walk-is shards s k.0 (a s) k.1 (each-did shards i command courses.Names Walk (λ s. refl) (hop-0 i) a w s lt))))

  counts-once : course_of shards command ≡ Counts → AllMayBeTold shards (asks shards command Counts Fresh) a →
      (b : Bool) → round_wanted shards (first_asked shards command Counts) a ≡ b →
      Done shards i command (first_steps shards i command Counts a) false (cond b want_of_memory (count (sum_of (λ t. number_in (a t)) shards)))
  counts-once e reached true w =
      Done.counts_wanted a (counts_whole shards command e) (each-on shards i command Counts Count (λ s. refl) (hop-0 i) a a (λ s lt. refl))
      (each-wanted shards i command Counts Count (λ s. refl) (hop-0 i) a w)
  counts-once e reached false w =
      Done.counts (λ t. number_in (a t)) (counts_whole shards command e)
      (each-on shards i command Counts Count (λ s. refl) (hop-0 i) a (λ s. Number (number_in (a s)))
      (λ s lt.
      let k = each-told shards i command Counts Count (λ s. refl) (hop-0 i) a reached s lt in
      count-is shards s k.0 (a s) k.1 (each-did shards i command Counts Count (λ s. refl) (hop-0 i) a w s lt)))

  cuts-once : course_of shards command ≡ Cuts → AllMayBeTold shards (asks shards command Cuts Fresh) a → (saved : Reply) →
      IsSaveReply saved → Done shards i command (first_steps shards i command Cuts a) false saved
  cuts-once e reached saved is =
      Done.cuts (λ t. cut_in (a t)) saved (cuts_whole shards command e)
      (each-on shards i command Cuts Begin (λ s. refl) (hop-0 i) a (λ s. Cut (cut_in (a s)))
      (λ s lt. let k = each-told shards i command Cuts Begin (λ s. refl) (hop-0 i) a reached s lt in cut-is shards s k.0 (a s) k.1))
      is

-- ---- FLUSHALL on several shards

module _ (shards i : ℕ) (command : Command) (e : course_of shards command ≡ Clears) (a b : ℕ → Told)
    (reached : AllMayBeTold shards (asks shards command Clears Fresh) a)
    (fits-end : AllMayBeTold shards (asks shards command Clears (Once a)) b) where
  abbrev own : ℕ → List Step
  own s = first_steps shards i command Clears a s ++ second_steps shards i command Clears a b s

  module _ (z : Bool) (w : round_wanted shards (first_asked shards command Clears) a ≡ z) where
    clears-asked : (s : ℕ) → s < shards → asks shards command Clears (Once a) s ≡ Some (cond z Unstage Clear)
    clears-asked s lt = on-in shards (second_asked shards command Clears a) s lt ∙ ap (λ v. Some (cond v Unstage Clear)) w

    clears-shape : (s : ℕ) → s < shards → own s
        ≡ record { hop = 4 * i + 1; act = Stage []; told = a s } ∷ record { hop = 4 * i + cond z 3 2; act = cond z Unstage Clear; told = b s } ∷ []
    clears-shape s lt =
        (λ j. staged-shape shards i command a s lt j ++ step_told (4 * i + cond (w j) 3 2) (clears-asked s lt j) (b s))

    clears-beyond : (s : ℕ) → shards ≤ s → own s ≡ []
    clears-beyond s le =
        (λ j. step_told (4 * i + 1) (on-out shards (first_asked shards command Clears) s le j) (a s)
        ++ step_told (4 * i + second_hop shards command Clears a) (on-out shards (second_asked shards command Clears a) s le j) (b s))

    clears-told : (s : ℕ) → s < shards → (K : Keyspace) × IsTold shards s K (cond z Unstage Clear) (b s)
    clears-told s lt = told-at shards (asks shards command Clears (Once a)) b fits-end s (cond z Unstage Clear) (clears-asked s lt)

  clears-twice : (z : Bool) → round_wanted shards (first_asked shards command Clears) a ≡ z →
      Done shards i command own (not z) (cond z want_of_memory ok)
  clears-twice true w =
      Done.kept_all a e
      (record {
        within = λ s lt. (
            let k = clears-told true w s lt in
            clears-shape true w s lt
            ∙ ap (λ x. stage_step i (Stage []) (a s) ∷ record { hop = 4 * i + 3; act = Unstage; told = x } ∷ []) (unstage-is shards s k.0 (b s) k.1));
        beyond = clears-beyond true w;
      })
      (let v = wanted-one shards (first_asked shards command Clears) a w in (v.0, v.1, v.3))
  clears-twice false w =
      Done.cleared e (record {
        within = λ s lt. (
            let k = clears-told false w s lt in
            let q = told-at shards (asks shards command Clears Fresh) a reached s (Stage []) (on-in shards (first_asked shards command Clears) s lt) in
            clears-shape false w s lt
            ∙ (λ j. stage_step i (Stage []) (stage-is shards s q.0 [] (a s) q.1 (all-did shards (first_asked shards command Clears) a w s lt (Stage []) refl) j)
            ∷ record { hop = 4 * i + 2; act = Clear; told = clear-is shards s k.0 (b s) k.1 j } ∷ []));
        beyond = clears-beyond false w;
      })

-- ---- several shards

-- a shard with a key of the command is one that there is
keys-within : (shards s : ℕ) (command : Command) → 0 < shards → course_of shards command ≡ Spread → shards ≤ s → keys_on shards s command ≡ []
keys-within shards s command pos e le = go (keys_on shards s command) refl
  where
    go : (keys : List Bytes) → keys_on shards s command ≡ keys → keys ≡ []
    go [] is = refl
    go (k ∷ keys) is =
        let a = spread_access shards command e in
        let h = sym (keys_of_one shards s command a.0 k a.1) ∙ ap (λ l. among l k) is ∙ first_among k keys in
        absurd (omega (arith, le, below_shards k shards pos, eqb-true (shard_of k shards) s (and_parts (among (names a.0) k) (shard_of k shards == s) h).1))

module _ (shards i : ℕ) (pos : 0 < shards) (command : Command) (e : course_of shards command ≡ Spread) (a : ℕ → Told)
    (reached : AllMayBeTold shards (asks shards command Spread Fresh) a) where
  abbrev keys : ℕ → List Bytes
  keys s = keys_on shards s command

  abbrev K : Keyspace
  K = values_told shards command a

  abbrev changes : ℕ → Changes
  changes s = changes_on shards s command K

  abbrev first : ℕ → List Step
  first s = first_steps shards i command Spread a s

  abbrev wanted : Bool
  wanted = round_wanted shards (first_asked shards command Spread) a

  asks-read : (s : ℕ) → asks shards command Spread Fresh s ≡ read_of (keys s)
  asks-read s = elim (cases_lt s shards) [
    | inl lt ↦ on-in shards (first_asked shards command Spread) s lt
    | inr le ↦ on-out shards (first_asked shards command Spread) s le ∙ sym (ap read_of (keys-within shards s command pos e le))
  ]

  first-is : (s : ℕ) → first s ≡ step_told (4 * i + 0) (read_of (keys s)) (a s)
  first-is s = ap (λ o. step_told (4 * i + 0) o (a s)) (asks-read s)

  read-step : (ks : List Bytes) (x : Told) → ks ≢ [] → step_told (4 * i + 0) (read_of ks) x ≡ first_step i (Read ks) x ∷ []
  read-step [] x ne = absurd (ne refl)
  read-step (k ∷ ks) x ne = ap (λ h. record { hop = h; act = Read (k ∷ ks); told = x } ∷ []) (hop-0 i)

  first-none : (s : ℕ) → keys s ≡ [] → first s ≡ []
  first-none s n = first-is s ∙ ap (λ ks. step_told (4 * i + 0) (read_of ks) (a s)) n

  stops : (s : ℕ) → Stops shards i s command (first s)
  stops s = elim (nil-or (keys s)) [
    | inl n ↦ subst (Stops shards i s command) (sym (first-none s n)) (Stops.unnamed n)
    | inr ne ↦ subst (Stops shards i s command) (sym (first-is s ∙ read-step (keys s) (a s) ne)) (Stops.read ne (a s))
  ]

  pub spread-stops : Done shards i command first false want_of_memory
  spread-stops = Done.stopped e stops

  module _ (had : wanted ≡ false) where
    told-on : (s : ℕ) (ks : List Bytes) (x : Told) → MayBeTold shards s (read_of ks) x → (is_some (read_of ks) ≡ true → did x ≡ true) →
        (L : Keyspace) × ((ks ≡ []) ⊎ (x ≡ Values (map (held L) ks)))
    told-on s [] x m d = (no_keys, inl refl)
    told-on s (k ∷ ks) x m d = (m.0, inr (read-is shards s m.0 (k ∷ ks) x m.1 (d refl)))

    read-at : (s : ℕ) → (L : Keyspace) × ((keys s ≡ []) ⊎ (a s ≡ Values (map (held L) (keys s))))
    read-at s = elim (cases_lt s shards) [
      | inl lt ↦ told-on s (keys s) (a s) (subst (λ o. MayBeTold shards s o (a s)) (asks-read s) (reached s))
          (λ h. let o = some-is (read_of (keys s)) h in all-did shards (first_asked shards command Spread) a had s lt o.0 o.1)
      | inr le ↦ (no_keys, inl (keys-within shards s command pos e le))
    ]

    has-read : (ks : List Bytes) (x : Told) (values : List (Option Value)) → (ks ≡ []) ⊎ (x ≡ Values values) →
        (ks ≡ []) ⊎ (values_of (step_told (4 * i + 0) (read_of ks) x) ≡ values)
    has-read [] x values h = inl refl
    has-read (k ∷ ks) x values (inl n) = inl n
    has-read (k ∷ ks) x values (inr v) = inr (ap values_in v)

    reads : (t : ℕ) → t < shards → HasRead shards command (read-at t).0 t (first t)
    reads t lt =
        subst (HasRead shards command (read-at t).0 t) (sym (first-is t))
        (has-read (keys t) (a t) (map (held (read-at t).0) (keys t)) (read-at t).1)

    -- what was read is what the keys hold in all that was read
    pub values-are : (s : ℕ) → keys s ≢ [] → a s ≡ Values (map (held K) (keys s))
    values-are s ne = elim (read-at s).1 [
      | inl n ↦ absurd (ne n)
      | inr v ↦ v
          ∙ ap Values (sym (values_back shards command first (λ t. (read-at t).0) pos e reads s)
          ∙ ap (λ L. map (held L) (keys s)) (once-values shards i command a))
    ]

    read-is-step : (s : ℕ) → keys s ≢ [] → step_told (4 * i + 0) (read_of (keys s)) (a s) ≡ read_step shards i s command K ∷ []
    read-is-step s ne = read-step (keys s) (a s) ne ∙ ap (λ x. first_step i (Read (keys s)) x ∷ []) (values-are s ne)

    looks : (s : ℕ) → changes s ≡ [] → Shows shards i s command K (first s)
    looks s none = elim (nil-or (keys s)) [
      | inl n ↦ subst (Shows shards i s command K) (sym (first-none s n)) (Shows.unnamed n)
      | inr ne ↦ subst (Shows shards i s command K) (sym (first-is s ∙ read-is-step s ne)) (Shows.looked ne none)
    ]

    second-is : (s : ℕ) → asks shards command Spread (Once a) s ≡ stage_of (changes s)
    second-is s = elim (cases_lt s shards) [
      | inl lt ↦ on-in shards (second_asked shards command Spread a) s lt ∙ ap (λ w. cond w None (stage_of (changes s))) had
      | inr le ↦ on-out shards (second_asked shards command Spread a) s le ∙ sym (ap stage_of (keyless shards s command K (keys-within shards s command pos e le)))
    ]

    pub spread-looked : goes_on shards command Spread (Once a) ≡ false → Done shards i command first false (meaning command K).0
    spread-looked over = Done.looked K e (λ s. looks s (none s)) none
      where
        none : (s : ℕ) → changes s ≡ []
        none s = elim (cases_lt s shards) [
          | inl lt ↦ stage-none (changes s) (sym (second-is s) ∙ asked-none shards command Spread (Once a) over s lt)
          | inr le ↦ keyless shards s command K (keys-within shards s command pos e le)
        ]

    -- ---- the changes

    module _ (b c : ℕ → Told) (fits-stage : AllMayBeTold shards (asks shards command Spread (Once a)) b)
        (fits-end : AllMayBeTold shards (asks shards command Spread (Twice a b)) c) where
      abbrev end_wanted : Bool
      end_wanted = round_wanted shards (second_asked shards command Spread a) b

      abbrev all : ℕ → List Step
      all s = (first s ++ second_steps shards i command Spread a b s) ++ third_steps shards i command Spread a b c s

      third-is : (s : ℕ) → asks shards command Spread (Twice a b) s ≡ end_of end_wanted Apply (stage_of (changes s))
      third-is s = elim (cases_lt s shards) [
        | inl lt ↦ on-in shards (third_asked shards command Spread a b) s lt
            ∙ ap (end_of end_wanted Apply) (ap (λ w. cond w None (stage_of (changes s))) had)
        | inr le ↦ on-out shards (third_asked shards command Spread a b) s le
            ∙ sym (ap (λ ch. end_of end_wanted Apply (stage_of ch)) (keyless shards s command K (keys-within shards s command pos e le)))
      ]

      abbrev like : Bool → List Bytes → Changes → ℕ → List Step
      like z ks ch s =
          (step_told (4 * i + 0) (read_of ks) (a s) ++ step_told (4 * i + 1) (stage_of ch) (b s))
          ++ step_told (4 * i + cond z 3 2) (end_of z Apply (stage_of ch)) (c s)

      module _ (z : Bool) (w : end_wanted ≡ z) where
        all-is : (s : ℕ) → all s ≡ like z (keys s) (changes s) s
        all-is s =
            (λ j. (first-is s j ++ step_told (4 * i + 1) (second-is s j) (b s)) ++ step_told (4 * i + cond end_wanted 3 2) (third-is s j) (c s))
            ∙ (λ j. like (w j) (keys s) (changes s) s)

        like-none : (s : ℕ) → keys s ≡ [] → all s ≡ []
        like-none s n = all-is s ∙ (λ j. like z (n j) (keyless shards s command K n j) s)

        like-looked : (s : ℕ) → keys s ≢ [] → changes s ≡ [] → all s ≡ read_step shards i s command K ∷ []
        like-looked s ne none =
            all-is s ∙ (λ j. like z (keys s) (none j) s)
            ∙ (λ j. (read-is-step s ne j ++ []) ++ [])

        stage-step : (ch : Changes) (x y : Told) → ch ≢ [] →
            step_told (4 * i + 1) (stage_of ch) x ++ step_told (4 * i + cond z 3 2) (end_of z Apply (stage_of ch)) y
            ≡ stage_step i (Stage ch) x ∷ record { hop = 4 * i + cond z 3 2; act = cond z Unstage Apply; told = y } ∷ []
        stage-step [] x y ne = absurd (ne refl)
        stage-step (p ∷ ch) x y ne = refl

        like-three : (s : ℕ) → changes s ≢ [] → all s
            ≡ read_step shards i s command K ∷ stage_step i (Stage (changes s)) (b s)
            ∷ record { hop = 4 * i + cond z 3 2; act = cond z Unstage Apply; told = c s } ∷ []
        like-three s ne =
            all-is s
            ∙ (λ j. (read-is-step s (λ n. ne (keyless shards s command K n)) j ++ step_told (4 * i + 1) (stage_of (changes s)) (b s))
            ++ step_told (4 * i + cond z 3 2) (end_of z Apply (stage_of (changes s))) (c s))
            ∙ ap (λ l. read_step shards i s command K ∷ l) (stage-step (changes s) (b s) (c s) ne)

        stage-some-of : (ch : Changes) → ch ≢ [] → stage_of ch ≡ Some (Stage ch)
        stage-some-of [] ne = absurd (ne refl)
        stage-some-of (p ∷ ch) ne = refl

        -- a shard on which something changes is one that there is
        changes-within : (s : ℕ) → changes s ≢ [] → s < shards
        changes-within s ne = elim (cases_lt s shards) [
          | inl lt ↦ lt
          | inr le ↦ absurd (ne (keyless shards s command K (keys-within shards s command pos e le)))
        ]

        ended : (s : ℕ) → changes s ≢ [] → (L : Keyspace) × IsTold shards s L (cond z Unstage Apply) (c s)
        ended s ne =
            told-at shards (asks shards command Spread (Twice a b)) c fits-end s (cond z Unstage Apply)
            (third-is s ∙ (λ j. end_of (w j) Apply (stage-some-of (changes s) ne j)))

      some-change : goes_on shards command Spread (Once a) ≡ true → (s : ℕ) × (s < shards) × (changes s ≢ [])
      some-change went =
          let v = asked-some shards command Spread (Once a) went in
          (v.0, v.1, λ n. none-some v.2 (sym (ap stage_of n) ∙ sym (second-is v.0) ∙ v.3))

      applies : end_wanted ≡ false → (s : ℕ) → Shows shards i s command K (all s)
      applies w s = elim (nil-or (changes s)) [
        | inl none ↦ elim (nil-or (keys s)) [
          | inl n ↦ subst (Shows shards i s command K) (sym (like-none false w s n)) (Shows.unnamed n)
          | inr ne ↦ subst (Shows shards i s command K) (sym (like-looked false w s ne none)) (Shows.looked ne none)
        ]
        | inr some ↦ (
            let k = ended false w s some in
            let q = told-at shards (asks shards command Spread (Once a)) b fits-stage s (Stage (changes s))
            (second-is s ∙ stage-some-of false w (changes s) some) in
            let d = all-did shards (second_asked shards command Spread a) b w s (changes-within false w s some) (Stage (changes s))
            (ap (λ v. cond v None (stage_of (changes s))) had ∙ stage-some-of false w (changes s) some) in
            subst (Shows shards i s command K)
            (sym (like-three false w s some
            ∙ (λ j. read_step shards i s command K ∷ stage_step i (Stage (changes s)) (stage-is shards s q.0 (changes s) (b s) q.1 d j)
            ∷ record { hop = 4 * i + 2; act = Apply; told = apply-is shards s k.0 (c s) k.1 j } ∷ [])))
            (Shows.applied some))
      ]

      undoes : end_wanted ≡ true → (s : ℕ) → Undoes shards i s command K (all s)
      undoes w s = elim (nil-or (changes s)) [
        | inl none ↦ elim (nil-or (keys s)) [
          | inl n ↦ subst (Undoes shards i s command K) (sym (like-none true w s n)) (Undoes.unnamed n)
          | inr ne ↦ subst (Undoes shards i s command K) (sym (like-looked true w s ne none)) (Undoes.looked ne none)
        ]
        | inr some ↦ (
            let k = ended true w s some in
            subst (Undoes shards i s command K)
            (sym (like-three true w s some
            ∙ (λ j. read_step shards i s command K ∷ stage_step i (Stage (changes s)) (b s)
            ∷ record { hop = 4 * i + 3; act = Unstage; told = unstage-is shards s k.0 (c s) k.1 j } ∷ [])))
            (Undoes.undone some (b s)))
      ]

      pub spread-ends : goes_on shards command Spread (Once a) ≡ true → (z : Bool) → end_wanted ≡ z →
          Done shards i command all (not z) (cond z want_of_memory (meaning command K).0)
      spread-ends went false w = Done.changed K e (applies w) (some-change went)
      spread-ends went true w = Done.undone K e (undoes w) (v.0, v.1, wanted-there)
        where
          v : (s : ℕ) × (s < shards) × (is_some (second_asked shards command Spread a s) ≡ true) × (b s ≡ NoMemory)
          v = wanted-one shards (second_asked shards command Spread a) b w

          there : changes v.0 ≢ []
          there n = false≢true (sym (ap (λ ch. is_some (stage_of ch)) n) ∙ sym (ap (λ q. is_some (cond q None (stage_of (changes v.0)))) had) ∙ v.2)

          wanted-there : second_wanted (all v.0) ≡ true
          wanted-there = ap second_wanted (like-three true w v.0 there) ∙ ap (λ x. not (did x)) v.3

-- ---- each course

module _ (shards i : ℕ) (pos : 0 < shards) (command : Command) (saved : Reply) where
  abbrev Ends : Course → Standing → Type 0
  Ends course standing =
      Done shards i command (steps_so_far shards i command course standing) (kept_of shards command course standing)
      (reply_of shards command course saved standing)

  -- a command with a hop has asked for nothing yet
  first-asks : (course : Course) (s : ℕ) (act : Act) → s < shards → first_asked shards command course s ≡ Some act →
      goes_on shards command course Fresh ≡ false → ⊥
  first-asks course s act lt is over =
      none-some act (sym (asked-none shards command course Fresh over s lt) ∙ on-in shards (first_asked shards command course) s lt ∙ is)

  read-some : (ks : List Bytes) → ks ≢ [] → read_of ks ≡ Some (Read ks)
  read-some [] ne = absurd (ne refl)
  read-some (k ∷ ks) ne = refl

  spread-begins : course_of shards command ≡ Spread → goes_on shards command Spread Fresh ≡ false → ⊥
  spread-begins e over = elim (cases_lt v.0 shards) [
    | inl lt ↦ first-asks Spread v.0 (Read (keys_on shards v.0 command)) lt (read-some (keys_on shards v.0 command) v.1) over
    | inr le ↦ v.1 (keys-within shards v.0 command pos e le)
  ]
    where
      v : (s : ℕ) × (keys_on shards s command ≢ [])
      v = spread_keys shards command e

  fresh-ends : (course : Course) → course_of shards command ≡ course → goes_on shards command course Fresh ≡ false → Ends course Fresh
  fresh-ends Nowhere e over = Done.nowhere e (λ s. refl)
  fresh-ends (Alone t) e over =
      absurd (first-asks (Alone t) t (Run command) (alone_within shards t command pos e)
      (ap (λ b. cond b (Some (Run command)) None) (eq-eqb t t refl)) over)
  fresh-ends Spread e over = absurd (spread-begins e over)
  fresh-ends courses.Names e over = absurd (first-asks courses.Names 0 Walk pos refl over)
  fresh-ends Counts e over = absurd (first-asks Counts 0 Count pos refl over)
  fresh-ends Cuts e over = absurd (first-asks Cuts 0 Begin pos refl over)
  fresh-ends Clears e over = absurd (first-asks Clears 0 (Stage []) pos refl over)

  -- nothing was asked, so that nothing went on
  never : {A : Type 0} (course : Course) (standing : Standing) (asked : Asked) → asks shards command course standing ≡ on_shards shards asked →
      ((s : ℕ) → asked s ≡ None) → goes_on shards command course standing ≡ true → A
  never course standing asked is none went =
      let v = asked-some shards command course standing went in
      absurd (none-some v.2 (sym (none v.0) ∙ (on-found shards asked v.0 v.2 (sym (ap (λ f. f v.0) is) ∙ v.3)).1))

  spread-once : course_of shards command ≡ Spread → (a : ℕ → Told) → AllMayBeTold shards (asks shards command Spread Fresh) a →
      goes_on shards command Spread (Once a) ≡ false → (b : Bool) → round_wanted shards (first_asked shards command Spread) a ≡ b →
      Done shards i command (first_steps shards i command Spread a) false
      (cond b want_of_memory (meaning command (values_told shards command a)).0)
  spread-once e a reached over true w = spread-stops shards i pos command e a reached
  spread-once e a reached over false w = spread-looked shards i pos command e a reached w over

  once-ends : (course : Course) → course_of shards command ≡ course → (a : ℕ → Told) → IsReached shards command course (Once a) →
      goes_on shards command course (Once a) ≡ false → (course ≡ Cuts → IsSaveReply saved) → Ends course (Once a)
  once-ends Nowhere e a reached over saves = never Nowhere Fresh (first_asked shards command Nowhere) refl (λ s. refl) reached.0
  once-ends (Alone t) e a reached over saves = alone-once shards i command t pos e a reached.1
  once-ends Spread e a reached over saves = spread-once e a reached.1 over (round_wanted shards (first_asked shards command Spread) a) refl
  once-ends courses.Names e a reached over saves = names-once shards i command a e reached.1 (round_wanted shards (first_asked shards command courses.Names) a) refl
  once-ends Counts e a reached over saves = counts-once shards i command a e reached.1 (round_wanted shards (first_asked shards command Counts) a) refl
  once-ends Cuts e a reached over saves = cuts-once shards i command a e reached.1 saved (saves refl)
  once-ends Clears e a reached over saves =
      absurd (none-some (cond (round_wanted shards (first_asked shards command Clears) a) Unstage Clear)
      (sym (asked-none shards command Clears (Once a) over 0 pos) ∙ on-in shards (second_asked shards command Clears a) 0 pos))

  -- who was asked to stage is asked again
  spread-twice : (a b : ℕ → Told) → goes_on shards command Spread (Once a) ≡ true → goes_on shards command Spread (Twice a b) ≡ false → ⊥
  spread-twice a b went over =
      let v = asked-some shards command Spread (Once a) went in
      let z = round_wanted shards (second_asked shards command Spread a) b in
      none-some (cond z Unstage Apply)
      (sym (asked-none shards command Spread (Twice a b) over v.0 v.1) ∙ on-in shards (third_asked shards command Spread a b) v.0 v.1
      ∙ ap (end_of z Apply) (on-found shards (second_asked shards command Spread a) v.0 v.2 v.3).1)

  twice-ends : (course : Course) → course_of shards command ≡ course → (a b : ℕ → Told) → IsReached shards command course (Twice a b) →
      goes_on shards command course (Twice a b) ≡ false → Ends course (Twice a b)
  twice-ends Nowhere e a b reached over = never Nowhere (Once a) (second_asked shards command Nowhere a) refl (λ s. refl) reached.1
  twice-ends (Alone t) e a b reached over = never (Alone t) (Once a) (second_asked shards command (Alone t) a) refl (λ s. refl) reached.1
  twice-ends Spread e a b reached over = absurd (spread-twice a b reached.1 over)
  twice-ends courses.Names e a b reached over = never courses.Names (Once a) (second_asked shards command courses.Names a) refl (λ s. refl) reached.1
  twice-ends Counts e a b reached over = never Counts (Once a) (second_asked shards command Counts a) refl (λ s. refl) reached.1
  twice-ends Cuts e a b reached over = never Cuts (Once a) (second_asked shards command Cuts a) refl (λ s. refl) reached.1
  twice-ends Clears e a b reached over = clears-twice shards i command e a b reached.0 reached.2 (round_wanted shards (first_asked shards command Clears) a) refl

  thrice-ends : (course : Course) → course_of shards command ≡ course → (a b c : ℕ → Told) → IsReached shards command course (Thrice a b c) →
      Ends course (Thrice a b c)
  thrice-ends Nowhere e a b c reached = never Nowhere (Twice a b) (third_asked shards command Nowhere a b) refl (λ s. refl) reached.3
  thrice-ends (Alone t) e a b c reached = never (Alone t) (Twice a b) (third_asked shards command (Alone t) a b) refl (λ s. refl) reached.3
  thrice-ends Spread e a b c reached =
      let v = asked-some shards command Spread (Once a) reached.1 in
      let had = not_so (round_wanted shards (first_asked shards command Spread) a) (stage_of (changes_on shards v.0 command (values_told shards command a))) v.2
      (on-found shards (second_asked shards command Spread a) v.0 v.2 v.3).1 in
      spread-ends shards i pos command e a reached.0 had.0 b c reached.2 reached.4 reached.1 (round_wanted shards (second_asked shards command Spread a) b) refl
  thrice-ends courses.Names e a b c reached = never courses.Names (Twice a b) (third_asked shards command courses.Names a b) refl (λ s. refl) reached.3
  thrice-ends Counts e a b c reached = never Counts (Twice a b) (third_asked shards command Counts a b) refl (λ s. refl) reached.3
  thrice-ends Cuts e a b c reached = never Cuts (Twice a b) (third_asked shards command Cuts a b) refl (λ s. refl) reached.3
  thrice-ends Clears e a b c reached = never Clears (Twice a b) (third_asked shards command Clears a b) refl (λ s. refl) reached.3

  course-ends : (course : Course) → course_of shards command ≡ course → (standing : Standing) → IsReached shards command course standing →
      goes_on shards command course standing ≡ false → (course ≡ Cuts → IsSaveReply saved) → Ends course standing
  course-ends course e Fresh reached over saves = fresh-ends course e over
  course-ends course e (Once a) reached over saves = once-ends course e a reached over saves
  course-ends course e (Twice a b) reached over saves = twice-ends course e a b reached over
  course-ends course e (Thrice a b c) reached over saves = thrice-ends course e a b c reached

pub over_is_done : OverIsDone
over_is_done shards i command standing saved pos reached over saves =
    course-ends shards i pos command saved (course_of shards command) refl standing reached over saves

pub stop_is_done : StopIsDone
stop_is_done shards i command standing pos reached stops = go (course_of shards command) refl standing reached stops
  where
    go : (course : Course) → course_of shards command ≡ course → (standing : Standing) → IsReached shards command course standing →
        may_stop course standing ≡ true → Done shards i command (steps_so_far shards i command course standing) false want_of_memory
    go Nowhere e Fresh reached m = Done.nowhere_wanted e (λ s. refl)
    go Nowhere e (Once a) reached m = absurd (false≢true m)
    go Nowhere e (Twice a b) reached m = absurd (false≢true m)
    go Nowhere e (Thrice a b c) reached m = absurd (false≢true m)
    go (Alone t) e standing reached m = absurd (false≢true m)
    go Spread e Fresh reached m = absurd (false≢true m)
    go Spread e (Once a) reached m = spread-stops shards i pos command e a reached.1
    go Spread e (Twice a b) reached m = absurd (false≢true m)
    go Spread e (Thrice a b c) reached m = absurd (false≢true m)
    go courses.Names e Fresh reached m = absurd (false≢true m)
    go courses.Names e (Once a) reached m = names-stops shards i command a e
    go courses.Names e (Twice a b) reached m = absurd (false≢true m)
    go courses.Names e (Thrice a b c) reached m = absurd (false≢true m)
    go Counts e standing reached m = absurd (false≢true m)
    go Cuts e standing reached m = absurd (false≢true m)
    go Clears e standing reached m = absurd (false≢true m)
