-- On which shards a command stands, and that its call asks for something just there.
use Rattle.std.proofs.Common.{◌≡◌, ◌≢◌, ◌⊎◌, inl, inr, ℕ, ◌<◌, Bool, true, false, cond, not, is_some, map, List, [], ◌∷◌, refl, sym, ap, ◌∙◌, subst, arith}
use Rattle.std.specs.Prelude.{Some, None, ◌==◌}
use Rattle.std.proofs.lemmas.Bool.{false≢true, true≢false, or_cases, eqb-true, cond_both}
use Rattle.std.proofs.lemmas.Option.{none-some}
use Rattle.std.specs.FinMap as fin
use Rattle.df_model.specs.Values.{Bytes}
use Rattle.df_model.specs.Access.{among}
use Rattle.df_model.specs.Hash.{shard_of}
use Rattle.df_model.proofs.WholeLaws.{first_among}
use Rattle.df_model.specs.declared.command.WholeOp.{WholeOp}
use Rattle.df_model.specs.declared.command.WholeOp.TheVariants as wholes
use Rattle.df_model.specs.declared.command.Command.{Command}
use Rattle.df_model.specs.declared.keys.Mode.{Mode}
use Rattle.df_model.specs.declared.keys.Keys.TheVariants as kinds
use Rattle.df_footprints.specs.Footprints.{Modes, access_of, keys_of, keys_of_all, whole_mode, modes_on, some_whole, some_keys, footprint_of_commands, mode_of_all}
use Rattle.df_footprints.proofs.ModesLaws.{mode_there, named_there}
use Rattle.df_order.specs.Lists.{Has}
use Rattle.df_order.proofs.Lists.{has_cases}
use Rattle.df_core.specs.Courses.{Alone, Spread, Clears, course_of, course_of_keys, course_of_whole, all_on, keys_on, has_hop, is_quick}
use Rattle.df_core.specs.Due.{is_nil}
use Rattle.df_core.proofs.CourseLaws.{by_kind, alone_each, is_whole, whole_of, spread_access}
use Rattle.df_core.proofs.AsksLaws.{some_whole-has, keys_of_all-has}

-- ---- where a command stands

-- the command asks for every key, or for one that stands on the shard
abbrev pub On : ℕ → ℕ → Command → Type 0
On shards s command = (is_some (whole_mode command) ≡ true) ⊎ ((m : Bytes × Mode) × Has (keys_of command) m × (shard_of m.0 shards ≡ s))

there_whole : (commands : List Command) → some_whole commands ≡ true →
    (command : Command) × Has commands command × (is_some (whole_mode command) ≡ true)
there_whole [] e = absurd (false≢true e)
there_whole (c ∷ commands) e = elim (or_cases (is_some (whole_mode c)) (some_whole commands) e) [
  | inl i ↦ (c, inl refl, i)
  | inr i ↦ let v = there_whole commands i in (v.0, inr v.1, v.2)
]

there_keys : (commands : List Command) (m : Bytes × Mode) → Has (keys_of_all commands) m →
    (command : Command) × Has commands command × Has (keys_of command) m
there_keys [] m h = absurd h
there_keys (c ∷ commands) m h = elim (has_cases (keys_of c) (keys_of_all commands) m h) [
  | inl k ↦ (c, inl refl, k)
  | inr k ↦ let v = there_keys commands m k in (v.0, inr v.1, v.2)
]

pub not_nil : {X : Type 0} (xs : List X) → not (is_nil xs) ≡ true → xs ≢ []
not_nil [] h = absurd (false≢true h)
not_nil (x ∷ xs) h = λ e. true≢false (ap (λ l. not (is_nil l)) e)

entries_there : (modes : Modes) (key : Bytes) → among (fin.keys modes) key ≡ true → fin.entries modes ≢ []
entries_there modes key h = λ e. false≢true (sym (ap (λ l. among (map (λ p. p.0) l) key) e) ∙ h)

first_there : (es : List (Bytes × Mode)) → es ≢ [] → (key : Bytes) × (among (map (λ p. p.0) es) key ≡ true)
first_there [] h = absurd (h refl)
first_there (e ∷ es) h = (e.0, first_among e.0 (map (λ p. p.0) es))

some_keys_some : (es : List (Bytes × Mode)) → es ≢ [] → some_keys es ≢ None
some_keys_some [] h = absurd (h refl)
some_keys_some (e ∷ es) h = λ i. true≢false (ap is_some i)

some_keys_none : (es : List (Bytes × Mode)) → some_keys es ≢ None → es ≢ []
some_keys_none [] h = absurd (h refl)
some_keys_none (e ∷ es) h = λ i. true≢false (ap (λ l. not (is_nil l)) i)

-- a call asks for something where one of its commands stands
pub on_asks : (shards s : ℕ) (commands : List Command) (command : Command) → Has commands command →
    On shards s command → footprint_of_commands shards s commands ≢ None
on_asks shards s commands command h (inl whole) =
    subst (λ b. cond b (Some (kinds.All (mode_of_all commands)))
    (some_keys (fin.entries (modes_on shards s commands))) ≢ None) (sym (some_whole-has commands command h whole))
    (λ e. true≢false (ap is_some e))
on_asks shards s commands command h (inr (m, k, e)) =
    cond_both (some_whole commands) (Some (kinds.All (mode_of_all commands))) (some_keys (fin.entries (modes_on shards s commands))) (λ o. o ≢ None)
    (λ _. λ i. true≢false (ap is_some i))
    (λ _. some_keys_some (fin.entries (modes_on shards s commands))
    (entries_there (modes_on shards s commands) m.0 (mode_there shards s commands m.0 m.1 (keys_of_all-has commands command m h k) e)))

-- and nowhere else
pub on_where_asked : (shards s : ℕ) (commands : List Command) → footprint_of_commands shards s commands ≢ None →
    (command : Command) × Has commands command × On shards s command
on_where_asked shards s commands = go (some_whole commands) refl
  where
    go : (b : Bool) → some_whole commands ≡ b →
        cond b (Some (kinds.All (mode_of_all commands))) (some_keys (fin.entries (modes_on shards s commands))) ≢ None →
        (command : Command) × Has commands command × On shards s command
    go true e h = let v = there_whole commands e in (v.0, v.1, inl v.2)
    go false e h =
        let k = first_there (fin.entries (modes_on shards s commands)) (some_keys_none (fin.entries (modes_on shards s commands)) h) in
        let n = named_there shards s commands k.0 k.1 in
        let v = there_keys commands (k.0, n.1.0) n.1.1 in
        (v.0, v.1, inr ((k.0, n.1.0), v.2, n.0))

-- a shard on which the command names a key
pub on_keys : (shards s : ℕ) (command : Command) → keys_on shards s command ≢ [] → On shards s command
on_keys shards s command h =
    let k = first_there (fin.entries (modes_on shards s (command ∷ []))) (λ e. h (ap (map (λ p. p.0)) e)) in
    let n = named_there shards s (command ∷ []) k.0 k.1 in
    let v = there_keys (command ∷ []) (k.0, n.1.0) n.1.1 in
    inr ((k.0, n.1.0), elim v.1 [ inl e ↦ subst (λ d. Has (keys_of d) (k.0, n.1.0)) (sym e) v.2 | inr b ↦ absurd b ], n.0)

-- ---- courses and the shards

first_on : (shards s : ℕ) (command : Command) (m : Bytes × Mode) → Has (keys_of command) m →
    shard_of m.0 shards ≡ s → keys_on shards s command ≢ []
first_on shards s command m h e = λ i.
    false≢true (sym (ap (λ l. among l m.0) i) ∙ mode_there shards s (command ∷ []) m.0 m.1 (keys_of_all-has (command ∷ []) command m (inl refl) h) e)

alone_keys : (shards s : ℕ) (ms : List (Bytes × Mode)) → course_of_keys shards ms ≡ Alone s → (m : Bytes × Mode) × Has ms m
alone_keys shards s [] e = cc
alone_keys shards s (x ∷ ms) e = (x, inl refl)

whole_hop : (shards : ℕ) (op : WholeOp) → has_hop (course_of_whole shards op) ≡ true
whole_hop shards wholes.Dbsize = refl
whole_hop shards (wholes.Keys pattern) = refl
whole_hop shards wholes.Flushall = cond_both (shards == 1) (Alone 0) Clears (λ c. has_hop c ≡ true) (λ _. refl) (λ _. refl)
whole_hop shards wholes.Flushdb = cond_both (shards == 1) (Alone 0) Clears (λ c. has_hop c ≡ true) (λ _. refl) (λ _. refl)
whole_hop shards wholes.Save = refl

whole_quick : (shards : ℕ) (op : WholeOp) → is_quick shards (course_of_whole shards op) ≡ true → shards ≡ 1
whole_quick shards wholes.Dbsize e = eqb-true shards 1 e
whole_quick shards (wholes.Keys pattern) e = eqb-true shards 1 e
whole_quick shards wholes.Flushall e = go (shards == 1) refl e
  where
    go : (b : Bool) → (shards == 1) ≡ b → is_quick shards (cond b (Alone 0) Clears) ≡ true → shards ≡ 1
    go true i j = eqb-true shards 1 i
    go false i j = absurd (false≢true j)
whole_quick shards wholes.Flushdb e = go (shards == 1) refl e
  where
    go : (b : Bool) → (shards == 1) ≡ b → is_quick shards (cond b (Alone 0) Clears) ≡ true → shards ≡ 1
    go true i j = eqb-true shards 1 i
    go false i j = absurd (false≢true j)
whole_quick shards wholes.Save e = eqb-true shards 1 e

-- where a command has its one hop it stands
pub on_alone : (shards s : ℕ) (command : Command) → course_of shards command ≡ Alone s → On shards s command
on_alone shards s command e = elim (by_kind shards command) [
  | inl k ↦ let m = alone_keys shards s (keys_of command) (sym k.0 ∙ e) in inr (m.0, m.1, alone_each shards s (keys_of command) (sym k.0 ∙ e) m.0 m.1)
  | inr w ↦ inl (ap (λ c. is_some (whole_mode c)) w.1)
]

-- a command with a hop stands somewhere
pub hop_on : (shards : ℕ) (command : Command) → 0 < shards → has_hop (course_of shards command) ≡ true →
    (s : ℕ) × (s < shards) × On shards s command
hop_on shards command pos e = elim (by_kind shards command) [
  | inl k ↦ keyed (keys_of command) refl (sym (ap has_hop k.0) ∙ e)
  | inr w ↦ (0, pos, inl (ap (λ c. is_some (whole_mode c)) w.1))
]
  where
    keyed : (ms : List (Bytes × Mode)) → keys_of command ≡ ms → has_hop (course_of_keys shards ms) ≡ true →
        (s : ℕ) × (s < shards) × On shards s command
    keyed [] i h = absurd (false≢true h)
    keyed (m ∷ ms) i h = (shard_of m.0 shards, within, inr (m, subst (λ l. Has l m) (sym i) (inl refl), refl))
      where
        within : shard_of m.0 shards < shards
        within = omega (arith, pos)

keys_hop : (shards : ℕ) (ms : List (Bytes × Mode)) (m : Bytes × Mode) → Has ms m → has_hop (course_of_keys shards ms) ≡ true
keys_hop shards [] m h = absurd h
keys_hop shards (x ∷ ms) m h =
    cond_both (all_on shards (shard_of x.0 shards) ms) (Alone (shard_of x.0 shards)) Spread (λ c. has_hop c ≡ true) (λ _. refl) (λ _. refl)

-- a command that stands somewhere has a hop
pub on_hop : (shards s : ℕ) (command : Command) → On shards s command → has_hop (course_of shards command) ≡ true
on_hop shards s command on = elim (by_kind shards command) [
  | inl k ↦ elim on [
    | inl whole ↦ absurd (false≢true (sym (ap is_some k.1) ∙ whole))
    | inr there ↦ ap has_hop k.0 ∙ keys_hop shards (keys_of command) there.0 there.1
  ]
  | inr w ↦ ap (λ c. has_hop (course_of shards c)) w.1 ∙ whole_hop shards w.0
]

quick_alone : (shards : ℕ) (ms : List (Bytes × Mode)) → is_quick shards (course_of_keys shards ms) ≡ true →
    (s : ℕ) × (course_of_keys shards ms ≡ Alone s)
quick_alone shards [] e = absurd (false≢true e)
quick_alone shards (x ∷ ms) e = go (all_on shards (shard_of x.0 shards) ms) e
  where
    go : (b : Bool) → is_quick shards (cond b (Alone (shard_of x.0 shards)) Spread) ≡ true →
        (s : ℕ) × (cond b (Alone (shard_of x.0 shards)) Spread ≡ Alone s)
    go true i = (shard_of x.0 shards, refl)
    go false i = absurd (false≢true i)

-- a quick command stands on one shard
pub quick_on : (shards s t : ℕ) (command : Command) → is_quick shards (course_of shards command) ≡ true → s < shards →
    t < shards → On shards s command → On shards t command → t ≡ s
quick_on shards s t command q ls lt on others = elim (by_kind shards command) [
  | inl k ↦ elim on [
    | inl whole ↦ absurd (false≢true (sym (ap is_some k.1) ∙ whole))
    | inr here ↦ elim others [
      | inl whole ↦ absurd (false≢true (sym (ap is_some k.1) ∙ whole))
      | inr there ↦ (
          let a = quick_alone shards (keys_of command) (sym (ap (is_quick shards) k.0) ∙ q) in
          sym there.2
          ∙ alone_each shards a.0 (keys_of command) a.1 there.0 there.1
          ∙ sym (alone_each shards a.0 (keys_of command) a.1 here.0 here.1)
          ∙ here.2)
    ]
  ]
  | inr w ↦ (let one = whole_quick shards w.0 (sym (ap (λ c. is_quick shards (course_of shards c)) w.1) ∙ q) in omega (arith, one, ls, lt))
]

-- a command of every key stands on each shard
pub whole_on : (shards : ℕ) (command : Command) → is_whole (course_of shards command) ≡ true →
    is_some (whole_mode command) ≡ true
whole_on shards command e = ap (λ c. is_some (whole_mode c)) (whole_of shards command e).1

-- a spread command names a key somewhere
pub spread_keys : (shards : ℕ) (command : Command) → course_of shards command ≡ Spread → (s : ℕ) × (keys_on shards s command ≢ [])
spread_keys shards command e = elim (by_kind shards command) [
  | inl k ↦ keyed (keys_of command) refl (sym k.0 ∙ e)
  | inr w ↦ (let a = spread_access shards command e in absurd (none-some a.0 (sym (ap access_of w.1) ∙ a.1)))
]
  where
    keyed : (ms : List (Bytes × Mode)) → keys_of command ≡ ms → course_of_keys shards ms ≡ Spread →
        (s : ℕ) × (keys_on shards s command ≢ [])
    keyed [] i h = absurd (false≢true (ap has_hop h))
    keyed (m ∷ ms) i h = (shard_of m.0 shards, first_on shards (shard_of m.0 shards) command m (subst (λ l. Has l m) (sym i) (inl refl)) refl)
