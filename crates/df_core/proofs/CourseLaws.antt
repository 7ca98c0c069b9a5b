-- Which keys a command names, by its course.
use Rattle.std.proofs.Common.{◌≡◌, ◌≢◌, ◌⊎◌, ℕ, ◌<◌, Bool, true, false, cond, List, [], ◌∷◌, inl, inr, refl, sym, ap, ◌∙◌, subst, arith}
use Rattle.std.specs.Prelude.{Some, None, ◌==◌}
use Rattle.std.proofs.lemmas.Bool.{false≢true, and_parts, eqb-true, false_from_ne_true, cases_cond, cond_both}
use Rattle.std.proofs.lemmas.Option.{none-some}
use Rattle.std.proofs.lemmas.Nat.{mod_below}
use Rattle.df_model.specs.Values.{Bytes}
use Rattle.df_model.specs.Hash.{shard_of, fnv64}
use Rattle.df_model.specs.Keyspace.{Keyspace, no_keys}
use Rattle.df_model.specs.Access.{Access, names, among, does, on_key}
use Rattle.df_model.specs.Outcomes.{ok}
use Rattle.df_model.specs.Meaning.{meaning, one, many}
use Rattle.df_model.specs.Calls.{Runs, Does}
use Rattle.df_model.specs.declared.command.WholeOp.{WholeOp}
use Rattle.df_model.specs.declared.command.WholeOp.TheVariants as wholes
use Rattle.df_model.specs.declared.command.Command.{Command}
use Rattle.df_model.specs.declared.command.Command.TheVariants.{Plain, One, Many, Whole, Wrong}
use Rattle.df_model.specs.declared.reply.Reply.{Reply}
use Rattle.df_model.specs.declared.keys.Mode.{Mode}
use Rattle.df_model.specs.declared.keys.Mode.TheVariants.{Exclusive}
use Rattle.df_model.proofs.LocalityLaws.{same_reply, others, within}
use Rattle.df_model.proofs.WholeLaws.{same_map_by}
use Rattle.df_footprints.specs.Footprints.{access_of, named, keys_of, whole_mode}
use Rattle.df_footprints.proofs.ModesLaws.{named_in_mode}
use Rattle.df_order.specs.Lists.{Has}
use Rattle.df_core.specs.Courses.{Course, Nowhere, Alone, Spread, Counts, Cuts, Clears, all_on, course_of_keys, course_of_whole, course_of}
use Rattle.df_core.specs.Courses as courses

-- ---- courses

-- each key stands on a shard that there is
pub below_shards : (key : Bytes) (shards : ℕ) → 0 < shards → shard_of key shards < shards
below_shards key shards pos = mod_below (fnv64 key) shards pos

-- a command runs where its keys stand, or it is of every key
pub by_kind : (shards : ℕ) (command : Command) →
    ((course_of shards command ≡ course_of_keys shards (keys_of command)) × (whole_mode command ≡ None)) ⊎ ((op : WholeOp) × (command ≡ Whole op))
by_kind shards (Plain op) = inl (refl, refl)
by_kind shards (One key op) = inl (refl, refl)
by_kind shards (Many op) = inl (refl, refl)
by_kind shards (Whole op) = inr (op, refl)
by_kind shards (Wrong error) = inl (refl, refl)

-- FLUSHALL has one hop, or it clears every shard
flush_cases : (shards : ℕ) (c : Course) → cond (shards == 1) (Alone 0) Clears ≡ c → (c ≡ Alone 0) ⊎ (c ≡ Clears)
flush_cases shards c e = cases_cond (shards == 1) (Alone 0) Clears c (sym e)

-- a command with keys on several shards names keys
pub spread_access : (shards : ℕ) (command : Command) → course_of shards command ≡ Spread →
    (a : Access) × (access_of command ≡ Some a)
spread_access shards (Plain op) e = cc
spread_access shards (One key op) e = (on_key key (one op), refl)
spread_access shards (Many op) e = (many op, refl)
spread_access shards (Whole wholes.Dbsize) e = cc
spread_access shards (Whole (wholes.Keys pattern)) e = cc
spread_access shards (Whole wholes.Flushall) e = elim (flush_cases shards Spread e) [ inl i ↦ cc | inr i ↦ cc ]
spread_access shards (Whole wholes.Flushdb) e = elim (flush_cases shards Spread e) [ inl i ↦ cc | inr i ↦ cc ]
spread_access shards (Whole wholes.Save) e = cc
spread_access shards (Wrong error) e = cc

-- ---- a command of every key

-- with a hop on each shard
abbrev pub is_whole : Course → Bool
is_whole Nowhere = false
is_whole (Alone s) = false
is_whole Spread = false
is_whole courses.Names = true
is_whole Counts = true
is_whole Cuts = true
is_whole Clears = true

keys_not_whole : (shards : ℕ) (ms : List (Bytes × Mode)) → is_whole (course_of_keys shards ms) ≡ false
keys_not_whole shards [] = refl
keys_not_whole shards (m ∷ ms) =
    cond_both (all_on shards (shard_of m.0 shards) ms) (Alone (shard_of m.0 shards)) Spread (λ c. is_whole c ≡ false) (λ _. refl) (λ _. refl)

-- it is one of those that name no keys
pub whole_of : (shards : ℕ) (command : Command) → is_whole (course_of shards command) ≡ true →
    (op : WholeOp) × (command ≡ Whole op)
whole_of shards command e = elim (by_kind shards command) [
  | inl k ↦ absurd (false≢true (sym (keys_not_whole shards (keys_of command)) ∙ sym (ap is_whole k.0) ∙ e))
  | inr w ↦ w
]

-- KEYS, DBSIZE and SAVE alone have their courses
pub names_whole : (shards : ℕ) (command : Command) → course_of shards command ≡ courses.Names →
    (pattern : Bytes) × (command ≡ Whole (wholes.Keys pattern))
names_whole shards command e =
    let w = whole_of shards command (ap is_whole e) in
    go w.0 w.1 (sym (ap (course_of shards) w.1) ∙ e)
  where
    go : (op : WholeOp) → command ≡ Whole op → course_of_whole shards op ≡ courses.Names →
        (pattern : Bytes) × (command ≡ Whole (wholes.Keys pattern))
    go wholes.Dbsize i j = cc
    go (wholes.Keys pattern) i j = (pattern, i)
    go wholes.Flushall i j = elim (flush_cases shards courses.Names j) [ inl k ↦ cc | inr k ↦ cc ]
    go wholes.Flushdb i j = elim (flush_cases shards courses.Names j) [ inl k ↦ cc | inr k ↦ cc ]
    go wholes.Save i j = cc

pub counts_whole : (shards : ℕ) (command : Command) → course_of shards command ≡ Counts → command ≡ Whole wholes.Dbsize
counts_whole shards command e =
    let w = whole_of shards command (ap is_whole e) in
    w.1 ∙ ap Whole (go w.0 (sym (ap (course_of shards) w.1) ∙ e))
  where
    go : (op : WholeOp) → course_of_whole shards op ≡ Counts → op ≡ wholes.Dbsize
    go wholes.Dbsize j = refl
    go (wholes.Keys pattern) j = cc
    go wholes.Flushall j = elim (flush_cases shards Counts j) [ inl k ↦ cc | inr k ↦ cc ]
    go wholes.Flushdb j = elim (flush_cases shards Counts j) [ inl k ↦ cc | inr k ↦ cc ]
    go wholes.Save j = cc

pub cuts_whole : (shards : ℕ) (command : Command) → course_of shards command ≡ Cuts → command ≡ Whole wholes.Save
cuts_whole shards command e =
    let w = whole_of shards command (ap is_whole e) in
    w.1 ∙ ap Whole (go w.0 (sym (ap (course_of shards) w.1) ∙ e))
  where
    go : (op : WholeOp) → course_of_whole shards op ≡ Cuts → op ≡ wholes.Save
    go wholes.Dbsize j = cc
    go (wholes.Keys pattern) j = cc
    go wholes.Flushall j = elim (flush_cases shards Cuts j) [ inl k ↦ cc | inr k ↦ cc ]
    go wholes.Flushdb j = elim (flush_cases shards Cuts j) [ inl k ↦ cc | inr k ↦ cc ]
    go wholes.Save j = refl

-- FLUSHALL and FLUSHDB
pub data Flushes : Command → Type 0 where
  flushall : Flushes (Whole wholes.Flushall)
  flushdb : Flushes (Whole wholes.Flushdb)

-- they leave nothing
pub flush_means : (command : Command) → Flushes command → (K : Keyspace) → meaning command K ≡ (ok, no_keys)
flush_means command Flushes.flushall K = refl
flush_means command Flushes.flushdb K = refl

-- and ask for all keys, to write them
pub flush_writes : (command : Command) → Flushes command → whole_mode command ≡ Some Exclusive
flush_writes command Flushes.flushall = refl
flush_writes command Flushes.flushdb = refl

-- they alone clear
pub flushes : (shards : ℕ) (command : Command) → course_of shards command ≡ Clears → Flushes command
flushes shards command e =
    let w = whole_of shards command (ap is_whole e) in
    subst Flushes (sym w.1) (go w.0 (sym (ap (course_of shards) w.1) ∙ e))
  where
    go : (op : WholeOp) → course_of_whole shards op ≡ Clears → Flushes (Whole op)
    go wholes.Dbsize j = cc
    go (wholes.Keys pattern) j = cc
    go wholes.Flushall j = Flushes.flushall
    go wholes.Flushdb j = Flushes.flushdb
    go wholes.Save j = cc

-- ---- a command with one hop

-- a command with one hop has its keys on that shard, or it takes all keys of the only shard
pub record OnOne (shards s : ℕ) (command : Command) (a : Access) : Type 0 where
  pub is : access_of command ≡ Some a
  pub on : (key : Bytes) → among (names a) key ≡ true → shard_of key shards ≡ s

pub record OfAll (shards s : ℕ) (command : Command) : Type 0 where
  pub only : shards ≡ 1
  pub first : s ≡ 0
  pub flush : Flushes command

-- all keys of a command stand on the one shard on which it runs
pub alone_each : (shards s : ℕ) (list : List (Bytes × Mode)) → course_of_keys shards list ≡ Alone s →
    (m : Bytes × Mode) → Has list m → shard_of m.0 shards ≡ s
alone_each shards s [] e m h = absurd h
alone_each shards s (first ∷ list) e m h = go (all_on shards (shard_of first.0 shards) list) refl e
  where
    each : (t : ℕ) (ms : List (Bytes × Mode)) → all_on shards t ms ≡ true → Has ms m → shard_of m.0 shards ≡ t
    each t [] e h = absurd h
    each t (n ∷ ms) e h =
        let both = and_parts (shard_of n.0 shards == t) (all_on shards t ms) e in
        elim h [
          | inl i ↦ ap (λ p. shard_of p.0 shards) (sym i) ∙ eqb-true (shard_of n.0 shards) t both.0
          | inr k ↦ each t ms both.1 k
        ]

    go : (b : Bool) → all_on shards (shard_of first.0 shards) list ≡ b →
        cond b (Alone (shard_of first.0 shards)) Spread ≡ Alone s → shard_of m.0 shards ≡ s
    go true all i =
        let same : shard_of first.0 shards ≡ s = cc in
        elim h [
          | inl k ↦ ap (λ p. shard_of p.0 shards) (sym k) ∙ same
          | inr k ↦ each (shard_of first.0 shards) list all k ∙ same
        ]
    go false all i = cc

alone_below : (shards s : ℕ) (list : List (Bytes × Mode)) → 0 < shards → course_of_keys shards list ≡ Alone s → s < shards
alone_below shards s [] pos e = cc
alone_below shards s (first ∷ list) pos e =
    elim (cases_cond (all_on shards (shard_of first.0 shards) list) (Alone (shard_of first.0 shards)) Spread (Alone s) (sym e)) [
      | inl i ↦ subst (λ t. t < shards) (cc) (below_shards first.0 shards pos)
      | inr i ↦ cc
    ]

on_one : (shards s : ℕ) (command : Command) (a : Access) → access_of command ≡ Some a →
    course_of_keys shards (named (Some a)) ≡ Alone s → OnOne shards s command a
on_one shards s command a is e = record {
  is = is;
  on = λ key h. let m = named_in_mode a key h in alone_each shards s (named (Some a)) e (key, m.0) m.1;
}

of_all : (shards s : ℕ) (command : Command) → Flushes command → cond (shards == 1) (Alone 0) Clears ≡ Alone s →
    OfAll shards s command
of_all shards s command flush e = go (shards == 1) refl e
  where
    go : (b : Bool) → (shards == 1) ≡ b → cond b (Alone 0) Clears ≡ Alone s → OfAll shards s command
    go true one i = record { only = eqb-true shards 1 one; first = cc; flush = flush }
    go false one i = cc

-- there is no third way
pub alone_either : (shards s : ℕ) (command : Command) → course_of shards command ≡ Alone s →
    ((a : Access) × OnOne shards s command a) ⊎ OfAll shards s command
alone_either shards s (Plain op) e = cc
alone_either shards s (One key op) e = inl (on_key key (one op), on_one shards s (One key op) (on_key key (one op)) refl e)
alone_either shards s (Many op) e = inl (many op, on_one shards s (Many op) (many op) refl e)
alone_either shards s (Whole wholes.Dbsize) e = cc
alone_either shards s (Whole (wholes.Keys pattern)) e = cc
alone_either shards s (Whole wholes.Flushall) e = inr (of_all shards s (Whole wholes.Flushall) Flushes.flushall e)
alone_either shards s (Whole wholes.Flushdb) e = inr (of_all shards s (Whole wholes.Flushdb) Flushes.flushdb e)
alone_either shards s (Whole wholes.Save) e = cc
alone_either shards s (Wrong error) e = cc

-- and that is a shard
pub alone_within : (shards s : ℕ) (command : Command) → 0 < shards → course_of shards command ≡ Alone s → s < shards
alone_within shards s command pos e = elim (by_kind shards command) [
  | inl k ↦ alone_below shards s (keys_of command) pos (sym k.0 ∙ e)
  | inr w ↦ elim (alone_either shards s command e) [
    | inl one ↦ absurd (none-some one.0 (sym (ap access_of w.1) ∙ one.1.is))
    | inr all ↦ omega (arith, all.only, all.first)
  ]
]

-- ---- a command that names no key

-- a key that isn't named isn't written
pub unwritten : (a : Access) (key : Bytes) → among (names a) key ≡ false → among a.writes key ≡ false
unwritten a key h = false_from_ne_true (among a.writes key) (λ e. false≢true (sym h ∙ within a key e))

keyless : (a : Access) (K : Keyspace) → ((key : Bytes) → among (names a) key ≡ true → ⊥) → does a K ≡ ((does a no_keys).0, K)
keyless a K none = λ i. (same_reply a K no_keys (λ key h. absurd (none key h)) i, left i)
  where
    left : (does a K).1 ≡ K
    left = same_map_by (does a K).1 K (λ key. others a K key (unwritten a key (false_from_ne_true (among (names a) key) (none key))))

none_named : (shards : ℕ) (list : List (Bytes × Mode)) → course_of_keys shards list ≡ Nowhere → (m : Bytes × Mode) →
    Has list m → ⊥
none_named shards [] e m h = h
none_named shards (first ∷ list) e m h =
    elim (cases_cond (all_on shards (shard_of first.0 shards) list) (Alone (shard_of first.0 shards)) Spread Nowhere (sym e)) [
      | inl i ↦ cc
      | inr i ↦ cc
    ]

-- its reply is the same on any keyspace, and it leaves it
pub nowhere_means : (shards : ℕ) (command : Command) → course_of shards command ≡ Nowhere → (K : Keyspace) →
    meaning command K ≡ ((meaning command no_keys).0, K)
nowhere_means shards (Plain op) e K = refl
nowhere_means shards (One key op) e K =
    keyless (on_key key (one op)) K
    (λ q h. let m = named_in_mode (on_key key (one op)) q h in none_named shards (named (Some (on_key key (one op)))) e (q, m.0) m.1)
nowhere_means shards (Many op) e K =
    keyless (many op) K (λ q h. let m = named_in_mode (many op) q h in none_named shards (named (Some (many op))) e (q, m.0) m.1)
nowhere_means shards (Whole wholes.Dbsize) e K = cc
nowhere_means shards (Whole (wholes.Keys pattern)) e K = cc
nowhere_means shards (Whole wholes.Flushall) e K = elim (flush_cases shards Nowhere e) [ inl i ↦ cc | inr i ↦ cc ]
nowhere_means shards (Whole wholes.Flushdb) e K = elim (flush_cases shards Nowhere e) [ inl i ↦ cc | inr i ↦ cc ]
nowhere_means shards (Whole wholes.Save) e K = cc
nowhere_means shards (Wrong error) e K = refl

-- ---- what commands do

-- what is not a save does as commands do that run
pub runs_does : (shards : ℕ) (command : Command) (kept : Bool) (K : Keyspace) (reply : Reply) (after : Keyspace) →
    course_of shards command ≢ Cuts → Runs kept (meaning command K) K reply after → Does command kept K reply after
runs_does shards (Plain op) kept K reply after ne runs = runs
runs_does shards (One key op) kept K reply after ne runs = runs
runs_does shards (Many op) kept K reply after ne runs = runs
runs_does shards (Whole wholes.Dbsize) kept K reply after ne runs = runs
runs_does shards (Whole (wholes.Keys pattern)) kept K reply after ne runs = runs
runs_does shards (Whole wholes.Flushall) kept K reply after ne runs = runs
runs_does shards (Whole wholes.Flushdb) kept K reply after ne runs = runs
runs_does shards (Whole wholes.Save) kept K reply after ne runs = absurd (ne refl)
runs_does shards (Wrong error) kept K reply after ne runs = runs
