-- Keys that a command may write, with what they held, and which of them hold something else now.
use Rattle.std.specs.Prelude.{◌≡◌, Bool, true, false, ◌||◌, cond, List, [], ◌∷◌, map}
use Rattle.df_model.specs.Values.{Bytes}
use Rattle.df_model.specs.Keyspace.{Keyspace, held}
use Rattle.df_model.specs.Access.{among}
use Rattle.df_model.specs.declared.keys.Mode.{Mode}
use Rattle.df_footprints.specs.Asks.{is_exclusive}
use Rattle.df_log.specs.Acts.{Changes}
use Rattle.df_core.specs.Altered.{same_held}

-- the keys that may be written
abbrev pub to_write : List (Bytes × Mode) → List Bytes
to_write [] = []
to_write (m ∷ modes) = cond (is_exclusive m.1) (m.0 ∷ to_write modes) (to_write modes)

-- keys with what they hold
abbrev pub held_by : Keyspace → List Bytes → Changes
held_by K keys = map (λ key. (key, held K key)) keys

-- of keys with what they held, those that hold something else, with what they hold
abbrev pub changed : Keyspace → Changes → Changes
changed K [] = []
changed K (c ∷ changes) = cond (same_held c.1 (held K c.0)) (changed K changes) ((c.0, held K c.0) ∷ changed K changes)

-- keys without what they held
abbrev pub keys_of_changes : Changes → List Bytes
keys_of_changes changes = map (λ c. c.0) changes

-- no key stands twice
abbrev pub IsEachOnce : List Bytes → Type 0
IsEachOnce [] = Unit {0}
IsEachOnce (key ∷ keys) = (among keys key ≡ false) × IsEachOnce keys

abbrev pub among_all : List Changes → Bytes → Bool
among_all [] key = false
among_all (changes ∷ more) key = among (keys_of_changes changes) key || among_all more key

-- no key stands twice on a shard, or on two shards
abbrev pub AreApart : List Changes → Type 0
AreApart [] = Unit {0}
AreApart (changes ∷ more) =
    IsEachOnce (keys_of_changes changes)
    × ((key : Bytes) → among (keys_of_changes changes) key ≡ true → among_all more key ≡ false)
    × AreApart more
