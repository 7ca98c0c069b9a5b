-- On which shards a command runs, and in which hops.
use Rattle.std.specs.Prelude.{ℕ, ◌==◌, Bool, true, false, ◌&&◌, cond, List, [], ◌∷◌}
use Rattle.std.specs.FinMap as fin
use Rattle.df_model.specs.Values.{Bytes}
use Rattle.df_model.specs.Hash.{shard_of}
use Rattle.df_model.specs.Keyspace.{Keyspace}
use Rattle.df_model.specs.Meaning.{meaning}
use Rattle.df_model.specs.declared.command.WholeOp.{WholeOp}
use Rattle.df_model.specs.declared.command.WholeOp.TheVariants as wholes
use Rattle.df_model.specs.declared.command.Command.{Command}
use Rattle.df_model.specs.declared.command.Command.TheVariants.{Plain, One, Many, Whole, Wrong}
use Rattle.df_model.specs.declared.keys.Mode.{Mode}
use Rattle.df_footprints.specs.Footprints.{keys_of, modes_on}
use Rattle.df_log.specs.Acts.{Changes}
use Rattle.df_core.specs.Altered.{altered}

pub data Course : Type 0 where
  -- no key is named: there is no hop, and the reply is the same on any keyspace
  Nowhere : Course
  -- all keys stand on one shard: one hop there does all
  Alone : ℕ → Course
  -- keys on several shards: reads, and where something changes, stages and applies
  Spread : Course
  -- one hop on each shard: the names of its keys, the count of them, the beginning of its cut
  Names : Course
  Counts : Course
  Cuts : Course
  -- every key of every shard goes: stages, and then clears
  Clears : Course

abbrev pub all_on : ℕ → ℕ → List (Bytes × Mode) → Bool
all_on shards s [] = true
all_on shards s (m ∷ more) = (shard_of m.0 shards == s) && all_on shards s more

abbrev pub course_of_keys : ℕ → List (Bytes × Mode) → Course
course_of_keys shards [] = Nowhere
course_of_keys shards (m ∷ more) = cond (all_on shards (shard_of m.0 shards) more) (Alone (shard_of m.0 shards)) Spread

abbrev pub course_of_whole : ℕ → WholeOp → Course
course_of_whole shards wholes.Dbsize = Counts
course_of_whole shards (wholes.Keys pattern) = Names
course_of_whole shards wholes.Flushall = cond (shards == 1) (Alone 0) Clears
course_of_whole shards wholes.Flushdb = cond (shards == 1) (Alone 0) Clears
course_of_whole shards wholes.Save = Cuts

abbrev pub course_of : ℕ → Command → Course
course_of shards (Plain op) = Nowhere
course_of shards (One key op) = course_of_keys shards (keys_of (One key op))
course_of shards (Many op) = course_of_keys shards (keys_of (Many op))
course_of shards (Whole op) = course_of_whole shards op
course_of shards (Wrong error) = Nowhere

-- the keys that a command names on a shard, in byte order, each once
abbrev pub keys_on : ℕ → ℕ → Command → List Bytes
keys_on shards s command = fin.keys (modes_on shards s (command ∷ []))

-- what it changes on a shard, where its keys hold this on all shards together
abbrev pub changes_on : ℕ → ℕ → Command → Keyspace → Changes
changes_on shards s command K = altered K (meaning command K).1 (keys_on shards s command)

-- the command has a hop on one shard, and no other
abbrev pub is_quick : ℕ → Course → Bool
is_quick shards Nowhere = false
is_quick shards (Alone s) = true
is_quick shards Spread = false
is_quick shards Names = shards == 1
is_quick shards Counts = shards == 1
is_quick shards Cuts = shards == 1
is_quick shards Clears = false

abbrev pub has_hop : Course → Bool
has_hop Nowhere = false
has_hop (Alone s) = true
has_hop Spread = true
has_hop Names = true
has_hop Counts = true
has_hop Cuts = true
has_hop Clears = true

-- a list of commands has one hop on one shard
abbrev pub are_quick : ℕ → List Command → Bool
are_quick shards [] = false
are_quick shards (command ∷ commands) =
    cond (has_hop (course_of shards command)) (is_quick shards (course_of shards command) && none_hops shards commands) (are_quick shards commands)
  where
    none_hops : ℕ → List Command → Bool
    none_hops shards [] = true
    none_hops shards (c ∷ cs) = cond (has_hop (course_of shards c)) false (none_hops shards cs)
