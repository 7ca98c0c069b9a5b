-- What a part does, which command a hop is of, and the hash of a call's key.
use Rattle.std.specs.Prelude.{ℕ, zero, suc, ◌-◌, Option, Some, None, List, [], ◌∷◌, map}
use Rattle.std.specs.Option.{option_map}
use Rattle.df_model.specs.Values.{Bytes}
use Rattle.df_model.specs.Hash.{fnv64}
use Rattle.df_model.specs.declared.command.WholeOp.TheVariants.{Save}
use Rattle.df_model.specs.declared.command.Command.{Command}
use Rattle.df_model.specs.declared.command.Command.TheVariants.{Whole}
use Rattle.df_model.specs.declared.command.Call.{Call}
use Rattle.df_footprints.specs.Footprints.{only_key}
use Rattle.df_log.specs.Acts as acts
use Rattle.df_log.specs.Acts.{Act}
use Rattle.df_values.specs.Seen.{seen}
use Rattle.df_book.specs.Passes.{BookName}
use Rattle.df_hops.specs.declared.message.Part.{Part}
use Rattle.df_hops.specs.declared.message.Part.TheVariants.{Run, Read, Stage, Apply, Unstage, Begin, Walk, Count, Clear}

-- how many shards a book is for: it has a word for the counter, one for each shard and one for the place of saves
abbrev pub shards_in : BookName → ℕ
shards_in book = book.words - 2

-- what a part does, as it stands in a log
abbrev pub act_of : Part → Act
act_of (Run command) = acts.Run command.value
act_of (Read keys) = acts.Read keys.value.items
act_of (Stage changes) = acts.Stage (map (λ c. (c.0, option_map seen c.1)) changes.value.items)
act_of Apply = acts.Apply
act_of Unstage = acts.Unstage
act_of Begin = acts.Begin
act_of Walk = acts.Walk
act_of Count = acts.Count
act_of Clear = acts.Clear

-- command i of a call, from 0; past the last one a command that no part runs
abbrev pub command_at : List Command → ℕ → Command
command_at [] i = Whole Save
command_at (c ∷ commands) zero = c
command_at (c ∷ commands) (suc i) = command_at commands i

-- the hash of the key, or any number where there is none
abbrev pub hash_of : ℕ → Option Bytes → ℕ
hash_of any None = any
hash_of any (Some key) = fnv64 key

-- the hash of the one key that a call names, or any number where it isn't a command of one key
abbrev pub hash_for : ℕ → Call → ℕ
hash_for any call = hash_of any (only_key call)
