-- What a call may do on a shard, and what it may stage there.
use Rattle.std.specs.Prelude.{◌≡◌, ℕ, ◌<◌, false, List, [], Option, Some, None}
use Rattle.df_model.specs.Values.{Bytes}
use Rattle.df_model.specs.Keyspace.{Keyspace}
use Rattle.df_model.specs.declared.command.Command.{Command}
use Rattle.df_model.specs.declared.command.Call.{Call}
use Rattle.df_model.specs.declared.keys.Keys.{Keys}
use Rattle.df_footprints.specs.Asks.{Ask, asks, writes}
use Rattle.df_footprints.specs.Footprints.{commands_of, footprint_of}
use Rattle.df_order.specs.Lists.{Has}
use Rattle.df_log.specs.Acts.{Changes, Act, Run, Read, Stage, Apply, Unstage, Begin, Walk, Count, Clear}
use Rattle.df_log.specs.Changes.{change_of}
use Rattle.df_log.specs.Parts.{Part, IsTold}
use Rattle.df_log.specs.declared.entry.Entry.{Entry}
use Rattle.df_core.specs.Courses.{Alone, Spread, Counts, Cuts, Clears, course_of, keys_on, changes_on}
use Rattle.df_core.specs.Courses as courses

-- a command may do this on the shard
pub data MayDo (shards s : ℕ) (command : Command) : Act → Type 0 where
  runs : course_of shards command ≡ Alone s → MayDo shards s command (Run command)
  reads : course_of shards command ≡ Spread → MayDo shards s command (Read (keys_on shards s command))
  stages : (K : Keyspace) → course_of shards command ≡ Spread → MayDo shards s command (Stage (changes_on shards s command K))
  applies : course_of shards command ≡ Spread → MayDo shards s command Apply
  unstages : course_of shards command ≡ Spread → MayDo shards s command Unstage
  walks : course_of shards command ≡ courses.Names → MayDo shards s command Walk
  counts : course_of shards command ≡ Counts → MayDo shards s command Count
  begins : course_of shards command ≡ Cuts → MayDo shards s command Begin
  stages_none : course_of shards command ≡ Clears → MayDo shards s command (Stage [])
  clears : course_of shards command ≡ Clears → MayDo shards s command Clear
  unstages_none : course_of shards command ≡ Clears → MayDo shards s command Unstage

-- one of the call's commands may do this on the shard
pub record Belongs (shards s : ℕ) (call : Call) (act : Act) : Type 0 where
  pub within : s < shards
  pub command : Command
  pub among : Has (commands_of call) command
  pub may : MayDo shards s command act

-- the entry is the call's on this shard, and was told what it gives there
abbrev pub Tells : ℕ → ℕ → Call → Entry → Part → Type 0
Tells shards s call e x = Belongs shards s call e.act × IsTold shards s x.visible e.act e.told

abbrev pub asks_of : Option Keys → List Ask
asks_of None = []
asks_of (Some keys) = asks keys

-- what the call asks for on the shard
abbrev pub asks_on : ℕ → Call → ℕ → List Ask
asks_on shards call s = asks_of (footprint_of shards call s)

-- the changes are of keys that the asks allow to write
abbrev pub Inside : List Ask → Changes → Type 0
Inside allowed changes = (key : Bytes) → writes allowed key ≡ false → change_of changes key ≡ None

-- what a number has staged on the shard is its call's to write
abbrev pub Good : ℕ → ℕ → Call → ℕ → Part → Type 0
Good shards s call number x = Inside (asks_on shards call s) (x.staged number)
