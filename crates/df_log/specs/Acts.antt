-- What a callback does on a shard, and what it answers.
use Rattle.std.specs.Prelude.{ℕ, List, Option}
use Rattle.df_model.specs.Values.{Bytes, Value}
use Rattle.df_model.specs.Keyspace.{Keyspace}
use Rattle.df_model.specs.declared.command.Command.{Command}
use Rattle.df_model.specs.declared.reply.Reply.{Reply}

-- what some keys are to hold from now on: a value, or nothing; no key stands here twice
abbrev pub Changes : Type 0
Changes = List (Bytes × Option Value)

-- the part of a hop that one shard does; the last three are notes, which do nothing to its keys
pub data Act : Type 0 where
  -- a command whose keys all stand on the shard
  Run : Command → Act
  -- copies of what these keys hold
  Read : List Bytes → Act
  -- changes that nobody sees yet
  Stage : Changes → Act
  -- what is staged is seen from now on
  Apply : Act
  -- what is staged is forgotten
  Unstage : Act
  -- a cut of the shard's keys begins
  Begin : Act
  -- the names of all keys
  Walk : Act
  -- how many keys there are
  Count : Act
  -- no key is left
  Clear : Act
  -- a call that might have run at once was refused
  Passed : Act
  -- bytes of a cut were handed out
  Pull : Act
  -- a save ended
  Saved : Act

pub data Told : Type 0 where
  Ran : Reply → Told
  -- what each of the keys that were read holds, in their order
  Values : List (Option Value) → Told
  Staged : Told
  Applied : Told
  -- in byte order
  Names : List Bytes → Told
  Number : ℕ → Told
  -- the keys of the shard with their values where the cut begins, for contracts alone
  Cut : Keyspace → Told
  -- there was no memory, and nothing changed
  NoMemory : Told
  -- of notes: the limit below which numbers are refused; the bytes; the reply of the save
  Refused : ℕ → Told
  Handed : Bytes → Told
  Replied : Reply → Told
