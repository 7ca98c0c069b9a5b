-- A shard's part of the keyspace, what each act makes of it, and what it is told there.
use Rattle.std.specs.Prelude.{◌≡◌, ℕ, ◌==◌, Bool, true, false, cond, List, [], map}
use Rattle.std.specs.FinMap as fin
use Rattle.df_model.specs.Values.{Bytes}
use Rattle.df_model.specs.Keyspace.{Keyspace, held, no_keys}
use Rattle.df_model.specs.Meaning.{meaning}
use Rattle.df_model.specs.Hash.{shard_of}
use Rattle.df_model.specs.declared.command.Command.{Command}
use Rattle.df_order.specs.Puts.{put}
use Rattle.df_log.specs.Acts.{Changes, Act, Run, Read, Stage, Apply, Unstage, Begin, Walk, Count, Clear, Passed, Pull, Saved, Told, Ran, Values, Staged, Applied, Names, Number, Cut, NoMemory, Refused, Handed, Replied}
use Rattle.df_log.specs.Changes.{with_changes}
use Rattle.df_log.specs.declared.entry.Entry.{Entry}

-- what everyone sees of the shard's keys, and the changes that each call has staged there, by its number
pub record Part : Type 0 where
  pub visible : Keyspace
  pub staged : ℕ → Changes

-- the keys that stand on this shard
abbrev pub own_keys : ℕ → ℕ → Keyspace → Keyspace
own_keys shards s K = fin.retain_keys K (λ key. shard_of key shards == s)

-- ---- what an act does

-- any answer but want of memory
abbrev pub did : Told → Bool
did NoMemory = false
did (Ran reply) = true
did (Values values) = true
did Staged = true
did Applied = true
did (Names names) = true
did (Number n) = true
did (Cut pairs) = true
did (Refused limit) = true
did (Handed bytes) = true
did (Replied reply) = true

-- what is seen after an act that was done, from the changes that its call has staged and from what was seen
abbrev pub shown : Act → Changes → Keyspace → Keyspace
shown (Run command) changes K = (meaning command K).1
shown (Read keys) changes K = K
shown (Stage new) changes K = K
shown Apply changes K = with_changes changes K
shown Unstage changes K = K
shown Begin changes K = K
shown Walk changes K = K
shown Count changes K = K
shown Clear changes K = no_keys
shown Passed changes K = K
shown Pull changes K = K
shown Saved changes K = K

-- what its call has staged then
abbrev pub left_staged : Act → Changes → Changes
left_staged (Run command) changes = changes
left_staged (Read keys) changes = changes
left_staged (Stage new) changes = new
left_staged Apply changes = []
left_staged Unstage changes = []
left_staged Begin changes = changes
left_staged Walk changes = changes
left_staged Count changes = changes
left_staged Clear changes = []
left_staged Passed changes = changes
left_staged Pull changes = changes
left_staged Saved changes = changes

-- where memory was wanting an act does nothing
abbrev pub shown_after : Act → Told → Changes → Keyspace → Keyspace
shown_after act told changes K = cond (did told) (shown act changes K) K

abbrev pub staged_after : Act → Told → Changes → Changes
staged_after act told changes = cond (did told) (left_staged act changes) changes

-- the part after an act of the call with this number
abbrev pub after_act : ℕ → Act → Told → Part → Part
after_act number act told x = record {
  visible = shown_after act told (x.staged number) x.visible;
  staged = put number (staged_after act told (x.staged number)) x.staged;
}

abbrev pub effect : Entry → Part → Part
effect e x = after_act e.number e.act e.told x

-- ---- what an act is told

-- the acts that need memory; those that show, forget or begin take none
abbrev pub may_want : Act → Bool
may_want (Run command) = true
may_want (Read keys) = true
may_want (Stage new) = true
may_want Apply = false
may_want Unstage = false
may_want Begin = false
may_want Walk = true
may_want Count = true
may_want Clear = false
may_want Passed = false
may_want Pull = false
may_want Saved = false

-- the answers that an act may get on this shard, where this is seen of its keys; a note stands for no act
pub data IsTold (shards s : ℕ) (K : Keyspace) : Act → Told → Type 0 where
  ran : (command : Command) → IsTold shards s K (Run command) (Ran (meaning command K).0)
  read : (keys : List Bytes) → IsTold shards s K (Read keys) (Values (map (held K) keys))
  staged : (changes : Changes) → IsTold shards s K (Stage changes) Staged
  applied : IsTold shards s K Apply Applied
  unstaged : IsTold shards s K Unstage Applied
  began : IsTold shards s K Begin (Cut (own_keys shards s K))
  walked : IsTold shards s K Walk (Names (fin.keys (own_keys shards s K)))
  counted : IsTold shards s K Count (Number (fin.len (own_keys shards s K)))
  cleared : IsTold shards s K Clear Applied
  wanted : (act : Act) → may_want act ≡ true → IsTold shards s K act NoMemory
