-- Calls, and the outcomes that a call may have: each command is kept, or was answered and changed nothing.
use Rattle.std.specs.Prelude.{◌≡◌, ◌⊎◌, ◌≤◌, List, [], ◌∷◌, length, Option, Some, None, Bool, true, false}
use Rattle.std.specs.List.{AllByRecursion}
use Rattle.df_model.specs.Values.{Bytes}
use Rattle.df_model.specs.Words.{Words}
use Rattle.df_model.specs.Keyspace.{Keyspace}
use Rattle.df_model.specs.Outcomes.{ok}
use Rattle.df_model.specs.Access.{Meaning}
use Rattle.df_model.specs.Meaning.{meaning}
use Rattle.df_model.specs.Framing.{IsWord}
use Rattle.df_model.specs.Reads.{saves}
use Rattle.df_model.specs.Session.{MAX_QUEUED}
use Rattle.df_model.specs.Spared.{all_of}
use Rattle.df_model.specs.declared.command.PlainOp.{PlainOp}
use Rattle.df_model.specs.declared.command.PlainOp.TheVariants as plains
use Rattle.df_model.specs.declared.command.OneOp.{OneOp}
use Rattle.df_model.specs.declared.command.OneOp.TheVariants as ones
use Rattle.df_model.specs.declared.command.ManyOp.{ManyOp}
use Rattle.df_model.specs.declared.command.ManyOp.TheVariants as manies
use Rattle.df_model.specs.declared.command.WholeOp.{WholeOp}
use Rattle.df_model.specs.declared.command.WholeOp.TheVariants as wholes
use Rattle.df_model.specs.declared.command.Command.{Command}
use Rattle.df_model.specs.declared.command.Command.TheVariants.{Plain, One, Many, Whole, Wrong}
use Rattle.df_model.specs.declared.command.Call.{Call}
use Rattle.df_model.specs.declared.command.Call.TheVariants.{Single, Exec}
use Rattle.df_model.specs.declared.reply.ErrorText.TheVariants as errors
use Rattle.df_model.specs.declared.reply.Reply.{Reply}
use Rattle.df_model.specs.declared.reply.Reply.TheVariants.{Error, Array}

-- ---- calls

abbrev pub message_words : Option Bytes → Words
message_words None = []
message_words (Some message) = message ∷ []

abbrev pub both_of : List (Bytes × Bytes) → Words
both_of [] = []
both_of (pair ∷ pairs) = pair.0 ∷ pair.1 ∷ both_of pairs

-- the byte strings in an op
abbrev pub plain_words : PlainOp → Words
plain_words (plains.Ping a) = message_words a
plain_words (plains.Echo a) = a ∷ []
plain_words (plains.Select a) = []

abbrev pub one_words : OneOp → Words
one_words ones.KindOf = []
one_words ones.Get = []
one_words (ones.Set a b) = a ∷ []
one_words (ones.Setnx a) = a ∷ []
one_words (ones.Getset a) = a ∷ []
one_words ones.Getdel = []
one_words (ones.Append a) = a ∷ []
one_words ones.Strlen = []
one_words (ones.Getrange a b) = []
one_words (ones.Setrange a b) = b ∷ []
one_words ones.Incr = []
one_words ones.Decr = []
one_words (ones.Incrby a) = []
one_words (ones.Decrby a) = []
one_words (ones.Lpush a) = a.items
one_words (ones.Rpush a) = a.items
one_words (ones.Lpushx a) = a.items
one_words (ones.Rpushx a) = a.items
one_words (ones.Lpop a) = []
one_words (ones.Rpop a) = []
one_words ones.Llen = []
one_words (ones.Lrange a b) = []
one_words (ones.Lindex a) = []
one_words (ones.Lset a b) = b ∷ []
one_words (ones.Linsert a b c) = b ∷ c ∷ []
one_words (ones.Lrem a b) = b ∷ []
one_words (ones.Ltrim a b) = []
one_words (ones.Hset a) = both_of a.items
one_words (ones.Hmset a) = both_of a.items
one_words (ones.Hsetnx a b) = a ∷ b ∷ []
one_words (ones.Hget a) = a ∷ []
one_words (ones.Hmget a) = a.items
one_words (ones.Hdel a) = a.items
one_words ones.Hlen = []
one_words (ones.Hexists a) = a ∷ []
one_words (ones.Hstrlen a) = a ∷ []
one_words ones.Hkeys = []
one_words ones.Hvals = []
one_words ones.Hgetall = []
one_words (ones.Hincrby a b) = a ∷ []
one_words (ones.Sadd a) = a.items
one_words (ones.Srem a) = a.items
one_words ones.Scard = []
one_words (ones.Sismember a) = a ∷ []
one_words (ones.Smismember a) = a.items
one_words ones.Smembers = []

abbrev pub many_words : ManyOp → Words
many_words (manies.Del a) = a.items
many_words (manies.Unlink a) = a.items
many_words (manies.Exists a) = a.items
many_words (manies.Mget a) = a.items
many_words (manies.Mset a) = both_of a.items
many_words (manies.Msetnx a) = both_of a.items
many_words (manies.Rename a b) = a ∷ b ∷ []
many_words (manies.Renamenx a b) = a ∷ b ∷ []
many_words (manies.Lmove a b c d) = a ∷ b ∷ []
many_words (manies.Rpoplpush a b) = a ∷ b ∷ []
many_words (manies.Smove a b c) = a ∷ b ∷ c ∷ []
many_words (manies.Sinter a) = a.items
many_words (manies.Sunion a) = a.items
many_words (manies.Sdiff a) = a.items
many_words (manies.Sinterstore a b) = a ∷ b.items
many_words (manies.Sunionstore a b) = a ∷ b.items
many_words (manies.Sdiffstore a b) = a ∷ b.items

abbrev pub whole_words : WholeOp → Words
whole_words wholes.Dbsize = []
whole_words (wholes.Keys a) = a ∷ []
whole_words wholes.Flushall = []
whole_words wholes.Flushdb = []
whole_words wholes.Save = []

-- the byte strings in a command
abbrev pub command_words : Command → Words
command_words (Plain op) = plain_words op
command_words (One key op) = key ∷ one_words op
command_words (Many op) = many_words op
command_words (Whole op) = whole_words op
command_words (Wrong error) = []

-- no word in the command is longer than a request's may be
abbrev pub HasWords : Command → Type 0
HasWords command = AllByRecursion IsWord (command_words command)

-- a command that a transaction may queue
abbrev pub MayQueue : Command → Type 0
MayQueue command = HasWords command × (saves command ≡ false)

-- what may be called; a transaction saves nothing, and has no more commands than may be queued
abbrev pub IsCall : Call → Type 0
IsCall (Single command) = HasWords command
IsCall (Exec commands) = (length commands.items ≤ MAX_QUEUED) × AllByRecursion MayQueue commands.items

-- ---- outcomes

-- a save leaves the keyspace, whatever it is answered
abbrev pub Saves : Keyspace → Reply → Keyspace → Type 0
Saves K reply after = (after ≡ K) × ((reply ≡ ok) ⊎ (reply ≡ Error errors.SaveFailed) ⊎ (reply ≡ Error errors.Memory))

-- Any other command: kept, it does what it means; else it changed nothing, and was answered want of memory, or
-- its meaning changes nothing.
abbrev pub Runs : Bool → Meaning → Keyspace → Reply → Keyspace → Type 0
Runs true meant K reply after = meant ≡ (reply, after)
Runs false meant K reply after = (after ≡ K) × ((reply ≡ Error errors.Memory) ⊎ (meant ≡ (reply, K)))

-- one command, from a keyspace to a reply and the next keyspace
abbrev pub Does : Command → Bool → Keyspace → Reply → Keyspace → Type 0
Does (Plain op) kept K reply after = Runs kept (meaning (Plain op) K) K reply after
Does (One key op) kept K reply after = Runs kept (meaning (One key op) K) K reply after
Does (Many op) kept K reply after = Runs kept (meaning (Many op) K) K reply after
Does (Whole wholes.Save) kept K reply after = Saves K reply after
Does (Whole wholes.Dbsize) kept K reply after = Runs kept (meaning (Whole wholes.Dbsize) K) K reply after
Does (Whole (wholes.Keys pattern)) kept K reply after = Runs kept (meaning (Whole (wholes.Keys pattern)) K) K reply after
Does (Whole wholes.Flushall) kept K reply after = Runs kept (meaning (Whole wholes.Flushall) K) K reply after
Does (Whole wholes.Flushdb) kept K reply after = Runs kept (meaning (Whole wholes.Flushdb) K) K reply after
Does (Wrong error) kept K reply after = Runs kept (meaning (Wrong error) K) K reply after

-- commands in turn, each from the keyspace that the one before left
abbrev pub DoesAll : List Command → List Bool → Keyspace → List Reply → Keyspace → Type 0
DoesAll [] [] K [] after = after ≡ K
DoesAll (command ∷ commands) (kept ∷ marks) K (reply ∷ replies) after =
    (middle : Keyspace) × Does command kept K reply middle × DoesAll commands marks middle replies after
DoesAll [] (kept ∷ marks) K replies after = ⊥
DoesAll [] [] K (reply ∷ replies) after = ⊥
DoesAll (command ∷ commands) [] K replies after = ⊥
DoesAll (command ∷ commands) (kept ∷ marks) K [] after = ⊥

-- an outcome of a call: a mark for each command says whether it is kept
abbrev pub Allowed : Call → List Bool → Keyspace → Reply → Keyspace → Type 0
Allowed (Single command) marks K reply after = DoesAll (command ∷ []) marks K (reply ∷ []) after
Allowed (Exec commands) marks K reply after =
    (replies : List Reply) × (reply ≡ Array (all_of replies)) × DoesAll commands.items marks K replies after
