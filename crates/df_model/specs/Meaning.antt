-- What a command means: its reply, and the keyspace that it leaves.
pub mod Keyless
pub mod Any
pub mod Strings
pub mod Lists
pub mod Hashes
pub mod Sets
use Rattle.std.specs.Prelude.{List, [], ◌∷◌, map}
use Rattle.df_model.specs.Values.{Bytes}
use Rattle.df_model.specs.Keyspace.{Keyspace}
use Rattle.df_model.specs.Outcomes.{KeyRow, ok}
use Rattle.df_model.specs.Access.{Access, Meaning, does, on_key, looking, changing}
use Rattle.df_model.specs.Meaning.Keyless as keyless
use Rattle.df_model.specs.Meaning.Any as any
use Rattle.df_model.specs.Meaning.Strings as strings
use Rattle.df_model.specs.Meaning.Lists as lists
use Rattle.df_model.specs.Meaning.Hashes as hashes
use Rattle.df_model.specs.Meaning.Sets as sets
use Rattle.df_model.specs.declared.command.PlainOp.{PlainOp}
use Rattle.df_model.specs.declared.command.PlainOp.TheVariants as plains
use Rattle.df_model.specs.declared.command.OneOp.{OneOp}
use Rattle.df_model.specs.declared.command.OneOp.TheVariants as ones
use Rattle.df_model.specs.declared.command.ManyOp.{ManyOp}
use Rattle.df_model.specs.declared.command.ManyOp.TheVariants as manies
use Rattle.df_model.specs.declared.command.WholeOp.{WholeOp}
use Rattle.df_model.specs.declared.command.WholeOp.TheVariants as wholes
use Rattle.df_model.specs.declared.command.Command.{Command}
use Rattle.df_model.specs.declared.command.Command.TheVariants.{Plain, One, Many, Whole, Wrong}
use Rattle.df_model.specs.declared.reply.Reply.{Reply}
use Rattle.df_model.specs.declared.reply.Reply.TheVariants.{Error}

abbrev pub plain : PlainOp → Reply
plain (plains.Ping message) = keyless.ping message
plain (plains.Echo message) = keyless.echo message
plain (plains.Select n) = ok

abbrev pub one : OneOp → KeyRow
one ones.KindOf = KeyRow.Looks any.kind_of
one ones.Get = KeyRow.Looks (strings.looks strings.get)
one (ones.Set bytes guard) = KeyRow.Changes (strings.set bytes guard)
one (ones.Setnx bytes) = KeyRow.Changes (strings.setnx bytes)
one (ones.Getset bytes) = KeyRow.Changes (strings.changes (strings.getset bytes))
one ones.Getdel = KeyRow.Changes (strings.changes strings.getdel)
one (ones.Append bytes) = KeyRow.Changes (strings.changes (strings.append bytes))
one ones.Strlen = KeyRow.Looks (strings.looks strings.strlen)
one (ones.Getrange from to) = KeyRow.Looks (strings.looks (strings.getrange from to))
one (ones.Setrange at bytes) = KeyRow.Changes (strings.changes (strings.setrange at bytes))
one ones.Incr = KeyRow.Changes (strings.changes strings.incr)
one ones.Decr = KeyRow.Changes (strings.changes strings.decr)
one (ones.Incrby n) = KeyRow.Changes (strings.changes (strings.incrby n))
one (ones.Decrby n) = KeyRow.Changes (strings.changes (strings.decrby n))
one (ones.Lpush words) = KeyRow.Changes (lists.changes (lists.lpush words.items))
one (ones.Rpush words) = KeyRow.Changes (lists.changes (lists.rpush words.items))
one (ones.Lpushx words) = KeyRow.Changes (lists.changes (lists.lpushx words.items))
one (ones.Rpushx words) = KeyRow.Changes (lists.changes (lists.rpushx words.items))
one (ones.Lpop n) = KeyRow.Changes (lists.changes (lists.lpop n))
one (ones.Rpop n) = KeyRow.Changes (lists.changes (lists.rpop n))
one ones.Llen = KeyRow.Looks (lists.looks lists.llen)
one (ones.Lrange from to) = KeyRow.Looks (lists.looks (lists.lrange from to))
one (ones.Lindex i) = KeyRow.Looks (lists.looks (lists.lindex i))
one (ones.Lset i bytes) = KeyRow.Changes (lists.changes (lists.lset i bytes))
one (ones.Linsert beside pivot bytes) = KeyRow.Changes (lists.changes (lists.linsert beside pivot bytes))
one (ones.Lrem n bytes) = KeyRow.Changes (lists.changes (lists.lrem n bytes))
one (ones.Ltrim from to) = KeyRow.Changes (lists.changes (lists.ltrim from to))
one (ones.Hset pairs) = KeyRow.Changes (hashes.changes (hashes.hset pairs.items))
one (ones.Hmset pairs) = KeyRow.Changes (hashes.changes (hashes.hmset pairs.items))
one (ones.Hsetnx field bytes) = KeyRow.Changes (hashes.changes (hashes.hsetnx field bytes))
one (ones.Hget field) = KeyRow.Looks (hashes.looks (hashes.hget field))
one (ones.Hmget words) = KeyRow.Looks (hashes.looks (hashes.hmget words.items))
one (ones.Hdel words) = KeyRow.Changes (hashes.changes (hashes.hdel words.items))
one ones.Hlen = KeyRow.Looks (hashes.looks hashes.hlen)
one (ones.Hexists field) = KeyRow.Looks (hashes.looks (hashes.hexists field))
one (ones.Hstrlen field) = KeyRow.Looks (hashes.looks (hashes.hstrlen field))
one ones.Hkeys = KeyRow.Looks (hashes.looks hashes.hkeys)
one ones.Hvals = KeyRow.Looks (hashes.looks hashes.hvals)
one ones.Hgetall = KeyRow.Looks (hashes.looks hashes.hgetall)
one (ones.Hincrby field n) = KeyRow.Changes (hashes.changes (hashes.hincrby field n))
one (ones.Sadd words) = KeyRow.Changes (sets.changes (sets.sadd words.items))
one (ones.Srem words) = KeyRow.Changes (sets.changes (sets.srem words.items))
one ones.Scard = KeyRow.Looks (sets.looks sets.scard)
one (ones.Sismember member) = KeyRow.Looks (sets.looks (sets.sismember member))
one (ones.Smismember words) = KeyRow.Looks (sets.looks (sets.smismember words.items))
one ones.Smembers = KeyRow.Looks (sets.looks sets.smembers)

abbrev pub firsts : List (Bytes × Bytes) → List Bytes
firsts = map (λ pair. pair.0)

-- a result that is put under a key of its own reads the other keys only
abbrev pub storing : Bytes → List Bytes → (Keyspace → Meaning) → Access
storing d ks row = record { reads = ks; writes = d ∷ []; row = row }

abbrev pub many : ManyOp → Access
many (manies.Del words) = changing words.items (any.del words.items)
many (manies.Unlink words) = changing words.items (any.del words.items)
many (manies.Exists words) = looking words.items (any.exists words.items)
many (manies.Mget words) = looking words.items (strings.mget words.items)
many (manies.Mset pairs) = changing (firsts pairs.items) (strings.mset pairs.items)
many (manies.Msetnx pairs) = changing (firsts pairs.items) (strings.msetnx pairs.items)
many (manies.Rename s d) = changing (s ∷ d ∷ []) (any.rename s d)
many (manies.Renamenx s d) = changing (s ∷ d ∷ []) (any.renamenx s d)
many (manies.Lmove s d from to) = changing (s ∷ d ∷ []) (lists.lmove s d from to)
many (manies.Rpoplpush s d) = changing (s ∷ d ∷ []) (lists.rpoplpush s d)
many (manies.Smove s d member) = changing (s ∷ d ∷ []) (sets.smove s d member)
many (manies.Sinter words) = looking words.items (sets.combined sets.inter words.items)
many (manies.Sunion words) = looking words.items (sets.combined sets.union words.items)
many (manies.Sdiff words) = looking words.items (sets.combined sets.diff words.items)
many (manies.Sinterstore d words) = storing d words.items (sets.store sets.inter d words.items)
many (manies.Sunionstore d words) = storing d words.items (sets.store sets.union d words.items)
many (manies.Sdiffstore d words) = storing d words.items (sets.store sets.diff d words.items)

-- SAVE has three outcomes, which stand in Calls; this one is that of a save that succeeded
abbrev pub whole : WholeOp → Keyspace → Meaning
whole wholes.Dbsize K = keyless.dbsize K
whole (wholes.Keys pattern) K = keyless.keys pattern K
whole wholes.Flushall K = keyless.flush K
whole wholes.Flushdb K = keyless.flush K
whole wholes.Save K = (ok, K)

abbrev pub meaning : Command → Keyspace → Meaning
meaning (Plain op) K = (plain op, K)
meaning (One key op) K = does (on_key key (one op)) K
meaning (Many op) K = does (many op) K
meaning (Whole op) K = whole op K
meaning (Wrong error) K = (Error error, K)
