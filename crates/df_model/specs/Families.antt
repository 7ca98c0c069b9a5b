-- Which family a command of one key belongs to.
use Rattle.df_model.specs.declared.command.Family.{Family}
use Rattle.df_model.specs.declared.command.Family.TheVariants as families
use Rattle.df_model.specs.declared.command.OneOp.{OneOp}
use Rattle.df_model.specs.declared.command.OneOp.TheVariants as ones

abbrev pub family_of : OneOp → Family
family_of ones.KindOf = families.Any
family_of ones.Get = families.Strings
family_of (ones.Set a b) = families.Strings
family_of (ones.Setnx a) = families.Strings
family_of (ones.Getset a) = families.Strings
family_of ones.Getdel = families.Strings
family_of (ones.Append a) = families.Strings
family_of ones.Strlen = families.Strings
family_of (ones.Getrange a b) = families.Strings
family_of (ones.Setrange a b) = families.Strings
family_of ones.Incr = families.Strings
family_of ones.Decr = families.Strings
family_of (ones.Incrby a) = families.Strings
family_of (ones.Decrby a) = families.Strings
family_of (ones.Lpush a) = families.Lists
family_of (ones.Rpush a) = families.Lists
family_of (ones.Lpushx a) = families.Lists
family_of (ones.Rpushx a) = families.Lists
family_of (ones.Lpop a) = families.Lists
family_of (ones.Rpop a) = families.Lists
family_of ones.Llen = families.Lists
family_of (ones.Lrange a b) = families.Lists
family_of (ones.Lindex a) = families.Lists
family_of (ones.Lset a b) = families.Lists
family_of (ones.Linsert a b c) = families.Lists
family_of (ones.Lrem a b) = families.Lists
family_of (ones.Ltrim a b) = families.Lists
family_of (ones.Hset a) = families.Hashes
family_of (ones.Hmset a) = families.Hashes
family_of (ones.Hsetnx a b) = families.Hashes
family_of (ones.Hget a) = families.Hashes
family_of (ones.Hmget a) = families.Hashes
family_of (ones.Hdel a) = families.Hashes
family_of ones.Hlen = families.Hashes
family_of (ones.Hexists a) = families.Hashes
family_of (ones.Hstrlen a) = families.Hashes
family_of ones.Hkeys = families.Hashes
family_of ones.Hvals = families.Hashes
family_of ones.Hgetall = families.Hashes
family_of (ones.Hincrby a b) = families.Hashes
family_of (ones.Sadd a) = families.Sets
family_of (ones.Srem a) = families.Sets
family_of ones.Scard = families.Sets
family_of (ones.Sismember a) = families.Sets
family_of (ones.Smismember a) = families.Sets
family_of ones.Smembers = families.Sets
