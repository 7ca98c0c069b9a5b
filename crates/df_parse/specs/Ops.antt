-- The commands of one shape, each as a function of its fields.
use Rattle.std.specs.Prelude.{ℤ, Option}
use Rattle.df_model.specs.Values.{Bytes}
use Rattle.df_model.specs.Spared.{Spared}
use Rattle.df_model.specs.declared.command.OneOp.{OneOp}
use Rattle.df_model.specs.declared.command.OneOp.TheVariants as one
use Rattle.df_model.specs.declared.command.ManyOp.{ManyOp}
use Rattle.df_model.specs.declared.command.ManyOp.TheVariants as many
use Rattle.df_model.specs.declared.command.WholeOp.{WholeOp}
use Rattle.df_model.specs.declared.command.WholeOp.TheVariants as whole
use Rattle.df_parse.specs.declared.ops.Alone.{Alone}
use Rattle.df_parse.specs.declared.ops.Flush.{Flush}
use Rattle.df_parse.specs.declared.ops.Key.{Key}
use Rattle.df_parse.specs.declared.ops.Alone.TheVariants as alone_ops
use Rattle.df_parse.specs.declared.ops.Flush.TheVariants as flush_ops
use Rattle.df_parse.specs.declared.ops.Key.TheVariants as key_ops
use Rattle.df_parse.specs.declared.ops.KeyWord.{KeyWord}
use Rattle.df_parse.specs.declared.ops.KeyNumber.{KeyNumber}
use Rattle.df_parse.specs.declared.ops.KeyNumbers.{KeyNumbers}
use Rattle.df_parse.specs.declared.ops.KeyNumberWord.{KeyNumberWord}
use Rattle.df_parse.specs.declared.ops.KeyMany.{KeyMany}
use Rattle.df_parse.specs.declared.ops.Pop.{Pop}
use Rattle.df_parse.specs.declared.ops.KeyPairs.{KeyPairs}
use Rattle.df_parse.specs.declared.ops.ManyKeys.{ManyKeys}
use Rattle.df_parse.specs.declared.ops.KeyKeys.{KeyKeys}
use Rattle.df_parse.specs.declared.ops.TwoKeys.{TwoKeys}
use Rattle.df_parse.specs.declared.ops.ManyPairs.{ManyPairs}
use Rattle.df_parse.specs.declared.ops.KeyWord.TheVariants as key_word_ops
use Rattle.df_parse.specs.declared.ops.KeyNumber.TheVariants as key_number_ops
use Rattle.df_parse.specs.declared.ops.KeyNumbers.TheVariants as key_numbers_ops
use Rattle.df_parse.specs.declared.ops.KeyNumberWord.TheVariants as key_number_word_ops
use Rattle.df_parse.specs.declared.ops.KeyMany.TheVariants as key_many_ops
use Rattle.df_parse.specs.declared.ops.Pop.TheVariants as pop_ops
use Rattle.df_parse.specs.declared.ops.KeyPairs.TheVariants as key_pairs_ops
use Rattle.df_parse.specs.declared.ops.ManyKeys.TheVariants as many_keys_ops
use Rattle.df_parse.specs.declared.ops.KeyKeys.TheVariants as key_keys_ops
use Rattle.df_parse.specs.declared.ops.TwoKeys.TheVariants as two_keys_ops
use Rattle.df_parse.specs.declared.ops.ManyPairs.TheVariants as many_pairs_ops

abbrev pub alone : Alone → WholeOp
alone alone_ops.Save = whole.Save
alone alone_ops.Dbsize = whole.Dbsize

abbrev pub flush : Flush → WholeOp
flush flush_ops.Flushall = whole.Flushall
flush flush_ops.Flushdb = whole.Flushdb

abbrev pub key : Key → OneOp
key key_ops.Get = one.Get
key key_ops.Getdel = one.Getdel
key key_ops.Strlen = one.Strlen
key key_ops.Incr = one.Incr
key key_ops.Decr = one.Decr
key key_ops.KindOf = one.KindOf
key key_ops.Llen = one.Llen
key key_ops.Hlen = one.Hlen
key key_ops.Hkeys = one.Hkeys
key key_ops.Hvals = one.Hvals
key key_ops.Hgetall = one.Hgetall
key key_ops.Scard = one.Scard
key key_ops.Smembers = one.Smembers

abbrev pub key_word : KeyWord → Bytes → OneOp
key_word key_word_ops.Setnx = one.Setnx
key_word key_word_ops.Getset = one.Getset
key_word key_word_ops.Append = one.Append
key_word key_word_ops.Hget = one.Hget
key_word key_word_ops.Hexists = one.Hexists
key_word key_word_ops.Hstrlen = one.Hstrlen
key_word key_word_ops.Sismember = one.Sismember

abbrev pub key_number : KeyNumber → ℤ → OneOp
key_number key_number_ops.Incrby = one.Incrby
key_number key_number_ops.Decrby = one.Decrby
key_number key_number_ops.Lindex = one.Lindex

abbrev pub key_numbers : KeyNumbers → ℤ → ℤ → OneOp
key_numbers key_numbers_ops.Getrange = one.Getrange
key_numbers key_numbers_ops.Lrange = one.Lrange
key_numbers key_numbers_ops.Ltrim = one.Ltrim

abbrev pub key_number_word : KeyNumberWord → ℤ → Bytes → OneOp
key_number_word key_number_word_ops.Lset = one.Lset
key_number_word key_number_word_ops.Lrem = one.Lrem

abbrev pub key_many : KeyMany → Spared Bytes → OneOp
key_many key_many_ops.Lpush = one.Lpush
key_many key_many_ops.Rpush = one.Rpush
key_many key_many_ops.Lpushx = one.Lpushx
key_many key_many_ops.Rpushx = one.Rpushx
key_many key_many_ops.Hmget = one.Hmget
key_many key_many_ops.Hdel = one.Hdel
key_many key_many_ops.Sadd = one.Sadd
key_many key_many_ops.Srem = one.Srem
key_many key_many_ops.Smismember = one.Smismember

abbrev pub pop : Pop → Option ℤ → OneOp
pop pop_ops.Lpop = one.Lpop
pop pop_ops.Rpop = one.Rpop

abbrev pub key_pairs : KeyPairs → Spared (Bytes × Bytes) → OneOp
key_pairs key_pairs_ops.Hset = one.Hset
key_pairs key_pairs_ops.Hmset = one.Hmset

abbrev pub keys : ManyKeys → Spared Bytes → ManyOp
keys many_keys_ops.Del = many.Del
keys many_keys_ops.Unlink = many.Unlink
keys many_keys_ops.Exists = many.Exists
keys many_keys_ops.Mget = many.Mget
keys many_keys_ops.Sinter = many.Sinter
keys many_keys_ops.Sunion = many.Sunion
keys many_keys_ops.Sdiff = many.Sdiff

abbrev pub key_keys : KeyKeys → Bytes → Spared Bytes → ManyOp
key_keys key_keys_ops.Sinterstore = many.Sinterstore
key_keys key_keys_ops.Sunionstore = many.Sunionstore
key_keys key_keys_ops.Sdiffstore = many.Sdiffstore

abbrev pub two_keys : TwoKeys → Bytes → Bytes → ManyOp
two_keys two_keys_ops.Rename = many.Rename
two_keys two_keys_ops.Renamenx = many.Renamenx
two_keys two_keys_ops.Rpoplpush = many.Rpoplpush

abbrev pub pairs : ManyPairs → Spared (Bytes × Bytes) → ManyOp
pairs many_pairs_ops.Mset = many.Mset
pairs many_pairs_ops.Msetnx = many.Msetnx
