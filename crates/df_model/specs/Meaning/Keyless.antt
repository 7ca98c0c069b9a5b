-- Commands without a key, and commands of the whole keyspace, a row each. SAVE stands in Calls.
use Rattle.std.specs.Prelude.{Option, Some, None, codes}
use Rattle.std.specs.List.{filter}
use Rattle.std.specs.FinMap as map
use Rattle.df_model.specs.Values.{Bytes}
use Rattle.df_model.specs.Keyspace.{Keyspace, no_keys}
use Rattle.df_model.specs.Outcomes.{ok, count, bulks}
use Rattle.df_model.specs.Access.{Meaning}
use Rattle.df_model.specs.Patterns.{is_match}
use Rattle.df_model.specs.declared.reply.Reply.{Reply}
use Rattle.df_model.specs.declared.reply.Reply.TheVariants.{Simple, Bulk}

abbrev pub ping : Option Bytes → Reply
ping None = Simple (codes "PONG")
ping (Some message) = Bulk message

abbrev pub echo : Bytes → Reply
echo message = Bulk message

-- ---- the whole keyspace

abbrev pub dbsize : Keyspace → Meaning
dbsize K = (count (map.len K), K)

-- the keys that match, in byte order
abbrev pub keys : Bytes → Keyspace → Meaning
keys pattern K = (bulks (filter (is_match pattern) (map.keys K)), K)

-- FLUSHALL and FLUSHDB
abbrev pub flush : Keyspace → Meaning
flush K = (ok, no_keys)
