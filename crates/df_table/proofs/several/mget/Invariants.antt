use Rattle.std.proofs.Common.{◌≡◌, ◌++◌, drop, map}
use Rattle.std.specs.List.{flat_map}
use Rattle.df_model.specs.Keyspace.{held}
use Rattle.df_model.specs.Meaning.Strings.{string_or_null, mget}
use Rattle.df_model.specs.Replies.{encoding_of}
use Rattle.df_table.proofs.several.mget.Given as goal

abbrev pub invariant-words : goal.invariant-words
invariant-words l = l.reply ++ flat_map encoding_of (map (λ k. string_or_null (held l.table.keys k)) (drop l.word-index l.words)) ≡ encoding_of (mget l.words l.table.keys)
