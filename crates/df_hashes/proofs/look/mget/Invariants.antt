use Rattle.std.proofs.Common.{◌≡◌, ◌++◌, drop}
use Rattle.std.specs.List.{flat_map}
use Rattle.std.specs.FinMap as map
use Rattle.df_model.specs.Outcomes.{bulk_or_null}
use Rattle.df_model.specs.Meaning.Hashes.{hmget}
use Rattle.df_model.specs.Replies.{encoding_of}
use Rattle.df_hashes.proofs.look.mget.Given as goal

abbrev pub invariant-fields : goal.invariant-fields
invariant-fields l = l.reply ++ flat_map (λ w. encoding_of (bulk_or_null (map.get l.hash.fields w))) (drop l.field-index l.fields) ≡ encoding_of (hmget l.fields l.hash.fields)
