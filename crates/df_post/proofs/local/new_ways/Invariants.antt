use Rattle.std.proofs.Common.{◌≡◌, ◌-◌, ◌++◌}
use Rattle.df_post.specs.Locals.{bare_ways}
use Rattle.df_post.proofs.local.new_ways.Given as goal

abbrev pub invariant-shards : goal.invariant-shards
invariant-shards l = l.ways.items ++ bare_ways l.book l.shard (l.shards - l.shard) ≡ bare_ways l.book 0 l.shards
