use Rattle.std.proofs.Common.{◌≡◌, ◌+◌, drop}
use Rattle.df_spread.specs.Gathered.{count_all}
use Rattle.df_spread.proofs.gather.count_keys.Given as goal

abbrev pub invariant-shards : goal.invariant-shards
invariant-shards l = l.count + count_all (drop l.modes-index l.keys) ≡ count_all l.keys
