use Rattle.std.proofs.Common.{◌≡◌, ◌≤◌, drop}
use Rattle.df_model.specs.Keyspace.{no_keys}
use Rattle.df_spread.specs.Gathered.{gathered, count_all, AreAsMany}
use Rattle.df_spread.proofs.gather.told_table.Given as goal

abbrev pub invariant-shards : goal.invariant-shards
invariant-shards l = record {
  left : gathered (drop l.shard l.keys) l.told-iterator.rest.items l.table.keys ≡ gathered l.keys l.fn.values.items no_keys;
  many : AreAsMany (drop l.shard l.keys) l.told-iterator.rest.items;
  room : count_all (drop l.shard l.keys) ≤ l.table.spare;
}
