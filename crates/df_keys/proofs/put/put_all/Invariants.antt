use Rattle.std.proofs.Common.{◌≡◌, ◌<◌, ℕ, length}
use Rattle.std.specs.Prelude.{Some}
use Rattle.df_model.specs.declared.keys.Keys.TheVariants as kinds
use Rattle.df_keys.specs.Asked.{footprint_there}
use Rattle.df_keys.proofs.put.put_all.Given as goal

abbrev pub invariant-shards : goal.invariant-shards
invariant-shards l = record {
  count : length l.keys.items ≡ length l.fn.keys.items;
  put : (s : ℕ) → s < l.shard → footprint_there s l.keys.items ≡ Some (kinds.All l.mode);
}
