use Rattle.std.proofs.Common.{◌≡◌, ◌++◌, ◌-◌, ◌≤◌, drop}
use Rattle.std.specs.List.{flat_map}
use Rattle.std.specs.FinMap as fin
use Rattle.df_model.specs.Values.{Value}
use Rattle.df_resp.specs.Appended.{GrowsBy}
use Rattle.df_rdbcore.specs.Written.{written_pair, written_value}
use Rattle.df_rdbwrite.proofs.value.push_hash.Given as goal

abbrev pub invariant-runs : goal.invariant-runs
invariant-runs l = record {
  grows : GrowsBy l.fn.to.items l.to.items;
  within : l.at ≤ fin.len l.hash.fields;
  told : l.to.items ++ flat_map written_pair (drop l.at (fin.entries l.hash.fields)) ≡ l.fn.to.items ++ written_value (Value.Hash l.hash.fields);
}

abbrev pub decreases-runs : goal.decreases-runs
decreases-runs l = fin.len l.hash.fields - l.at
