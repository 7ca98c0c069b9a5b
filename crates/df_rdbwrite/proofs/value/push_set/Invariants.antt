use Rattle.std.proofs.Common.{◌≡◌, ◌++◌, ◌-◌, ◌≤◌, drop}
use Rattle.std.specs.List.{flat_map}
use Rattle.std.specs.FinMap as fin
use Rattle.df_model.specs.Values.{Value}
use Rattle.df_resp.specs.Appended.{GrowsBy}
use Rattle.df_rdbcore.specs.Written.{written_text, written_value}
use Rattle.df_rdbwrite.proofs.value.push_set.Given as goal

abbrev pub invariant-runs : goal.invariant-runs
invariant-runs l = record {
  grows : GrowsBy l.fn.to.items l.to.items;
  within : l.at ≤ fin.len l.set.members;
  told : l.to.items ++ flat_map (λ member. written_text member.0) (drop l.at (fin.entries l.set.members)) ≡ l.fn.to.items ++ written_value (Value.Set l.set.members);
}

abbrev pub decreases-runs : goal.decreases-runs
decreases-runs l = fin.len l.set.members - l.at
