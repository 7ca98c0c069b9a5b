use Rattle.std.proofs.Common.{◌≡◌, ◌++◌, drop}
use Rattle.std.specs.List.{flat_map}
use Rattle.df_model.specs.Values.{Value}
use Rattle.df_resp.specs.Appended.{GrowsBy}
use Rattle.df_rdbcore.specs.Written.{written_text, written_value}
use Rattle.df_rdbwrite.proofs.value.push_list.Given as goal

abbrev pub invariant-elements : goal.invariant-elements
invariant-elements l = record {
  grows : GrowsBy l.fn.to.items l.to.items;
  told : l.to.items ++ flat_map written_text (drop l.at l.list.items) ≡ l.fn.to.items ++ written_value (Value.Elements l.list.items);
}
