use Rattle.std.proofs.Common.{◌≡◌, ◌++◌, drop}
use Rattle.std.specs.List.{flat_map}
use Rattle.df_resp.specs.Appended.{GrowsBy}
use Rattle.df_rdbcore.specs.Written.{written_pair}
use Rattle.df_rdbwrite.proofs.value.push_fields.Given as goal

abbrev pub invariant-fields : goal.invariant-fields
invariant-fields l = record {
  grows : GrowsBy l.fn.to.items l.to.items;
  told : l.to.items ++ flat_map written_pair (drop l.field-index l.run) ≡ l.fn.to.items ++ flat_map written_pair l.run;
}
