use Rattle.std.proofs.Common.{◌≡◌, drop}
use Rattle.df_model.specs.Meaning.Strings.{any_held}
use Rattle.df_table.proofs.several.any_present.Given as goal

abbrev pub invariant-pairs : goal.invariant-pairs
invariant-pairs l = any_held l.table.keys (drop l.pair-index l.pairs) ≡ any_held l.table.keys l.pairs
