use Rattle.std.proofs.Common.{◌≡◌, drop}
use Rattle.df_model.specs.Meaning.{firsts}
use Rattle.df_hashes.specs.Counts.{has}
use Rattle.df_hashes.proofs.count.is_field.Given as goal

abbrev pub invariant-pairs : goal.invariant-pairs
invariant-pairs l = has (firsts (drop l.pair-index l.pairs)) l.field ≡ has (firsts l.pairs) l.field
