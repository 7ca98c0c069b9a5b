use Rattle.std.proofs.Common.{◌≡◌, drop}
use Rattle.std.specs.Prelude.{is_some}
use Rattle.df_model.specs.Meaning.Sets.{sets_of}
use Rattle.df_table.proofs.combos.only_sets.Given as goal

abbrev pub invariant-keys : goal.invariant-keys
invariant-keys l = is_some (sets_of l.table.keys (drop l.key-index l.keys)) ≡ is_some (sets_of l.table.keys l.keys)
