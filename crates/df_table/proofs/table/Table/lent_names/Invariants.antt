use Rattle.std.proofs.Common.{◌≡◌, ◌++◌, map}
use Rattle.df_table.proofs.table.Table.lent_names.Given as goal

-- what was collected, and what is still to come
abbrev pub invariant-keys : goal.invariant-keys
invariant-keys l = map (λ name. name.now) l.lent.items ++ l.key-iterator ≡ l.initial.key-iterator
