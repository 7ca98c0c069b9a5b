use Rattle.std.proofs.Common.{◌≡◌, ◌++◌, map}
use Rattle.std.specs.List.{filter}
use Rattle.df_model.specs.Patterns.{is_match}
use Rattle.df_table.proofs.table.Table.names.Given as goal

-- what was collected, and what is still to come
abbrev pub invariant-keys : goal.invariant-keys
invariant-keys l = map (λ name. name.now) l.names.items ++ filter (is_match l.pattern) l.key-iterator ≡ filter (is_match l.pattern) l.initial.key-iterator
