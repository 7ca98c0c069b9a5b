use Rattle.std.proofs.Common.{◌≡◌, ◌≤◌, length}
use Rattle.df_model.specs.Members.{with_all}
use Rattle.df_turn.proofs.heard.add_each.Given as goal

abbrev pub invariant-names : goal.invariant-names
invariant-names l = (with_all l.name-iterator.rest.items l.set.members ≡ with_all l.fn.names.items l.fn.set.members) × (length l.name-iterator.rest.items ≤ l.set.spare)
