use Rattle.std.proofs.Common.{sym, ap, ◌∙◌, rules}
use Rattle.df_model.specs.Members as members
use Rattle.df_table.proofs.smove.look.Goals as goal

pub returns-then-has : goal.returns-then-has
returns-then-has c = (c.in-Some-Set.set.members, search rules, ap (members.contains c.in-Some-Set.set.members) (sym c.as_slice.ensures) ∙ sym c.has.ensures ∙ c.if-has.true)

pub returns-else-has : goal.returns-else-has
returns-else-has c = (c.in-Some-Set.set.members, search rules, ap (members.contains c.in-Some-Set.set.members) (sym c.as_slice.ensures) ∙ sym c.has.ensures ∙ c.if-has.false)
