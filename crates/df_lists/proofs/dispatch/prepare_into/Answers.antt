use Rattle.std.proofs.Common.{rules}
use Rattle.df_lists.proofs.dispatch.prepare_into.Goals as goal

pub returns-in-Some-clause-ok : goal.returns-in-Some-clause-ok
returns-in-Some-clause-ok c = rw c.in-Some.is (search rules)

pub returns-in-Some-clause-kept : goal.returns-in-Some-clause-kept
returns-in-Some-clause-kept c = rw c.in-Some.is (search rules)
