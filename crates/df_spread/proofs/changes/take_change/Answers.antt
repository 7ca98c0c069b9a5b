use Rattle.std.proofs.Common.{ap, ◌∙◌}
use Rattle.std.specs.Prelude.{None}
use Rattle.df_model.specs.Keyspace.{held}
use Rattle.df_model.proofs.WholeLaws.{held_other}
use Rattle.df_spread.proofs.changes.take_change.Goals as goal

pub returns-clause-others : goal.returns-clause-others
returns-clause-others c = λ other e.
    ap (λ K. held K other) c.remove-now.ensures.keys ∙ held_other c.args.table.now.keys c.args.key other None e
