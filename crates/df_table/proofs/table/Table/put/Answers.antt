use Rattle.std.proofs.Common.{ap, ◌∙◌}
use Rattle.std.specs.Prelude.{Some}
use Rattle.df_model.specs.Keyspace.{with_held}
use Rattle.df_values.specs.Seen.{seen}
use Rattle.df_table.proofs.TableLaws.{entry_changed}
use Rattle.df_table.proofs.table.Table.put.Goals as goal

pub returns-clause-keys : goal.returns-clause-keys
returns-clause-keys c =
    entry_changed seen c.self.inside.map.entries c.insert.new.self.entries c.args.key (Some c.args.value) c.in-Ok.ensures.updates.0
    ∙ ap (λ t. with_held t.keys c.args.key (Some (seen c.args.value))) c.self.view_is
