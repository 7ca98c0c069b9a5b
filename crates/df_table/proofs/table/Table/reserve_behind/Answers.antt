use Rattle.std.proofs.Common.{ap, ◌∙◌}
use Rattle.df_values.specs.Seen.{seen}
use Rattle.df_table.proofs.TableLaws.{same_keyspace}
use Rattle.df_table.proofs.table.Table.reserve_behind.Goals as goal

pub returns-clause-keys : goal.returns-clause-keys
returns-clause-keys c =
    same_keyspace seen c.self.inside.map.entries c.reserve.new.self.entries c.reserve.ensures.entries.2 ∙ ap (λ t. t.keys) c.self.view_is
