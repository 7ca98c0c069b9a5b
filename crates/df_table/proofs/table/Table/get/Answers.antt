use Rattle.std.proofs.Common.{sym, ap, ◌∙◌}
use Rattle.std.specs.Option.{option_map}
use Rattle.df_model.specs.Keyspace.{held}
use Rattle.df_values.specs.Seen.{seen}
use Rattle.df_table.proofs.TableLaws.{held_entry}
use Rattle.df_table.proofs.table.Table.get.Goals as goal

pub returns : goal.returns
returns c = ap (option_map seen) c.get.ensures.value ∙ sym (held_entry seen c.self.inside.map.entries c.args.key.now) ∙ ap (λ t. held t.keys c.args.key.now) c.self.view_is
