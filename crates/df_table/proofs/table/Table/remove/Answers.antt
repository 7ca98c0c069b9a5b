use Rattle.std.proofs.Common.{sym, ap, ◌∙◌}
use Rattle.std.specs.Prelude.{None}
use Rattle.std.specs.Option.{option_map}
use Rattle.df_model.specs.Keyspace.{held, with_held}
use Rattle.df_values.specs.Seen.{seen}
use Rattle.df_table.proofs.TableLaws.{held_entry, entry_changed}
use Rattle.df_table.proofs.table.Table.remove.Goals as goal

pub returns-clause-keys : goal.returns-clause-keys
returns-clause-keys c =
    entry_changed seen c.self.inside.map.entries c.remove.new.self.entries c.args.key.now None c.remove.ensures.updates.0
    ∙ ap (λ t. with_held t.keys c.args.key.now None) c.self.view_is

pub returns-clause-old : goal.returns-clause-old
returns-clause-old c =
    ap (option_map seen) c.remove.ensures.value
    ∙ sym (held_entry seen c.self.inside.map.entries c.args.key.now)
    ∙ ap (λ t. held t.keys c.args.key.now) c.self.view_is
