use Rattle.std.proofs.Common.{sym, ap, ◌∙◌}
use Rattle.std.specs.FinMap as fin
use Rattle.df_values.specs.Seen.{seen}
use Rattle.df_table.proofs.TableLaws.{len_entries}
use Rattle.df_table.proofs.table.Table.len.Goals as goal

pub returns : goal.returns
returns c = c.len.ensures.len ∙ sym (len_entries seen c.self.inside.map.entries c.len.ensures.unique) ∙ ap (λ t. fin.len t.keys) c.self.view_is
