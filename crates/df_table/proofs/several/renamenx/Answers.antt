use Rattle.std.proofs.Common.{sym, ◌∙◌, rules}
use Rattle.df_model.specs.Outcomes.{count}
use Rattle.df_table.proofs.SeveralLaws.{renamed_unless}
use Rattle.df_table.proofs.several.renamenx.Goals as goal

pub returns-clause-ok : goal.returns-clause-ok
returns-clause-ok c =
    renamed_unless c.args.source c.args.destination c.args.table.now.keys c.reserve.new.self.keys c.move_value.new.table.keys c.put_count-2.new.self
    (search rules) (sym c.has-2.ensures ∙ c.if-has.false) c.reserve.ensures.keys (c.move_value.ensures.keys (count 1)) c.in_ok-put_count.ensures
