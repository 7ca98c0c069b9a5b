use Rattle.std.proofs.Common.{◌∙◌, ap}
use Rattle.std.specs.List.{concat}
use Rattle.df_rdbcore.specs.Crc.{crc_from}
use Rattle.df_rdbcore.proofs.RowLaws.{joined_is, row_is_long}
use Rattle.df_rdbcore.proofs.crc.Lanes.joined.Goals as goal

pub returns-clause-sum : goal.returns-clause-sum
returns-clause-sum c =
    joined_is c.self.inside.first c.self.inside.second c.self.inside.third c.self.inside.fourth c.with_eight-sum.result c.with_eight-sum-2.result c.with_eight-sum-3.result c.with_eight.result c.args.row.now
    c.told-row c.with_eight-sum.ensures.long c.with_eight-sum-2.ensures.long c.with_eight-sum-3.ensures.long
    c.with_eight-sum.ensures.sum c.with_eight-sum-2.ensures.sum c.with_eight-sum-3.ensures.sum c.with_eight.ensures.sum
    ∙ ap (λ w. crc_from w (concat c.args.row.now)) c.self.view_is

pub returns-clause-long : goal.returns-clause-long
returns-clause-long c = row_is_long c.args.row.now c.told-row c.with_eight-sum.ensures.long c.with_eight-sum-2.ensures.long c.with_eight-sum-3.ensures.long c.with_eight.ensures.long
