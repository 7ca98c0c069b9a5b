use Rattle.std.proofs.Common.{◌∙◌, ◌++◌, ap}
use Rattle.std.specs.List.{concat}
use Rattle.df_rdbcore.specs.Crc.{crc_from}
use Rattle.df_rdbcore.proofs.RowLaws.{passed_is}
use Rattle.df_rdbcore.proofs.crc.Lanes.passed.Goals as goal

pub returns : goal.returns
returns c rest long =
    rw (c.far.ensures.sum, c.far-2.ensures.sum, c.far-3.ensures.sum, c.far-4.ensures.sum)
    (passed_is c.self.inside.first c.self.inside.second c.self.inside.third c.self.inside.fourth c.args.row.now rest
    c.told-row c.far.ensures.long c.far-2.ensures.long c.far-3.ensures.long c.far-4.ensures.long long
    ∙ ap (λ w. crc_from w (concat c.args.row.now ++ rest)) c.self.view_is)
