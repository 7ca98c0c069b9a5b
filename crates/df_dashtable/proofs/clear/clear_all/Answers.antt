use Rattle.std.proofs.Common.{refl, arith}
use Rattle.df_dashtable.specs.Tables.{cleared, no_segment}
use Rattle.df_dashtable.proofs.ClearLaws.{done_all}
use Rattle.df_dashtable.proofs.clear.clear_all.Goals as goal

pub returns : goal.returns
returns g c =
    done_all cleared no_segment c.args.segments.now.items c.segments.segments.items c.segments.s refl c.segments.invariant
    (omega (arith, c.segments-test.false, c.len-s-end.ensures, c.args.segments.now.ok.0))
