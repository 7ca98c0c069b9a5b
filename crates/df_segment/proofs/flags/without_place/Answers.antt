use Rattle.std.proofs.Common.{arith}
use Rattle.df_segment.proofs.FlagLaws.{gap_below, gap_behind, gap_fits}
use Rattle.df_segment.proofs.flags.without_place.Goals as goal

pub overflow_add-result-2 : goal.overflow_add-result-2
overflow_add-result-2 c = let e = gap_fits c.args.flags c.args.i c.ranges.flags.fits c.requires in omega arith

pub returns : goal.returns
returns c = record {
  below = λ k w. gap_below c.args.flags c.args.i k c.ranges.flags.fits c.requires w;
  behind = λ k w. gap_behind c.args.flags c.args.i k c.ranges.flags.fits c.requires w;
}
