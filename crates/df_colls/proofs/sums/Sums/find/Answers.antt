use Rattle.std.proofs.Common.{◌<◌, sum, sym, subst, arith}
use Rattle.df_colls.specs.Parts.{item_lists}
use Rattle.df_colls.specs.Sums.{IsTower, lowest}
use Rattle.df_colls.proofs.SumLaws.{within_level, down_level}
use Rattle.df_colls.proofs.sums.Sums.find.Goals as goal

pub walk-spot-requires-clause-within : goal.walk-spot-requires-clause-within
walk-spot-requires-clause-within c =
    let vs = c.as_slice-levels.result.now in
    let e = c.as_slice-levels.ensures.value in
    within_level vs c.levels.i c.index-levels-i.result c.as_slice.result.now c.args.item c.levels.from c.levels.rest (subst (λ ws. IsTower (item_lists ws)) (sym e) c.self.invariant.tower) c.levels.invariant.within c.index-levels-i.is c.as_slice.ensures.value c.levels.invariant.starts
    (subst (λ ws. c.args.item < sum (lowest (item_lists ws))) (sym e) (subst (λ v. c.args.item < sum v.lens) (sym c.self.view_is) c.requires))

pub levels-preserved : goal.levels-preserved
levels-preserved c =
    let vs = c.as_slice-levels.result.now in
    let e = c.as_slice-levels.ensures.value in
    record {
      within = omega (arith, c.levels.invariant.within);
      starts = down_level vs c.levels.i c.index-levels-i.result c.as_slice.result.now c.args.item c.levels.from c.levels.rest c.walk-spot.result (subst (λ ws. IsTower (item_lists ws)) (sym e) c.self.invariant.tower) c.levels-test.true c.levels.invariant.within c.index-levels-i.is c.as_slice.ensures.value c.levels.invariant.starts c.walk-spot.ensures;
    }
