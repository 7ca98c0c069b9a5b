use Rattle.std.proofs.Common.{◌+◌, ◌-◌, ◌*◌, length, sym, ap, subst, ◌∙◌, sum, arith}
use Rattle.df_colls.proofs.SumLaws.{Front, part_is, part_le, pushed, grouped}
use Rattle.df_colls.proofs.sums.group.Goals as goal

pub total-requires : goal.total-requires
total-requires c = let le = part_le c.args.below.now (c.groups.i * 16) c.min.result (length c.args.below.now - c.groups.i * 16) in omega (arith, le, c.requires.fits)

pub groups-preserved : goal.groups-preserved
groups-preserved c =
    let below = c.args.below.now in
    let k = c.groups.i in
    record {
      len = omega (arith, c.push_within.ensures.len, c.groups.invariant.len);
      sums = subst (λ out. Front (k + 1) out below) (sym c.push_within.ensures.items)
          (pushed below c.groups.level.items k c.total.result (omega (arith, c.groups.invariant.len, c.groups.level.ok.0)) c.groups.invariant.sums (c.total.ensures ∙ ap sum (part_is below (k * 16) c.min.result c.min.ensures)));
      capacity = omega (arith, c.push_within.ensures.capacity, c.groups.invariant.capacity);
    }

pub returns-clause-sums : goal.returns-clause-sums
returns-clause-sums c =
    grouped c.args.below.now c.groups.level.items c.groups.i (omega (arith, c.groups.invariant.len, c.groups.level.ok.0)) (omega arith) c.groups.invariant.sums
