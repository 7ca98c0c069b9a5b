use Rattle.std.proofs.Common.{◌-◌, length, take, drop, sum, ap, subst, ◌∙◌, arith}
use Rattle.std.proofs.lemmas.List.{take_rest}
use Rattle.df_colls.specs.Cuts.{flat}
use Rattle.df_colls.specs.Runs.{IsFront}
use Rattle.df_colls.specs.Sums.{IsSpot, lens_of}
use Rattle.df_colls.proofs.SpotLaws.{all_items, spot_front}
use Rattle.df_colls.proofs.chunks.Chunks.run.Goals as goal

pub find-spot-requires : goal.find-spot-requires
find-spot-requires g c =
    let all = ap sum c.self.invariant.1.lens ∙ all_items c.self.inside.parts.items in
    omega (arith, all, c.self.invariant.0.count)

pub returns-clause-front : goal.returns-clause-front
returns-clause-front g c =
    let vs = c.self.inside.parts.items in
    let items = c.as_slice.result.now in
    let spot : IsSpot (lens_of vs) c.args.from c.find-spot.result = subst (λ l. IsSpot l c.args.from c.find-spot.result) c.self.invariant.1.lens c.find-spot.ensures in
    let run = take_rest items c.find-spot.result.rest ∙ ap (drop c.find-spot.result.rest) c.as_slice.ensures.value in
    subst (λ v. IsFront (drop c.args.from (flat v.parts)) (take (length items - c.find-spot.result.rest) (drop c.find-spot.result.rest items))) c.self.view_is
    (spot_front vs c.args.from c.find-spot.result c.index.result.now spot c.index.ensures _ run)
