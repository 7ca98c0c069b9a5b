use Rattle.std.proofs.Common.{◌+◌, ◌-◌, ◌/◌, ◌<◌, length, subst, arith}
use Rattle.std.proofs.lemmas.List.{length-map}
use Rattle.df_colls.specs.Parts.{item_lists}
use Rattle.df_colls.specs.Places.{Starts}
use Rattle.df_colls.proofs.PartLaws.{list_at, filled_length}
use Rattle.df_colls.proofs.HomeLaws.{begins_below, begins_above}
use Rattle.df_colls.proofs.entries.home.Goals as goal

pub halves-preserved-then-starts_above : goal.halves-preserved-then-starts_above
halves-preserved-then-starts_above g c =
    let vs = c.args.parts.now in
    let middle = c.halves.low + (c.halves.high - c.halves.low) / 2 in
    let order : c.halves.low < middle = omega arith in
    let within : middle < length vs = omega (arith, c.halves.invariant.within) in
    let at = list_at vs middle c.index-parts-middle.result within c.index-parts-middle.is in
    let lists : middle < length (item_lists vs) = omega (arith, within, length-map vs (λ v. v.items)) in
    record {
      order = order;
      within = omega (arith, within);
      below = c.halves.invariant.below;
      above = begins_above c.args.key.now (item_lists vs) middle _ c.requires.sorted lists at (subst (Starts c.args.key.now c.index-parts-middle.result.items) c.if-starts_above.true c.starts_above.ensures);
    }

pub halves-preserved : goal.halves-preserved
halves-preserved g c =
    let vs = c.args.parts.now in
    let middle = c.halves.low + (c.halves.high - c.halves.low) / 2 in
    let order : middle < c.halves.high = omega arith in
    let within : middle < length vs = omega (arith, c.halves.invariant.within) in
    let at = list_at vs middle c.index-parts-middle.result within c.index-parts-middle.is in
    let lists : middle < length (item_lists vs) = omega (arith, within, length-map vs (λ v. v.items)) in
    let some = filled_length vs middle c.index-parts-middle.result within c.index-parts-middle.is c.requires.filled (omega arith) in
    record {
      order = order;
      within = c.halves.invariant.within;
      below = begins_below c.args.key.now (item_lists vs) middle _ c.requires.sorted lists at some (subst (Starts c.args.key.now c.index-parts-middle.result.items) c.if-starts_above.false c.starts_above.ensures);
      above = c.halves.invariant.above;
    }
