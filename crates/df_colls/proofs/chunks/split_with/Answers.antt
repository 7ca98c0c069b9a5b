use Rattle.std.proofs.Common.{subst}
use Rattle.std.specs.List.{insert}
use Rattle.df_colls.specs.Parts.{AreHalves}
use Rattle.df_colls.proofs.chunks.split_with.Goals as goal

pub returns-clause-split : goal.returns-clause-split
returns-clause-split g c =
    let low = c.add_to_half.new.low in
    let high = c.add_to_half.new.high in
    record {
      was = c.index_mut-low.result.now;
      low = low;
      high = high;
      was_is = c.index_mut-low.ensures.value;
      new_is = c.in-Ok.ensures.items;
      halves = subst (λ l. AreHalves low high (insert l c.args.place.at c.args.item)) c.move_upper.ensures.items c.add_to_half.ensures.halves;
    }
