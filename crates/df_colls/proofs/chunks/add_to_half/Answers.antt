use Rattle.std.proofs.Common.{◌≡◌, ◌++◌, length, sym, ap, ◌∙◌, arith}
use Rattle.std.proofs.lemmas.List.Edits.{insert-append_right}
use Rattle.df_colls.proofs.chunks.add_to_half.Goals as goal

pub returns-else-at-le-HALF : goal.returns-else-at-le-HALF
returns-else-at-le-HALF g c =
    let low = c.args.low.now in
    let high = c.args.high.now in
    let half : length low.items ≡ 128 = sym low.ok.0 ∙ c.requires.lens.0 in
    record {
      halves = record {
        items = ap (λ l. low.items ++ l) c.add-else-at-le-HALF.ensures.items ∙ sym (insert-append_right low.items high.items 128 c.args.at c.args.item half (omega arith));
        lens = omega arith;
        low_len = (omega arith, omega arith);
        high_len = (omega arith, omega arith);
        wide = (omega arith, omega arith);
      };
    }
