use Rattle.std.proofs.Common.{◌+◌, length, ap, ◌∙◌, arith}
use Rattle.std.specs.List.{insert}
use Rattle.std.proofs.lemmas.List.{length-set}
use Rattle.df_keys.proofs.FewLaws.{insert_more}
use Rattle.df_keys.proofs.few.insert_at.Goals as goal

pub places-preserved : goal.places-preserved
places-preserved c =
    let es = c.places.list.items in
    let t = c.places.place in
    let put = c.replace-item.ensures.new in
    record {
      all = ap (λ l. insert l.items (t + 1) c.replace-item.result) put ∙ insert_more es t c.places.item c.replace-item.result c.replace-item.ensures.old ∙ c.places.invariant.all;
      count = ap (λ l. length l.items) put ∙ length-set es t c.places.item ∙ c.places.invariant.count;
      room = omega (arith, ap (λ l. l.spare) put, c.places.invariant.room);
    }
