use Rattle.std.proofs.Common.{rules, ◌≡◌, ap, ◌∙◌}
use Rattle.df_book.specs.Passes.{receipt_of}
use Rattle.df_book.specs.Shown.{receipt_seen}
use Rattle.df_book.specs.Views.{receipt_off}
use Rattle.df_book.specs.declared.view.View.{View}
use Rattle.df_book.proofs.Cuts.{receipts}
use Rattle.df_book.proofs.Showing.{receipt-shows}
use Rattle.df_book.proofs.shards.BookOf+Said+Ruling.show.Goals as goal

pub split_seat-seat-requires : goal.split_seat-seat-requires
split_seat-seat-requires c = (search rules, search rules, receipts _ _ _)

pub invariant_of-result : goal.invariant_of-result
invariant_of-result c = let e : c.split_seat-seat.result.me.0 ≡ receipt_off c.pass.inside.seat.me.0 = search rules in
    (search rules, ap (λ (u : View). u.first) e, ap (λ (u : View). u.owns) e, ap (λ (u : View). u.own) e, ap (λ (u : View). u.made) e, ap (λ (u : View). u.budget) e, ap (λ (u : View). u.sessions) e)

pub returns-clause-receipt : goal.returns-clause-receipt
returns-clause-receipt c = let e : c.split_seat-seat.result.me.0 ≡ receipt_off c.pass.inside.seat.me.0 = search rules in
    let z : c.split_seat-seat.result.table_id ≡ c.pass.inside.seat.table_id = search rules in
    (λ i. receipt_seen (z i) (e i)) ∙ receipt-shows c.pass.inside.seat.table_id c.pass.inside.shard c.pass.inside.seat.me.0 c.pass.invariant.3 ∙ ap receipt_of c.pass.view_is
