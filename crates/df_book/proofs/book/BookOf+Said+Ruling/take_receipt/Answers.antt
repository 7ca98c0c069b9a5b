use Rattle.std.proofs.Common.{rules, ◌≡◌, refl, sym, ap, ◌∙◌, subst}
use Rattle.df_book.specs.Logs.{BothSeen, at_log}
use Rattle.df_book.specs.Passes.{Caller, Receipt}
use Rattle.df_book.specs.Views.{merged, learned}
use Rattle.df_book.specs.declared.view.View.{View}
use Rattle.df_book.proofs.Merging.{merges}
use Rattle.df_book.proofs.Ending.{learns}
use Rattle.df_book.proofs.Showing.{both-seen}
use Rattle.df_book.proofs.book.BookOf+Said+Ruling.take_receipt.Goals as goal

pub join_seat-requires : goal.join_seat-requires
join_seat-requires c = (search rules, search rules, search rules, search rules, merges _ _ _ _ _ (search rules))

pub load-requires : goal.load-requires
load-requires c = (search rules, search rules, learns _ _ _ _)

pub returns-clause-seen : goal.returns-clause-seen
returns-clause-seen c =
    let v = c.pass.inside.seat.me.0 in let w = c.receipt.inside.seat.me.0 in
    let m : c.join_seat.new.seat.me.0 ≡ merged v w = search rules in
    let e : c.load.new.seat.me.0 ≡ learned (merged v w) = search rules in
    let both : BothSeen v.seen w.seen c.join_seat.new.seat.me.0.seen = both-seen v w c.join_seat.new.seat.me.0 m c.load.ensures.2.1.0 c.load.ensures.2.1.1 in
    let now : BothSeen v.seen w.seen c.load.new.seat.me.0.seen = subst (λ l. BothSeen v.seen w.seen l) (ap (λ (u : View). u.seen) m ∙ sym (ap (λ (u : View). u.seen) e)) both in
    subst (λ (q : Caller × Receipt). BothSeen q.0.seen q.1.seen c.load.new.seat.me.0.seen) (λ j. (c.pass.view_is j, c.receipt.view_is j)) now

pub returns-clause-shown : goal.returns-clause-shown
returns-clause-shown c = subst (λ (r : Receipt). at_log r.seen r.shard ≡ r.log) c.receipt.view_is refl
