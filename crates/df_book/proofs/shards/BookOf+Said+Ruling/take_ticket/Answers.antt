use Rattle.std.proofs.Common.{rules, ◌≡◌, ◌+◌, ◌<◌, ◌++◌, sym, ap, ◌∙◌, subst}
use Rattle.df_book.specs.Weights.{Each}
use Rattle.df_book.specs.Logs.{BothSeen}
use Rattle.df_book.specs.Passes.{Shard, Ticket, after_ticket}
use Rattle.df_book.specs.Shown.{shard_seen}
use Rattle.df_book.specs.Views.{merged, learned}
use Rattle.df_book.specs.declared.view.View.{View}
use Rattle.df_book.proofs.Merging.{merges}
use Rattle.df_book.proofs.Ending.{learns}
use Rattle.df_book.proofs.Showing.{both-seen, counted-here, shard-takes}
use Rattle.df_book.proofs.shards.BookOf+Said+Ruling.take_ticket.Goals as goal

pub join_seat-requires : goal.join_seat-requires
join_seat-requires c = (search rules, search rules, search rules, search rules, merges _ _ _ _ _ (search rules))

pub load-requires : goal.load-requires
load-requires c = (search rules, search rules, learns _ _ _ _)

pub invariant_of-pass : goal.invariant_of-pass
invariant_of-pass c =
    let v = c.pass.inside.seat.me.0 in let w = c.ticket.inside.seat.me.0 in let i = c.pass.invariant in let k = c.ticket.invariant in
    let e : c.load.new.seat.me.0 ≡ learned (merged v w) = search rules in
    let z : c.load.new.seat.table_id ≡ c.pass.inside.seat.table_id = search rules in (
      search rules,
      ap (λ (u : View). u.note) e,
      ap (λ (u : View). u.first) e ∙ i.2,
      ap (λ (u : View). u.owns) e ∙ (λ j. i.3 j ++ k.2 j),
      subst (λ y. c.pass.inside.shard + 1 < y.words) (sym z) i.4,
      ap (λ (u : View). u.own) e ∙ (λ j. i.5 j ++ k.3 j),
      ap (λ (u : View). u.made) e ∙ (λ j. i.6 j ++ k.4 j),
      subst (λ (u : View). Each (λ p. p.0 ≡ c.pass.inside.shard) u.counted) (sym e) (counted-here c.pass.inside.shard v w i.3 k.5 i.7),
    )

pub returns-clause-taken : goal.returns-clause-taken
returns-clause-taken c =
    let v = c.pass.inside.seat.me.0 in let w = c.ticket.inside.seat.me.0 in
    let e : c.load.new.seat.me.0 ≡ learned (merged v w) = search rules in
    let z : c.load.new.seat.table_id ≡ c.pass.inside.seat.table_id = search rules in
    (λ j. shard_seen (z j) c.pass.inside.shard (e j)) ∙ shard-takes c.pass.inside.seat.table_id c.pass.inside.shard v w c.pass.invariant.3 c.ticket.invariant.5
    ∙ (λ j. after_ticket (c.pass.view_is j) (c.ticket.view_is j) (sym (ap (λ (u : View). u.seen) e) j))

pub returns-clause-seen : goal.returns-clause-seen
returns-clause-seen c =
    let v = c.pass.inside.seat.me.0 in let w = c.ticket.inside.seat.me.0 in
    let m : c.join_seat.new.seat.me.0 ≡ merged v w = search rules in
    let e : c.load.new.seat.me.0 ≡ learned (merged v w) = search rules in
    let both : BothSeen v.seen w.seen c.join_seat.new.seat.me.0.seen = both-seen v w c.join_seat.new.seat.me.0 m c.load.ensures.2.1.0 c.load.ensures.2.1.1 in
    subst (λ (q : Shard × Ticket). BothSeen q.0.seen q.1.seen c.load.new.seat.me.0.seen) (λ j. (c.pass.view_is j, c.ticket.view_is j))
    (subst (λ l. BothSeen v.seen w.seen l) (ap (λ (u : View). u.seen) m ∙ sym (ap (λ (u : View). u.seen) e)) both)
