use Rattle.std.proofs.Common.{rules, ◌≡◌, ◌++◌, sym, ap, ◌∙◌, subst, arith}
use Rattle.df_book.specs.Logs.{BothSeen}
use Rattle.df_book.specs.Passes.{Receipt, met}
use Rattle.df_book.specs.Shown.{receipt_seen}
use Rattle.df_book.specs.Views.{merged, learned}
use Rattle.df_book.specs.declared.view.View.{View}
use Rattle.df_book.proofs.Merging.{merges}
use Rattle.df_book.proofs.Ending.{learns}
use Rattle.df_book.proofs.Showing.{both-seen, shows-longer}
use Rattle.df_book.proofs.shards.BookOf+Said+Ruling.meet.Goals as goal

pub join_seat-requires : goal.join_seat-requires
join_seat-requires c = (search rules, search rules, search rules, search rules, merges _ _ _ _ _ (search rules))

pub load-requires : goal.load-requires
load-requires c = (search rules, search rules, learns _ _ _ _)

pub invariant_of-into : goal.invariant_of-into
invariant_of-into c =
    let v = c.into.inside.seat.me.0 in let w = c.from.inside.seat.me.0 in let i = c.into.invariant in let k = c.from.invariant in
    let e : c.load.new.seat.me.0 ≡ learned (merged v w) = search rules in (
      search rules,
      ap (λ (u : View). u.first) e ∙ i.1,
      ap (λ (u : View). u.owns) e ∙ (λ j. i.2 j ++ k.2 j),
      ap (λ (u : View). u.own) e ∙ (λ j. i.3 j ++ k.3 j),
      ap (λ (u : View). u.made) e ∙ (λ j. i.4 j ++ k.4 j),
      ap (λ (u : View). u.budget) e ∙ omega (arith, i.5, k.5),
      ap (λ (u : View). u.sessions) e ∙ (λ j. i.6 j ++ k.6 j),
    )

pub returns-clause-met : goal.returns-clause-met
returns-clause-met c =
    let v = c.into.inside.seat.me.0 in let w = c.from.inside.seat.me.0 in let i = c.into.invariant in let k = c.from.invariant in
    let e : c.load.new.seat.me.0 ≡ learned (merged v w) = search rules in
    let z : c.load.new.seat.table_id ≡ c.into.inside.seat.table_id = search rules in
    let same : w.shows ≡ v.shows = ap (λ r. r.shard) c.from.view_is ∙ c.requires.shard ∙ sym (ap (λ r. r.shard) c.into.view_is) in
    (λ j. receipt_seen (z j) (e j)) ∙ shows-longer c.into.inside.seat.table_id v w i.2 k.2 same ∙ (λ j. met (c.into.view_is j) (c.from.view_is j) (ap (λ (u : View). u.seen) (sym e) j))

pub returns-clause-seen : goal.returns-clause-seen
returns-clause-seen c =
    let v = c.into.inside.seat.me.0 in let w = c.from.inside.seat.me.0 in
    let m : c.join_seat.new.seat.me.0 ≡ merged v w = search rules in
    let e : c.load.new.seat.me.0 ≡ learned (merged v w) = search rules in
    let both : BothSeen v.seen w.seen c.join_seat.new.seat.me.0.seen = both-seen v w c.join_seat.new.seat.me.0 m c.load.ensures.2.1.0 c.load.ensures.2.1.1 in
    let now : BothSeen v.seen w.seen c.load.new.seat.me.0.seen = subst (λ l. BothSeen v.seen w.seen l) (ap (λ (u : View). u.seen) m ∙ sym (ap (λ (u : View). u.seen) e)) both in
    subst (λ (q : Receipt × Receipt). BothSeen q.0.seen q.1.seen c.load.new.seat.me.0.seen) (λ j. (c.into.view_is j, c.from.view_is j)) now
