use Rattle.std.proofs.Common.{rules, ◌≡◌, [], ◌∷◌, sym, subst}
use Rattle.df_book.specs.Shown.{shard_seen}
use Rattle.df_book.specs.Views.{merged, learned}
use Rattle.df_book.specs.Taken.{TakesAll}
use Rattle.df_book.proofs.Merging.{merges}
use Rattle.df_book.proofs.Ending.{learns}
use Rattle.df_book.proofs.Taking.{takes-one}
use Rattle.df_book.proofs.closing.BookOf+Said+Ruling.absorb.Goals as goal

pub join_seat-requires : goal.join_seat-requires
join_seat-requires c = (search rules, search rules, search rules, search rules, merges _ _ _ _ _ (search rules))

pub load-requires : goal.load-requires
load-requires c = (search rules, search rules, learns _ _ _ _)

pub returns-clause-taken : goal.returns-clause-taken
returns-clause-taken c =
    let v = c.args.first.now.me.0 in let w = c.pass.inside.seat.me.0 in let i = c.pass.invariant in let l = c.load.ensures.2 in
    let m : c.join_seat.new.seat.me.0 ≡ merged v w = search rules in
    let e : c.load.new.seat.me.0 ≡ learned (merged v w) = search rules in
    let z = c.pass.inside.seat.table_id in let s = c.pass.inside.shard in
    subst (λ p. TakesAll v (p ∷ []) c.load.new.seat.me.0) c.pass.view_is
    (subst (λ u. TakesAll v (shard_seen z s w ∷ []) u) (sym e) (takes-one z s v w c.join_seat.new.seat.me.0 i.3 i.5 i.6 m l.1.0 l.1.1 l.4))
