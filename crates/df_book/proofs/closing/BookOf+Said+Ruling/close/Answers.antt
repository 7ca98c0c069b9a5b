use Rattle.std.proofs.Common.{rules, ◌≡◌, List, [], ◌∷◌, ◌++◌, ap, ◌∙◌, sym, subst, refl, length, arith}
use Rattle.df_book.specs.Weights.{Each, count}
use Rattle.df_book.specs.Logs.{at_log, Within}
use Rattle.df_book.specs.Draws.{IsDraw}
use Rattle.df_book.specs.Passes.{Shard}
use Rattle.df_book.specs.Closed.{Closed}
use Rattle.df_book.specs.Shown.{closed_of}
use Rattle.df_book.specs.Taken.{IsTaken, all_known}
use Rattle.df_book.specs.declared.draw.Draw.{Draw}
use Rattle.df_book.proofs.Sums.{Each-map, append-none}
use Rattle.df_book.proofs.Deals.{regroup}
use Rattle.df_book.proofs.Taking.{each-mid, takes-none, takes-more, empty, each-split, known-each}
use Rattle.df_book.proofs.closing.BookOf+Said+Ruling.close.Goals as goal

pub absorb-requires : goal.absorb-requires
absorb-requires c = let i = c.loop-pass.invariant in let steps = c.in-Some.ensures.steps.0 in
    let at : c.loop-pass.seat.table_id ≡ c.args.self = i.4 ∙ ap (λ p. p.book) c.caller.view_is ∙ c.requires.book.0 in
    let P : Shard → Type 0 = λ p. p.book ≡ c.args.self in
    record { book = (at, each-mid P c.loop-pass.yielded c.in-Some.pass c.next.new.self.rest.items (subst (Each P) (sym i.2 ∙ ap (λ (l : List Shard). c.loop-pass.yielded ++ l) steps) c.requires.book.1)) }

pub loop-pass-init : goal.loop-pass-init
loop-pass-init c = (tt, tt, search rules, search rules, refl, c.caller.invariant.0, takes-none _)

pub loop-pass-preserved : goal.loop-pass-preserved
loop-pass-preserved c = let i = c.loop-pass.invariant in let steps = c.in-Some.ensures.steps.0 in let lens = c.in-Some.ensures.steps.1 in let a = c.absorb.ensures in let p = c.in-Some.pass in (
  tt,
  tt,
  regroup c.loop-pass.yielded p c.next.new.self.rest.items ∙ ap (λ (l : List Shard). c.loop-pass.yielded ++ l) (sym steps) ∙ i.2,
  omega (arith, i.3, lens, ap (λ (l : List Shard). length l) steps),
  a.book ∙ i.4,
  a.slots ∙ i.5,
  takes-more _ c.loop-pass.seat.me.0 _ c.loop-pass.yielded (p ∷ []) i.6 a.taken,
)

pub returns-clause-known : goal.returns-clause-known
returns-clause-known c = let i = c.loop-pass.invariant in
    let none-left : c.loop-pass.pass-iterator.rest.items ≡ [] = empty c.loop-pass.pass-iterator.rest.items (i.3 ∙ c.in-None.ensures.steps.0) in
    let all : c.loop-pass.yielded ≡ c.args.shards.items = sym (append-none c.loop-pass.yielded) ∙ ap (λ (l : List Shard). c.loop-pass.yielded ++ l) (sym none-left) ∙ i.2 in
    let e : c.seal.result ≡ closed_of c.loop-pass.seat.me.0 = c.seal.ensures.view in
    let known : Each (IsDraw c.loop-pass.seat.me.0.own) c.loop-pass.seat.me.0.known = c.seal.ensures.settled.known in
    let theirs = (each-split (IsDraw c.loop-pass.seat.me.0.own) _ (all_known c.loop-pass.yielded) (subst (Each (IsDraw c.loop-pass.seat.me.0.own)) i.6.known known)).1 in
    subst (λ (q : List Draw × List Shard). Each (λ (p : Shard). Each (IsDraw q.0) p.known) q.1) (λ j. (sym (ap (λ (b : Closed). b.draws) e) j, all j)) (known-each (IsDraw c.loop-pass.seat.me.0.own) c.loop-pass.yielded theirs)

pub returns-clause-seen : goal.returns-clause-seen
returns-clause-seen c = let i = c.loop-pass.invariant in
    let none-left : c.loop-pass.pass-iterator.rest.items ≡ [] = empty c.loop-pass.pass-iterator.rest.items (i.3 ∙ c.in-None.ensures.steps.0) in
    let all : c.loop-pass.yielded ≡ c.args.shards.items = sym (append-none c.loop-pass.yielded) ∙ ap (λ (l : List Shard). c.loop-pass.yielded ++ l) (sym none-left) ∙ i.2 in
    let e : closed_of c.loop-pass.seat.me.0 ≡ c.seal.result = sym c.seal.ensures.view in
    let before = subst (λ q. Within q c.loop-pass.seat.me.0.seen) (ap (λ p. p.seen) c.caller.view_is) i.6.before in
    (subst (λ (b : Closed). Within c.args.caller.seen b.logs) e before, subst (λ (q : Closed × List Shard). Each (λ (p : Shard). Within p.seen q.0.logs) q.1) (λ j. (e j, all j)) i.6.theirs)

pub returns-clause-whole : goal.returns-clause-whole
returns-clause-whole c = let i = c.loop-pass.invariant in
    let none-left : c.loop-pass.pass-iterator.rest.items ≡ [] = empty c.loop-pass.pass-iterator.rest.items (i.3 ∙ c.in-None.ensures.steps.0) in
    let all : c.loop-pass.yielded ≡ c.args.shards.items = sym (append-none c.loop-pass.yielded) ∙ ap (λ (l : List Shard). c.loop-pass.yielded ++ l) (sym none-left) ∙ i.2 in
    let e : closed_of c.loop-pass.seat.me.0 ≡ c.seal.result = sym c.seal.ensures.view in
    subst (λ (q : Closed × List Shard). Each (λ (p : Shard). at_log q.0.logs p.shard ≡ p.log) q.1) (λ j. (e j, all j))
    (Each-map (IsTaken c.loop-pass.seat.me.0) (λ (p : Shard). at_log c.loop-pass.seat.me.0.seen p.shard ≡ p.log) (λ p h. h.1) c.loop-pass.yielded i.6.taken)

pub returns-clause-sessions : goal.returns-clause-sessions
returns-clause-sessions c =
    let i = c.loop-pass.invariant in
    λ n. omega (arith, i.6.sessions n, c.seal.ensures.sessions n, ap (λ p. count n p.sessions) c.caller.view_is)
