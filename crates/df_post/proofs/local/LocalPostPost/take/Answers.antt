use Rattle.std.proofs.Common.{◌≡◌, ◌∙◌, ◌<◌, length, ap, sym, refl, subst, arith}
use Rattle.std.specs.Prelude.{is_some, map, set, true}
use Rattle.std.proofs.lemmas.List.{map-set}
use Rattle.df_hops.specs.Shown.{book_shown}
use Rattle.df_post.specs.Fits.{fits}
use Rattle.df_post.specs.Postings.{Stalled, Took, awaits_at}
use Rattle.df_post.specs.Ways.{WayView}
use Rattle.df_post.specs.Locals.{LocalView, posting_of}
use Rattle.df_post.proofs.RowLaws.{awaits-stay, awaits-there, rows-go, way-mine, some-there}
use Rattle.df_post.proofs.local.LocalPostPost.take.Goals as goal

pub invariant_of-self : goal.invariant_of-self
invariant_of-self c =
    rows-go c.self.inside.book.value 0 c.self.inside.ways.items c.args.shard c.index_mut.result.now c.take.new.self c.self.invariant
    c.index_mut.ensures.value c.take.ensures.same.0 c.take.ensures.same.1

pub invariant_of-self-in-None : goal.invariant_of-self-in-None
invariant_of-self-in-None c =
    rows-go c.self.inside.book.value 0 c.self.inside.ways.items c.args.shard c.index_mut.result.now c.take.new.self c.self.invariant
    c.index_mut.ensures.value c.take.ensures.same.0 c.take.ensures.same.1

pub returns-in-Some-clause-took : goal.returns-in-Some-clause-took
returns-in-Some-clause-took c =
    let ways = c.self.inside.ways.items in let s = c.args.shard in let z = c.self.inside.book.value in
    let there : s < length ways = some-there ways s (subst (λ (x : LocalView). is_some (awaits_at s (posting_of x)) ≡ true) (sym c.self.view_is) c.requires.awaits) in
    let mine = way-mine z ways s c.index_mut.result.now c.self.invariant there c.index_mut.ensures.value in
    let t = c.in-Some.ensures.took in
    subst (λ (x : LocalView). Took (posting_of x) (record { book = z; awaits = map (λ (w : WayView). w.awaits) (set ways s c.take.new.self); stalls = c.self.inside.stalls }) s c.in-Some.answer) c.self.view_is (record {
      awaited = t.awaited;
      was = awaits-there ways s c.index_mut.result.now there c.index_mut.ensures.value ∙ t.was;
      fit = subst (λ i. fits t.awaited i c.in-Some.answer ≡ true) mine.1 t.fit;
      shown = subst (λ y. book_shown y c.in-Some.answer.body ≡ y) mine.0 t.shown;
      book = refl;
      awaits = map-set (λ (w : WayView). w.awaits) ways s c.take.new.self ∙ ap (λ (w : WayView). set (map (λ (v : WayView). v.awaits) ways) s w.awaits) t.after;
      stalls = omega arith;
    })

pub returns-in-None-clause-none : goal.returns-in-None-clause-none
returns-in-None-clause-none c =
    let ways = c.self.inside.ways.items in let s = c.args.shard in
    let same = awaits-stay ways s c.index_mut.result.now c.take.new.self c.index_mut.ensures.value (ap (λ (w : WayView). w.awaits) c.in-None.ensures.none) in
    let st = c.stall.ensures.stalled in
    subst (λ (x : LocalView). Stalled (posting_of x) (posting_of c.stall.new.self)) c.self.view_is (record { book = st.book; awaits = st.awaits ∙ same; rose = st.rose })
