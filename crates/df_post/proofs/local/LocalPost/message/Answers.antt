use Rattle.std.proofs.Common.{◌≡◌, ◌∙◌, ◌<◌, length, ap, sym, subst}
use Rattle.std.specs.Prelude.{set}
use Rattle.df_post.specs.Ways.{WayView}
use Rattle.df_post.specs.Locals.{LocalView, local_of, posting_of}
use Rattle.df_post.proofs.RowLaws.{if-some, posting-stays, rows-go, way-mine}
use Rattle.df_post.proofs.local.LocalPost.message.Goals as goal

pub invariant_of-self : goal.invariant_of-self
invariant_of-self c =
    rows-go c.self.inside.book.value 0 c.self.inside.ways.items c.args.shard c.index_mut.result.now c.message.new.self c.self.invariant
    c.index_mut.ensures.value c.message.ensures.same.0 c.message.ensures.same.1

pub returns-clause-message : goal.returns-clause-message
returns-clause-message c =
    let there = subst (λ (x : LocalView). c.args.shard < length x.ways) (sym c.self.view_is) c.requires.there in
    let mine = way-mine c.self.inside.book.value c.self.inside.ways.items c.args.shard c.index_mut.result.now c.self.invariant there c.index_mut.ensures.value in
    if-some c.message.result _ _ (λ m h. (h.0 ∙ mine.1, h.1 ∙ mine.0 ∙ ap (λ (x : LocalView). x.book) c.self.view_is)) c.message.ensures.message

pub returns-clause-posting : goal.returns-clause-posting
returns-clause-posting c =
    let p : LocalView = local_of c.self.inside in let s = c.args.shard in let new : WayView = c.message.new.self in
    subst (λ (x : LocalView). posting_of (record p { ways = set p.ways s new }) ≡ posting_of x) c.self.view_is
    (posting-stays p s c.index_mut.result.now new c.index_mut.ensures.value (ap (λ (w : WayView). w.awaits) c.message.ensures.after))
