use Rattle.std.proofs.Common.{◌∙◌, ◌<◌, length, ap, sym, refl, subst, arith}
use Rattle.std.specs.Prelude.{map, set}
use Rattle.std.proofs.lemmas.List.{length-map, map-set}
use Rattle.df_post.specs.Postings.{Sent, shards_of}
use Rattle.df_post.specs.Ways.{WayView}
use Rattle.df_post.specs.Locals.{LocalView, posting_of}
use Rattle.df_post.proofs.RowLaws.{rows-go, way-mine}
use Rattle.df_post.proofs.local.LocalPostPost.send.Goals as goal

pub send-requires : goal.send-requires
send-requires c =
    let ways = c.self.inside.ways.items in
    let there : c.args.m.shard < length ways =
    omega (arith, subst (λ (x : LocalView). c.args.m.shard < shards_of (posting_of x)) (sym c.self.view_is) c.requires.there, length-map ways (λ (w : WayView). w.awaits)) in
    let mine = way-mine c.self.inside.book.value ways c.args.m.shard c.index_mut.result.now c.self.invariant there c.index_mut.ensures.value in
    record { mine = (sym mine.1, c.requires.book ∙ sym (mine.0 ∙ ap (λ (x : LocalView). x.book) c.self.view_is)) }

pub invariant_of-self : goal.invariant_of-self
invariant_of-self c =
    rows-go c.self.inside.book.value 0 c.self.inside.ways.items c.args.m.shard c.index_mut.result.now c.send.new.self c.self.invariant
    c.index_mut.ensures.value c.send.ensures.same.0 c.send.ensures.same.1

pub returns-in-Ok-clause-sent : goal.returns-in-Ok-clause-sent
returns-in-Ok-clause-sent c =
    let ways = c.self.inside.ways.items in
    subst (λ (x : LocalView). Sent (posting_of x) (record { book = c.self.inside.book.value; awaits = map (λ (w : WayView). w.awaits) (set ways c.args.m.shard c.send.new.self); stalls = c.self.inside.stalls }) c.args.m) c.self.view_is (record {
      book = refl;
      awaits = map-set (λ (w : WayView). w.awaits) ways c.args.m.shard c.send.new.self
          ∙ ap (set (map (λ (w : WayView). w.awaits) ways) c.args.m.shard) c.in-Ok.ensures.sent.awaits;
      stalls = omega arith;
    })
