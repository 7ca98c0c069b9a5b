use Rattle.std.proofs.Common.{◌≡◌, ◌∙◌, ◌<◌, length, ap, sym, subst}
use Rattle.std.specs.Prelude.{true, is_some, Some, None, get_or, set, OnOk}
use Rattle.std.proofs.lemmas.List.{get_or_default, get_or-set_same}
use Rattle.df_hops.specs.Shown.{book_shown}
use Rattle.df_post.specs.Ways.{WayView, fits_there}
use Rattle.df_post.specs.Locals.{LocalView, bare_way, local_of, posting_of, way_at}
use Rattle.df_post.proofs.RowLaws.{either-way, on-ok, posting-stays, rows-go, way-mine}
use Rattle.df_post.proofs.local.LocalPost.answer.Goals as goal

pub answer-requires : goal.answer-requires
answer-requires c =
    let there = subst (λ (x : LocalView). c.args.shard < length x.ways) (sym c.self.view_is) c.requires.there in
    let mine = way-mine c.self.inside.book.value c.self.inside.ways.items c.args.shard c.index_mut.result.now c.self.invariant there c.index_mut.ensures.value in
    record { book = subst (λ z. book_shown z c.args.answer.body ≡ z) (sym (mine.0 ∙ ap (λ (x : LocalView). x.book) c.self.view_is)) c.requires.book }

pub invariant_of-self : goal.invariant_of-self
invariant_of-self c =
    rows-go c.self.inside.book.value 0 c.self.inside.ways.items c.args.shard c.index_mut.result.now c.answer.new.self c.self.invariant
    c.index_mut.ensures.value c.answer.ensures.same.0 c.answer.ensures.same.1

pub returns-clause-put : goal.returns-clause-put
returns-clause-put c =
    let ways = c.self.inside.ways.items in let s = c.args.shard in let z = c.self.inside.book.value in let a = c.args.answer in
    let w : WayView = c.index_mut.result.now in let new : WayView = c.answer.new.self in
    let there : s < length ways = subst (λ (x : LocalView). s < length x.ways) (sym c.self.view_is) c.requires.there in
    let mine = way-mine z ways s w c.self.invariant there c.index_mut.ensures.value in
    let was : get_or ways s (bare_way z s) ≡ w = get_or_default ways s (bare_way z s) w there ∙ sym c.index_mut.ensures.value in
    let is : get_or (set ways s new) s (bare_way z s) ≡ new = get_or-set_same ways s new (bare_way z s) there in
    let after : LocalView = record { book = z; ways = set ways s new; stalls = c.self.inside.stalls } in
    subst (λ (x : LocalView). OnOk c.answer.result (((way_at s x).lies ≡ None) × (way_at s after ≡ record (way_at s x) { lies = Some (fits_there (way_at s x).awaits s a) })))
    c.self.view_is
    (on-ok c.answer.result _ _ (λ (h : (w.lies ≡ None) × (new ≡ record w { lies = Some (fits_there w.awaits w.shard a) })). (
      ap (λ (v : WayView). v.lies) was ∙ h.0,
      is ∙ h.1 ∙ ap (λ i. record w { lies = Some (fits_there w.awaits i a) }) mine.1 ∙ ap (λ (v : WayView). record v { lies = Some (fits_there v.awaits s a) }) (sym was),
    ))
    c.answer.ensures.put)

pub returns-clause-posting : goal.returns-clause-posting
returns-clause-posting c =
    let p : LocalView = local_of c.self.inside in let s = c.args.shard in let a = c.args.answer in
    let w : WayView = c.index_mut.result.now in let new : WayView = c.answer.new.self in
    let same : new.awaits ≡ w.awaits =
    either-way c.answer.result _ _ (new.awaits ≡ w.awaits)
    (λ (h : (w.lies ≡ None) × (new ≡ record w { lies = Some (fits_there w.awaits w.shard a) })). ap (λ (v : WayView). v.awaits) h.1)
    (λ (h : (is_some w.lies ≡ true) × (new ≡ w)). ap (λ (v : WayView). v.awaits) h.1)
    c.answer.ensures.put c.answer.ensures.full in
    subst (λ (x : LocalView). posting_of (record p { ways = set p.ways s new }) ≡ posting_of x) c.self.view_is
    (posting-stays p s w new c.index_mut.ensures.value same)
