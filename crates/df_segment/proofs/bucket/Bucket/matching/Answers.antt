use Rattle.std.proofs.Common.{◌≡◌, ◌<◌, length, slice_index, ap, sym, ◌∙◌, arith, eq-eqb}
use Rattle.df_segment.specs.Entries.{Slot, entry_of, flag_at, tag_of}
use Rattle.df_segment.specs.Buckets.{Bucket}
use Rattle.df_segment.proofs.SlotLaws.{slots_length, slot_at}
use Rattle.df_segment.proofs.bucket.Bucket.matching.Goals as goal

pub returns-clause-within : goal.returns-clause-within
returns-clause-within g c = λ k h.
    let o = c.of_first.ensures.no_more k h in
    let l = slots_length (flag_at c.self.inside.staged) c.self.inside.entries.items in
    let v = ap (λ (b : Bucket g.row.V.Denot). length b.entries) c.self.view_is in
    let few = c.self.invariant.few in
    omega arith

pub returns-clause-all : goal.returns-clause-all
returns-clause-all g c = λ k d w h.
    let es = c.self.inside.entries.items in
    let f = flag_at c.self.inside.staged in
    let l = slots_length f es in
    let v = ap (λ (b : Bucket g.row.V.Denot). length b.entries) c.self.view_is in
    let few = c.self.invariant.few in
    let inside : k < length es = omega arith in
    let own = rw (← c.self.view_is) at h in
    let t : slice_index c.self.inside.tags k ≡ c.args.tag =
    c.self.invariant.agree k (entry_of d) inside ∙ ap (λ (x : Slot g.row.V.Denot). tag_of x.key) (sym (slot_at f es k d (entry_of d) inside)) ∙ own in
    c.of_first.ensures.kept k (omega arith) ∙ c.same_tags.ensures k (omega arith) ∙ eq-eqb (slice_index c.self.inside.tags k) c.args.tag t
