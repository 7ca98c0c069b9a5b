use Rattle.std.proofs.Common.{◌≡◌, ◌+◌, ◌≤◌, length, get_or, set, refl, sym, ap, subst, ◌∙◌, arith, vec_len}
use Rattle.std.specs.List.{remove}
use Rattle.std.proofs.lemmas.List.{get_or-set_same, length-set}
use Rattle.std.proofs.lemmas.List.Edits.{length-remove}
use Rattle.df_colls.specs.Cuts.{flat, index_of, IsPlace}
use Rattle.df_colls.specs.Parts.{item_lists, spare_of, HasMore}
use Rattle.df_colls.proofs.PartLaws.{some_item, within_parts, got, with_less, with_none, less_count, remove-set, none_of, fits_at, more_len, most_len, sound-set, sound-without}
use Rattle.df_colls.proofs.RoomLaws.{spare-less, spare-without}
use Rattle.df_colls.proofs.SpotLaws.{relearned, went, few_lens}
use Rattle.df_colls.proofs.chunks.Chunks.remove.Goals as goal

pub overflow_sub-self : goal.overflow_sub-self
overflow_sub-self g c =
    let h = subst (λ v. IsPlace v.parts c.args.place) (sym c.self.view_is) c.requires in
    let some = some_item c.self.inside.parts.items c.args.place c.self.inside.len h c.self.invariant.0.count in
    omega (arith, some)

pub recount-requires-clause-fits : goal.recount-requires-clause-fits
recount-requires-clause-fits g c =
    let s = c.self.invariant.0 in
    few_lens c.self.inside.parts.items c.self.inside.sums.lens s.fits (omega (arith, s.few)) c.self.invariant.1.lens

-- ---- the chunk is empty then, and goes

pub invariant_of-self-2 : goal.invariant_of-self-2
invariant_of-self-2 g c =
    let s = c.self.invariant.0 in
    let p = c.args.place in
    let vs = c.self.inside.parts.items in
    let was = c.index_mut.result.now in
    let now = c.remove-item.new.self in
    let h = subst (λ v. IsPlace v.parts p) (sym c.self.view_is) c.requires in
    let lt = within_parts vs p.chunk h.0 in
    let empty : vec_len now ≡ 0 = subst (λ v. vec_len v ≡ 0) (c.index.ensures ∙ get_or-set_same vs p.chunk now _ lt) (omega arith) in
    let freed : HasMore c.self.inside.free.items c.give_back.new.free.items now = subst (HasMore c.self.inside.free.items c.give_back.new.free.items) (c.remove-chunk.ensures.value ∙ get_or-set_same vs p.chunk now _ lt) c.give_back.ensures in
    let all = ap (λ us. flat (item_lists us)) c.remove-chunk.ensures.items ∙ with_none vs p was now c.index_mut.ensures.value h c.remove-item.ensures.items (none_of now empty) in (
      sound-without c.self.inside.parts c.self.inside.free c.self.inside.len s p.chunk lt c.remove-chunk.new.self c.give_back.new.free _ was now c.index_mut.ensures.value (omega arith) empty
          (omega (arith, c.remove-item.ensures.capacity)) (c.remove-chunk.ensures.items ∙ remove-set vs p.chunk now lt) (omega (arith, c.remove-chunk.ensures.capacity)) freed
          (less_count vs c.remove-chunk.new.self.items p c.self.inside.len h s.count all),
      record {
        lens = went (set vs p.chunk now) c.remove-chunk.new.self.items p.chunk c.recount.new.sums.lens c.remove.new.self.lens c.remove-chunk.ensures.items
            (relearned vs (set vs p.chunk now) p.chunk now c.self.inside.sums.lens c.recount.new.sums.lens lt refl c.self.invariant.1.lens c.recount.ensures.lens) c.remove.ensures.lens;
        leaves =
            let less = ap (λ us. length us + 1) c.remove-chunk.ensures.items ∙ length-remove (set vs p.chunk now) p.chunk (omega (arith, lt, length-set vs p.chunk now)) in
            let more = most_len c.self.inside.free.items c.give_back.new.free.items now freed in
            omega (arith, c.self.invariant.1.leaves, c.recount.ensures.room, c.remove.ensures.room, less, more, length-set vs p.chunk now);
      },
    )

pub returns-clause-items : goal.returns-clause-items
returns-clause-items g c =
    let p = c.args.place in
    let vs = c.self.inside.parts.items in
    let was = c.index_mut.result.now in
    let now = c.remove-item.new.self in
    let h = subst (λ v. IsPlace v.parts p) (sym c.self.view_is) c.requires in
    let lt = within_parts vs p.chunk h.0 in
    let empty : vec_len now ≡ 0 = subst (λ v. vec_len v ≡ 0) (c.index.ensures ∙ get_or-set_same vs p.chunk now _ lt) (omega arith) in
    ap (λ us. flat (item_lists us)) c.remove-chunk.ensures.items ∙ with_none vs p was now c.index_mut.ensures.value h c.remove-item.ensures.items (none_of now empty)
    ∙ ap (λ v. remove (flat v.parts) (index_of v.parts p)) c.self.view_is

pub returns-clause-spare : goal.returns-clause-spare
returns-clause-spare g c =
    let p = c.args.place in
    let vs = c.self.inside.parts.items in
    let free = c.self.inside.free.items in
    let h = subst (λ v. IsPlace v.parts p) (sym c.self.view_is) c.requires in
    let lt = within_parts vs p.chunk h.0 in
    let less = spare-without vs free c.give_back.new.free.items p.chunk c.index_mut.result.now (omega arith) lt (more_len free c.give_back.new.free.items c.remove-chunk.result c.give_back.ensures) in
    subst (λ v. v.spare ≤ spare_of c.remove-chunk.new.self.items c.give_back.new.free.items) c.self.view_is
    (subst (λ us. spare_of vs free ≤ spare_of us c.give_back.new.free.items) (sym (c.remove-chunk.ensures.items ∙ remove-set vs p.chunk c.remove-item.new.self lt)) less)

pub returns-clause-old : goal.returns-clause-old
returns-clause-old g c =
    let x = c.remove-item.result in
    subst (λ v. IsPlace v.parts c.args.place → x ≡ get_or (flat v.parts) (index_of v.parts c.args.place) x) c.self.view_is
    (λ h. got c.self.inside.parts.items c.args.place c.index_mut.result.now c.index_mut.result.now c.index_mut.ensures.value x h c.remove-item.ensures.value) c.requires

-- ---- the first chunk, which stays

pub invariant_of-self : goal.invariant_of-self
invariant_of-self g c =
    let s = c.self.invariant.0 in
    let p = c.args.place in
    let vs = c.self.inside.parts.items in
    let was = c.index_mut.result.now in
    let now = c.remove-item.new.self in
    let h = subst (λ v. IsPlace v.parts p) (sym c.self.view_is) c.requires in
    let lt = within_parts vs p.chunk h.0 in
    let fits = fits_at vs p.chunk was lt c.index_mut.ensures.value s.fits in (
      sound-set c.self.inside.parts c.self.inside.free c.self.inside.len s p.chunk lt _ _ was now c.index_mut.ensures.value refl (omega arith) (omega (arith, c.remove-item.ensures.capacity))
          (omega (arith, fits, c.remove-item.ensures.len)) (λ some. absurd (omega arith))
          (less_count vs (set vs p.chunk now) p c.self.inside.len h s.count (with_less vs p was now c.index_mut.ensures.value h c.remove-item.ensures.items)),
      record {
        lens = relearned vs (set vs p.chunk now) p.chunk now c.self.inside.sums.lens c.recount.new.sums.lens lt refl c.self.invariant.1.lens c.recount.ensures.lens;
        leaves = omega (arith, c.self.invariant.1.leaves, c.recount.ensures.room, length-set vs p.chunk now);
      },
    )

pub returns-then-place-eq0-clause-items : goal.returns-then-place-eq0-clause-items
returns-then-place-eq0-clause-items g c =
    let p = c.args.place in
    let vs = c.self.inside.parts.items in
    let h = subst (λ v. IsPlace v.parts p) (sym c.self.view_is) c.requires in
    with_less vs p c.index_mut.result.now c.remove-item.new.self c.index_mut.ensures.value h c.remove-item.ensures.items
    ∙ ap (λ v. remove (flat v.parts) (index_of v.parts p)) c.self.view_is

pub returns-then-place-eq0-clause-spare : goal.returns-then-place-eq0-clause-spare
returns-then-place-eq0-clause-spare g c =
    let p = c.args.place in
    let vs = c.self.inside.parts.items in
    let h = subst (λ v. IsPlace v.parts p) (sym c.self.view_is) c.requires in
    subst (λ v. v.spare ≤ spare_of (set vs p.chunk c.remove-item.new.self) c.self.inside.free.items) c.self.view_is
    (spare-less vs c.self.inside.free.items p.chunk c.index_mut.result.now c.remove-item.new.self (within_parts vs p.chunk h.0) c.index_mut.ensures.value (omega (arith, c.remove-item.ensures.capacity)) (omega (arith, c.remove-item.ensures.len)))

pub returns-then-place-eq0-clause-old : goal.returns-then-place-eq0-clause-old
returns-then-place-eq0-clause-old g c =
    let x = c.remove-item.result in
    subst (λ v. IsPlace v.parts c.args.place → x ≡ get_or (flat v.parts) (index_of v.parts c.args.place) x) c.self.view_is
    (λ h. got c.self.inside.parts.items c.args.place c.index_mut.result.now c.index_mut.result.now c.index_mut.ensures.value x h c.remove-item.ensures.value) c.requires

-- ---- a chunk that isn't empty

pub invariant_of-self-then-len-gt0 : goal.invariant_of-self-then-len-gt0
invariant_of-self-then-len-gt0 g c =
    let s = c.self.invariant.0 in
    let p = c.args.place in
    let vs = c.self.inside.parts.items in
    let was = c.index_mut.result.now in
    let now = c.remove-item.new.self in
    let h = subst (λ v. IsPlace v.parts p) (sym c.self.view_is) c.requires in
    let lt = within_parts vs p.chunk h.0 in
    let fits = fits_at vs p.chunk was lt c.index_mut.ensures.value s.fits in
    let here : vec_len now ≡ vec_len c.index.result.now = ap (λ v. vec_len v) (sym (c.index.ensures ∙ get_or-set_same vs p.chunk now _ lt)) in (
      sound-set c.self.inside.parts c.self.inside.free c.self.inside.len s p.chunk lt _ _ was now c.index_mut.ensures.value refl (omega arith) (omega (arith, c.remove-item.ensures.capacity))
          (omega (arith, fits, c.remove-item.ensures.len)) (λ some. omega (arith, here))
          (less_count vs (set vs p.chunk now) p c.self.inside.len h s.count (with_less vs p was now c.index_mut.ensures.value h c.remove-item.ensures.items)),
      record {
        lens = relearned vs (set vs p.chunk now) p.chunk now c.self.inside.sums.lens c.recount.new.sums.lens lt refl c.self.invariant.1.lens c.recount.ensures.lens;
        leaves = omega (arith, c.self.invariant.1.leaves, c.recount.ensures.room, length-set vs p.chunk now);
      },
    )

pub returns-then-len-gt0-clause-items : goal.returns-then-len-gt0-clause-items
returns-then-len-gt0-clause-items g c =
    let p = c.args.place in
    let vs = c.self.inside.parts.items in
    let h = subst (λ v. IsPlace v.parts p) (sym c.self.view_is) c.requires in
    with_less vs p c.index_mut.result.now c.remove-item.new.self c.index_mut.ensures.value h c.remove-item.ensures.items
    ∙ ap (λ v. remove (flat v.parts) (index_of v.parts p)) c.self.view_is

pub returns-then-len-gt0-clause-spare : goal.returns-then-len-gt0-clause-spare
returns-then-len-gt0-clause-spare g c =
    let p = c.args.place in
    let vs = c.self.inside.parts.items in
    let h = subst (λ v. IsPlace v.parts p) (sym c.self.view_is) c.requires in
    subst (λ v. v.spare ≤ spare_of (set vs p.chunk c.remove-item.new.self) c.self.inside.free.items) c.self.view_is
    (spare-less vs c.self.inside.free.items p.chunk c.index_mut.result.now c.remove-item.new.self (within_parts vs p.chunk h.0) c.index_mut.ensures.value (omega (arith, c.remove-item.ensures.capacity)) (omega (arith, c.remove-item.ensures.len)))

pub returns-then-len-gt0-clause-old : goal.returns-then-len-gt0-clause-old
returns-then-len-gt0-clause-old g c =
    let x = c.remove-item.result in
    subst (λ v. IsPlace v.parts c.args.place → x ≡ get_or (flat v.parts) (index_of v.parts c.args.place) x) c.self.view_is
    (λ h. got c.self.inside.parts.items c.args.place c.index_mut.result.now c.index_mut.result.now c.index_mut.ensures.value x h c.remove-item.ensures.value) c.requires
