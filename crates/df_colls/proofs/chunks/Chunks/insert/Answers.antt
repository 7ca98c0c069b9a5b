use Rattle.std.proofs.Common.{◌≡◌, ◌+◌, ◌<◌, ◌≤◌, length, set, refl, sym, ap, subst, ◌∙◌, arith, vec_len, vec_capacity}
use Rattle.std.specs.List.{All, insert}
use Rattle.std.proofs.lemmas.List.{get_or_default, length_push, length-set}
use Rattle.std.proofs.lemmas.List.Edits.{length-insert}
use Rattle.std.proofs.lemmas.List.Elements.{All-set}
use Rattle.df_colls.specs.declared.chunks.TheConstants.{FULL}
use Rattle.df_colls.specs.Cuts.{flat, index_of}
use Rattle.df_colls.specs.Parts.{item_lists, spare_of, IsFree}
use Rattle.df_colls.proofs.PartLaws.{few_items, gap_of, gap_within, within_parts, with_new, with_halves, new_count, last_free, fits_at, sound-set, sound-split}
use Rattle.df_colls.proofs.RoomLaws.{some_free, spare-set, spare-split}
use Rattle.df_colls.proofs.SpotLaws.{relearned, parted_lens, parted_short, came, few_lens}
use Rattle.df_colls.proofs.chunks.Chunks.insert.Goals as goal

pub overflow_add-self : goal.overflow_add-self
overflow_add-self g c =
    let few = few_items c.self.inside.parts c.self.inside.free c.self.inside.len c.self.invariant.0 in
    omega (arith, few)

-- ---- into a chunk that isn't full

pub invariant_of-self : goal.invariant_of-self
invariant_of-self g c =
    let s = c.self.invariant.0 in
    let p = c.args.place in
    let vs = c.self.inside.parts.items in
    let was = c.index_mut.result.now in
    let is = c.index_mut.ensures.value in
    let h = gap_of vs c.self.inside.free.items p c.args.self.now c.self.view_is s.some c.requires.spare c.requires.place in
    let lt = within_parts vs p.chunk h.0 in
    let same : c.index.result.now ≡ was = c.index.ensures ∙ get_or_default vs p.chunk c.index.result.now was lt ∙ sym is in
    let low : vec_len was < FULL = subst (λ v. vec_len v < FULL) same (omega arith) in (
      sound-set c.self.inside.parts c.self.inside.free c.self.inside.len s p.chunk lt _ _ was c.add.new.chunk is refl (omega arith) c.add.ensures.capacity
          (omega (arith, low, c.add.ensures.len)) (λ _. omega (arith, c.add.ensures.len))
          (new_count vs (set vs p.chunk c.add.new.chunk) p c.args.item _ h s.count (with_new vs p was c.add.new.chunk is c.args.item h c.add.ensures.items)),
      record {
        lens = relearned vs (set vs p.chunk c.add.new.chunk) p.chunk c.add.new.chunk c.self.inside.sums.lens c.recount.new.sums.lens lt refl c.self.invariant.1.lens c.recount.ensures.lens;
        leaves = omega (arith, c.self.invariant.1.leaves, c.recount.ensures.room, length-set vs p.chunk c.add.new.chunk);
      },
    )

pub recount-requires-clause-fits : goal.recount-requires-clause-fits
recount-requires-clause-fits g c =
    let s = c.self.invariant.0 in
    few_lens c.self.inside.parts.items c.self.inside.sums.lens s.fits (omega (arith, s.few)) c.self.invariant.1.lens

pub returns-then-len-lt-FULL-clause-items : goal.returns-then-len-lt-FULL-clause-items
returns-then-len-lt-FULL-clause-items g c =
    let p = c.args.place in
    let vs = c.self.inside.parts.items in
    let h = gap_of vs c.self.inside.free.items p c.args.self.now c.self.view_is c.self.invariant.0.some c.requires.spare c.requires.place in
    with_new vs p c.index_mut.result.now c.add.new.chunk c.index_mut.ensures.value c.args.item h c.add.ensures.items
    ∙ ap (λ v. insert (flat v.parts) (index_of v.parts p) c.args.item) c.self.view_is

pub returns-then-len-lt-FULL-clause-room : goal.returns-then-len-lt-FULL-clause-room
returns-then-len-lt-FULL-clause-room g c =
    let p = c.args.place in
    let vs = c.self.inside.parts.items in
    let h = gap_of vs c.self.inside.free.items p c.args.self.now c.self.view_is c.self.invariant.0.some c.requires.spare c.requires.place in
    subst (λ v. v.spare ≤ spare_of (set vs p.chunk c.add.new.chunk) c.self.inside.free.items + 1) c.self.view_is
    (spare-set vs c.self.inside.free.items p.chunk c.index_mut.result.now c.add.new.chunk (within_parts vs p.chunk h.0) c.index_mut.ensures.value c.add.ensures.capacity (omega (arith, c.add.ensures.len)))

-- ---- a full chunk is split

pub split_with-requires-clause-full : goal.split_with-requires-clause-full
split_with-requires-clause-full g c = λ d is.
    let s = c.self.invariant.0 in
    let p = c.args.place in
    let vs = c.self.inside.parts.items in
    let free = c.self.inside.free.items in
    let h = gap_of vs free p c.args.self.now c.self.view_is s.some c.requires.spare c.requires.place in
    let lt = within_parts vs p.chunk h.0 in
    let same : c.index.result.now ≡ d = c.index.ensures ∙ get_or_default vs p.chunk c.index.result.now d lt ∙ sym is in
    let full : FULL ≤ vec_len d = subst (λ v. FULL ≤ vec_len v) same (omega arith) in
    let fits = fits_at vs p.chunk d lt is s.fits in
    let some = some_free vs free p.chunk d lt is full (subst (λ v. 0 < v.spare) (sym c.self.view_is) c.requires.spare) in
    let wide : FULL ≤ vec_capacity d = subst (λ v. FULL ≤ vec_capacity v) (sym is) (s.wide (omega (arith, some, lt)) p.chunk d lt) in
    let at = gap_within vs p d is h in
    (omega (arith, full, fits), wide, omega (arith, at, fits))

pub split_with-requires-clause-empty : goal.split_with-requires-clause-empty
split_with-requires-clause-empty g c = last_free c.pop.new.self.items c.in-Some.chunk (subst (All IsFree) c.in-Some.ensures.items c.self.invariant.0.empty)

pub recount-requires-else-len-lt-FULL-clause-fits : goal.recount-requires-else-len-lt-FULL-clause-fits
recount-requires-else-len-lt-FULL-clause-fits g c =
    let s = c.self.invariant.0 in
    few_lens c.self.inside.parts.items c.self.inside.sums.lens s.fits (omega (arith, s.few)) c.self.invariant.1.lens

pub recount-requires-else-len-lt-FULL-clause-short : goal.recount-requires-else-len-lt-FULL-clause-short
recount-requires-else-len-lt-FULL-clause-short g c =
    let t = c.split_with.ensures.split in
    parted_short c.self.inside.parts.items c.split_with.new.parts.items c.args.place.chunk t.low t.high t.new_is c.self.invariant.0.fits t.halves.low_len.1 t.halves.high_len.1

pub count_new-requires-clause-short : goal.count_new-requires-clause-short
count_new-requires-clause-short g c =
    let t = c.split_with.ensures.split in
    parted_short c.self.inside.parts.items c.split_with.new.parts.items c.args.place.chunk t.low t.high t.new_is c.self.invariant.0.fits t.halves.low_len.1 t.halves.high_len.1

pub count_new-requires-clause-fits : goal.count_new-requires-clause-fits
count_new-requires-clause-fits g c =
    let s = c.self.invariant.0 in
    let p = c.args.place in
    let vs = c.self.inside.parts.items in
    let t = c.split_with.ensures.split in
    let h = gap_of vs c.self.inside.free.items p c.args.self.now c.self.view_is s.some c.requires.spare c.requires.place in
    let lt = within_parts vs p.chunk h.0 in
    few_lens (set vs p.chunk t.low) c.recount-else-len-lt-FULL.new.sums.lens (All-set (λ v. vec_len v ≤ FULL) vs p.chunk t.low t.halves.low_len.1 s.fits) (omega (arith, s.few, length-set vs p.chunk t.low))
    (parted_lens vs c.split_with.new.parts.items p.chunk t.low t.high c.self.inside.sums.lens c.recount-else-len-lt-FULL.new.sums.lens lt t.new_is c.self.invariant.1.lens c.recount-else-len-lt-FULL.ensures.lens)

pub invariant_of-self-else-len-lt-FULL : goal.invariant_of-self-else-len-lt-FULL
invariant_of-self-else-len-lt-FULL g c =
    let s = c.self.invariant.0 in
    let p = c.args.place in
    let vs = c.self.inside.parts.items in
    let t = c.split_with.ensures.split in
    let h = gap_of vs c.self.inside.free.items p c.args.self.now c.self.view_is s.some c.requires.spare c.requires.place in
    let lt = within_parts vs p.chunk h.0 in
    let all = ap (λ us. flat (item_lists us)) t.new_is ∙ with_halves vs p t.was t.low t.was_is t.high c.args.item h t.halves.items in (
      sound-split c.self.inside.parts c.self.inside.free c.self.inside.len s p.chunk lt _ c.pop.new.self _ t.low t.high c.in-Some.chunk _ t.new_is c.split_with.ensures.capacity c.in-Some.ensures.items t.halves
          (new_count vs c.split_with.new.parts.items p c.args.item _ h s.count all),
      record {
        lens = came (set vs p.chunk t.low) c.split_with.new.parts.items (p.chunk + 1) t.high c.recount-else-len-lt-FULL.new.sums.lens c.count_new.new.sums.lens (omega (arith, lt, length-set vs p.chunk t.low)) t.new_is
            (parted_lens vs c.split_with.new.parts.items p.chunk t.low t.high c.self.inside.sums.lens c.recount-else-len-lt-FULL.new.sums.lens lt t.new_is c.self.invariant.1.lens c.recount-else-len-lt-FULL.ensures.lens) c.count_new.ensures.lens;
        leaves =
            let more = ap length t.new_is ∙ length-insert (set vs p.chunk t.low) (p.chunk + 1) t.high (omega (arith, lt, length-set vs p.chunk t.low)) in
            let fewer = ap length c.in-Some.ensures.items ∙ length_push c.pop.new.self.items c.in-Some.chunk in
            omega (arith, c.self.invariant.1.leaves, c.recount-else-len-lt-FULL.ensures.room, c.count_new.ensures.room, more, fewer, length-set vs p.chunk t.low);
      },
    )

pub returns-in-Some-clause-items : goal.returns-in-Some-clause-items
returns-in-Some-clause-items g c =
    let p = c.args.place in
    let vs = c.self.inside.parts.items in
    let t = c.split_with.ensures.split in
    let h = gap_of vs c.self.inside.free.items p c.args.self.now c.self.view_is c.self.invariant.0.some c.requires.spare c.requires.place in
    ap (λ us. flat (item_lists us)) t.new_is ∙ with_halves vs p t.was t.low t.was_is t.high c.args.item h t.halves.items
    ∙ ap (λ v. insert (flat v.parts) (index_of v.parts p) c.args.item) c.self.view_is

pub returns-in-Some-clause-room : goal.returns-in-Some-clause-room
returns-in-Some-clause-room g c =
    let s = c.self.invariant.0 in
    let p = c.args.place in
    let vs = c.self.inside.parts.items in
    let free = c.self.inside.free.items in
    let t = c.split_with.ensures.split in
    let h = gap_of vs free p c.args.self.now c.self.view_is s.some c.requires.spare c.requires.place in
    let lt = within_parts vs p.chunk h.0 in
    let same : c.index.result.now ≡ t.was = c.index.ensures ∙ get_or_default vs p.chunk c.index.result.now t.was lt ∙ sym t.was_is in
    let full : FULL ≤ vec_len t.was = subst (λ v. FULL ≤ vec_len v) same (omega arith) in
    let fits = fits_at vs p.chunk t.was lt t.was_is s.fits in
    let fewer : length free ≡ length c.pop.new.self.items + 1 = ap length c.in-Some.ensures.items ∙ length_push c.pop.new.self.items c.in-Some.chunk in
    subst (λ v. v.spare ≤ spare_of c.split_with.new.parts.items c.pop.new.self.items + 1) c.self.view_is
    (subst (λ us. spare_of vs free ≤ spare_of us c.pop.new.self.items + 1) (sym t.new_is)
    (spare-split vs free c.pop.new.self.items p.chunk t.was t.low t.high lt t.was_is (omega (arith, full, fits)) fewer t.halves.lens t.halves.low_len.0 t.halves.high_len.0))
