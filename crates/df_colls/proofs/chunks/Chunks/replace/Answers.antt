use Rattle.std.proofs.Common.{◌≡◌, ◌<◌, get_or, set, length, refl, sym, ap, subst, ◌∙◌, arith}
use Rattle.std.proofs.lemmas.List.{length-map, length-set}
use Rattle.std.specs.Vec.{with_item}
use Rattle.df_colls.specs.Cuts.{flat, index_of, IsPlace}
use Rattle.df_colls.specs.Parts.{item_lists}
use Rattle.df_colls.proofs.PartLaws.{got, with_other, sound-set, fits_at, filled_at}
use Rattle.df_colls.proofs.RoomLaws.{spare-same}
use Rattle.df_colls.proofs.SpotLaws.{same_lens}
use Rattle.df_colls.proofs.chunks.Chunks.replace.Goals as goal

pub invariant_of-self : goal.invariant_of-self
invariant_of-self g c =
    let s = c.self.invariant.0 in
    let vs = c.self.inside.parts.items in
    let i = c.args.place.chunk in
    let was = c.index_mut-chunk.result.now in
    let h : IsPlace (item_lists vs) c.args.place = subst (λ v. IsPlace v.parts c.args.place) (sym c.self.view_is) c.requires in
    let lt : i < length vs = omega (arith, h.0, length-map vs (λ v. v.items)) in
    let now = with_item was c.args.place.at c.replace.new.dest in
    let same = with_other vs c.args.place was now c.index_mut-chunk.ensures.value c.replace.new.dest h refl in (
      sound-set c.self.inside.parts c.self.inside.free c.self.inside.len s i lt _ c.self.inside.len was now c.index_mut-chunk.ensures.value refl (omega arith) (omega arith)
          (fits_at vs i was lt c.index_mut-chunk.ensures.value s.fits) (filled_at vs i was lt c.index_mut-chunk.ensures.value s.filled)
          (s.count ∙ sym (ap length same ∙ length-set (flat (item_lists vs)) _ c.replace.new.dest)),
      record {
        lens = c.self.invariant.1.lens ∙ sym (same_lens vs i was now lt c.index_mut-chunk.ensures.value refl);
        leaves = omega (arith, c.self.invariant.1.leaves, length-set vs i now);
      },
    )

pub returns-clause-items : goal.returns-clause-items
returns-clause-items g c =
    let vs = c.self.inside.parts.items in
    let was = c.index_mut-chunk.result.now in
    subst (λ v. IsPlace v.parts c.args.place → flat (item_lists (set vs c.args.place.chunk (with_item was c.args.place.at c.replace.new.dest))) ≡ set (flat v.parts) (index_of v.parts c.args.place) c.args.item) c.self.view_is
    (λ h. with_other vs c.args.place was (with_item was c.args.place.at c.replace.new.dest) c.index_mut-chunk.ensures.value c.args.item h (ap (set was.items c.args.place.at) c.replace.ensures.after)) c.requires

pub returns-clause-old : goal.returns-clause-old
returns-clause-old g c =
    let vs = c.self.inside.parts.items in
    let was = c.index_mut-chunk.result.now in
    let x = c.replace.result in
    let e = c.replace.ensures.value in
    subst (λ v. IsPlace v.parts c.args.place → x ≡ get_or (flat v.parts) (index_of v.parts c.args.place) x) c.self.view_is
    (λ h. got vs c.args.place was was c.index_mut-chunk.ensures.value x h (e ∙ c.index_mut.ensures.value ∙ ap (get_or was.items c.args.place.at) (sym e))) c.requires

pub returns-clause-spare : goal.returns-clause-spare
returns-clause-spare g c =
    let vs = c.self.inside.parts.items in
    let was = c.index_mut-chunk.result.now in
    let h : IsPlace (item_lists vs) c.args.place = subst (λ v. IsPlace v.parts c.args.place) (sym c.self.view_is) c.requires in
    let lt : c.args.place.chunk < length vs = omega (arith, h.0, length-map vs (λ v. v.items)) in
    spare-same vs c.self.inside.free.items c.args.place.chunk was (with_item was c.args.place.at c.replace.new.dest) lt c.index_mut-chunk.ensures.value refl refl
    ∙ ap (λ v. v.spare) c.self.view_is
