use Rattle.std.proofs.Common.{◌≡◌, [], ◌<◌, ◌∙◌, sym, length, subst, ℕ, refl}
use Rattle.std.specs.Prelude.{slice_index}
use Rattle.df_model.specs.Hash.{fnv64}
use Rattle.df_segment.specs.Entries.{found}
use Rattle.df_segment.specs.Buckets.{entries_of}
use Rattle.df_dashtable.specs.Tables.{segment_at, directory_place}
use Rattle.df_dashtable.specs.declared.table.Spot.{Spot}
use Rattle.df_dashtable.proofs.OnceLaws.{found_own, own_within}
use Rattle.df_dashtable.proofs.SpotLaws.{has_at}
use Rattle.df_dashtable.proofs.table.DashTable.find.Goals as goal

pub returns-in-None-clause-none : goal.returns-in-None-clause-none
returns-in-None-clause-none g c =
    let is : c.named-s.result ≡ slice_index c.self.inside.directory.items (directory_place (fnv64 c.args.key.now) c.self.inside.depth) =
    c.named-s.ensures ∙ rw (c.as_slice.ensures.value, c.place_in-place.ensures.value, c.requires) refl in
    let none : found c.args.key.now (entries_of (segment_at c.self.inside.segments.items c.named-s.result)) ≡ [] = rw c.as_slice-2.ensures.value at c.in-None.ensures.none in
    rw (← c.self.view_is)
    (found_own c.self.inside.version c.self.inside.depth c.self.inside.directory.items c.self.inside.segments.items c.self.invariant.0 c.args.key.now
    ∙ subst (λ (k : ℕ). found c.args.key.now (entries_of (segment_at c.self.inside.segments.items k)) ≡ []) is none)

pub returns-in-Some-clause-has : goal.returns-in-Some-clause-has
returns-in-Some-clause-has g c = λ d.
    let is : c.named-s.result ≡ slice_index c.self.inside.directory.items (directory_place (fnv64 c.args.key.now) c.self.inside.depth) =
    c.named-s.ensures ∙ rw (c.as_slice.ensures.value, c.place_in-place.ensures.value, c.requires) refl in
    let within : c.named-s.result < length c.self.inside.segments.items =
    subst (λ (k : ℕ). k < length c.self.inside.segments.items) (sym is)
    (own_within c.self.inside.version c.self.inside.depth c.self.inside.directory.items c.self.inside.segments.items c.self.invariant.0 c.args.key.now) in
    let stands = rw c.as_slice-2.ensures.value at c.in-Some.ensures.some in
    let at : Spot = record { segment = c.named-s.result; place = c.in-Some.place } in
    rw (← c.self.view_is)
    (has_at c.self.inside.version c.self.inside.depth c.self.inside.directory.items c.self.inside.segments.items c.self.invariant.0
    at (within, (stands.0, stands.1.0)) c.args.key.now stands.1.1 d)
