use Rattle.std.proofs.Common.{◌≡◌, ℕ, List, [], ◌∷◌, true, refl, sym, ap, ◌∙◌, arith, subst}
use Rattle.std.specs.List.{flat_map}
use Rattle.std.specs.Prelude.{slice_index, slice_set}
use Rattle.std.proofs.lemmas.List.{get_or-set_same}
use Rattle.df_model.specs.Hash.{fnv64}
use Rattle.df_segment.specs.Entries.{Slot, found}
use Rattle.df_segment.specs.Buckets.{Segment, entries_of}
use Rattle.df_segment.proofs.SoundLaws.{other_key}
use Rattle.df_dashtable.specs.Tables.{IsFirstOf, no_segment, segment_at, directory_place}
use Rattle.df_dashtable.proofs.OnceLaws.{found_own, own_within}
use Rattle.df_dashtable.proofs.TouchLaws.{edited_table, edited_changes, edited_older}
use Rattle.df_dashtable.proofs.PutLaws.{put_stage}
use Rattle.df_dashtable.proofs.StepLaws.{edited_newer, edited_first}
use Rattle.df_dashtable.proofs.CountLaws.{staged_counted}
use Rattle.df_dashtable.proofs.table.DashTable.stage_at.Goals as goal

pub stage_in-requires-clause-segment : goal.stage_in-requires-clause-segment
stage_in-requires-clause-segment g c =
    let is : c.args.s ≡ slice_index c.self.inside.directory.items (directory_place (fnv64 c.args.key) c.self.inside.depth) =
    (rw (← c.self.view_is) at c.requires.own) ∙ ap (λ (h : ℕ). slice_index c.self.inside.directory.items (directory_place h c.self.inside.depth)) c.requires.hash in
    let w = own_within c.self.inside.version c.self.inside.depth c.self.inside.directory.items c.self.inside.segments.items c.self.invariant.0 c.args.key in
    omega arith

pub stage_in-requires-clause-absent : goal.stage_in-requires-clause-absent
stage_in-requires-clause-absent g c =
    let is : c.args.s ≡ slice_index c.self.inside.directory.items (directory_place (fnv64 c.args.key) c.self.inside.depth) =
    (rw (← c.self.view_is) at c.requires.own) ∙ ap (λ (h : ℕ). slice_index c.self.inside.directory.items (directory_place h c.self.inside.depth)) c.requires.hash in
    let none : found c.args.key (flat_map entries_of c.self.inside.segments.items) ≡ [] = rw (← c.self.view_is) at c.requires.absent in
    subst (λ (k : ℕ). found c.args.key (entries_of (segment_at c.self.inside.segments.items k)) ≡ []) (sym is)
    (sym (found_own c.self.inside.version c.self.inside.depth c.self.inside.directory.items c.self.inside.segments.items c.self.invariant.0 c.args.key) ∙ none)

pub invariant_of-self-2 : goal.invariant_of-self-2
invariant_of-self-2 g c =
    let is : c.args.s ≡ slice_index c.self.inside.directory.items (directory_place (fnv64 c.args.key) c.self.inside.depth) =
    (rw (← c.self.view_is) at c.requires.own) ∙ ap (λ (h : ℕ). slice_index c.self.inside.directory.items (directory_place h c.self.inside.depth)) c.requires.hash in
    let w = own_within c.self.inside.version c.self.inside.depth c.self.inside.directory.items c.self.inside.segments.items c.self.invariant.0 c.args.key in
    let room = (rw (← c.self.view_is) at c.requires.room).room in
    let e : Slot g.row.V.Denot = record { key = c.args.key; value = c.args.value; staged = true } in
    let r = c.in_ok-place.ensures.ok in
    let change = edited_changes c.self.inside.segments.items c.args.s c.args.b r.segment [] (e ∷ []) (omega arith) room.within r.edits in
    rw r.new_is (
      edited_table c.self.inside.version c.self.inside.depth c.self.inside.directory.items c.self.inside.segments.items c.self.invariant.0
          c.args.s c.args.b (omega arith) room.within r.segment [] (e ∷ []) r.edits
          (λ key n. other_key e key (λ same. n (is ∙ ap (λ (k : List ℕ). slice_index c.self.inside.directory.items (directory_place (fnv64 k) c.self.inside.depth)) same))) (λ o. absurd (let n = rw (← c.self.view_is) at c.requires.newer in omega arith)) r.once,
      (c.self.invariant.1.0, staged_counted c.self.inside.len c.self.inside.staged c.self.inside.segments.items (slice_set c.self.inside.segments.items c.args.s r.segment) e c.self.invariant.1.1 refl change (let f = c.self.invariant.1.1.fits in omega arith)),
    )

pub returns-clause-ok : goal.returns-clause-ok
returns-clause-ok g c = λ key.
    let is : c.args.s ≡ slice_index c.self.inside.directory.items (directory_place (fnv64 c.args.key) c.self.inside.depth) =
    (rw (← c.self.view_is) at c.requires.own) ∙ ap (λ (h : ℕ). slice_index c.self.inside.directory.items (directory_place h c.self.inside.depth)) c.requires.hash in
    let w = own_within c.self.inside.version c.self.inside.depth c.self.inside.directory.items c.self.inside.segments.items c.self.invariant.0 c.args.key in
    let room = (rw (← c.self.view_is) at c.requires.room).room in
    let none : found c.args.key (flat_map entries_of c.self.inside.segments.items) ≡ [] = rw (← c.self.view_is) at c.requires.absent in
    let e : Slot g.row.V.Denot = record { key = c.args.key; value = c.args.value; staged = true } in
    let r = c.in_ok-place.ensures.ok in
    rw (← c.self.view_is, r.new_is)
    (put_stage _ _ e (edited_changes c.self.inside.segments.items c.args.s c.args.b r.segment [] (e ∷ []) (omega arith) room.within r.edits) none key)

pub returns-clause-older : goal.returns-clause-older
returns-clause-older g c =
    let is : c.args.s ≡ slice_index c.self.inside.directory.items (directory_place (fnv64 c.args.key) c.self.inside.depth) =
    (rw (← c.self.view_is) at c.requires.own) ∙ ap (λ (h : ℕ). slice_index c.self.inside.directory.items (directory_place h c.self.inside.depth)) c.requires.hash in
    let w = own_within c.self.inside.version c.self.inside.depth c.self.inside.directory.items c.self.inside.segments.items c.self.invariant.0 c.args.key in
    let room = (rw (← c.self.view_is) at c.requires.room).room in
    let n = rw (← c.self.view_is) at c.requires.newer in
    let e : Slot g.row.V.Denot = record { key = c.args.key; value = c.args.value; staged = true } in
    let r = c.in_ok-place.ensures.ok in
    rw (← c.self.view_is, r.new_is)
    (edited_older c.self.inside.version c.self.inside.segments.items c.args.s c.args.b r.segment [] (e ∷ []) (omega arith) room.within r.edits n)

pub returns-clause-newer : goal.returns-clause-newer
returns-clause-newer g c =
    let is : c.args.s ≡ slice_index c.self.inside.directory.items (directory_place (fnv64 c.args.key) c.self.inside.depth) =
    (rw (← c.self.view_is) at c.requires.own) ∙ ap (λ (h : ℕ). slice_index c.self.inside.directory.items (directory_place h c.self.inside.depth)) c.requires.hash in
    let w = own_within c.self.inside.version c.self.inside.depth c.self.inside.directory.items c.self.inside.segments.items c.self.invariant.0 c.args.key in
    let room = (rw (← c.self.view_is) at c.requires.room).room in
    let n = rw (← c.self.view_is) at c.requires.newer in
    let e : Slot g.row.V.Denot = record { key = c.args.key; value = c.args.value; staged = true } in
    let r = c.in_ok-place.ensures.ok in
    rw (r.new_is, c.in_ok-place.ensures.place)
    (edited_newer c.self.inside.version c.self.inside.segments.items c.args.s c.args.b r.segment [] (e ∷ []) (omega arith) room.within r.edits n)

pub returns-clause-first : goal.returns-clause-first
returns-clause-first g c =
    let is : c.args.s ≡ slice_index c.self.inside.directory.items (directory_place (fnv64 c.args.key) c.self.inside.depth) =
    (rw (← c.self.view_is) at c.requires.own) ∙ ap (λ (h : ℕ). slice_index c.self.inside.directory.items (directory_place h c.self.inside.depth)) c.requires.hash in
    let w = own_within c.self.inside.version c.self.inside.depth c.self.inside.directory.items c.self.inside.segments.items c.self.invariant.0 c.args.key in
    let first = rw (← c.self.view_is) at c.requires.room in
    let e : Slot g.row.V.Denot = record { key = c.args.key; value = c.args.value; staged = true } in
    let r = c.in_ok-place.ensures.ok in
    rw (r.new_is, c.in_ok-place.ensures.place)
    (subst (λ (x : Segment g.row.V.Denot). IsFirstOf x c.args.hash c.args.b) (sym (get_or-set_same c.self.inside.segments.items c.args.s r.segment no_segment (omega arith)))
    (edited_first (segment_at c.self.inside.segments.items c.args.s) r.segment c.args.hash c.args.b [] (e ∷ []) r.edits first))
