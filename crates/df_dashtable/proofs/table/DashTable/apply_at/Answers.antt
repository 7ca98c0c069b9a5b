use Rattle.std.proofs.Common.{[], ◌∷◌, refl, arith}
use Rattle.std.specs.Prelude.{slice_set}
use Rattle.std.specs.List.{flat_map}
use Rattle.df_segment.specs.Entries.{shown}
use Rattle.df_segment.specs.Buckets.{entries_of}
use Rattle.df_dashtable.specs.Tables.{slot_in}
use Rattle.df_dashtable.proofs.OnceLaws.{key_once}
use Rattle.df_dashtable.proofs.TouchLaws.{edited_table, edited_changes, edited_older}
use Rattle.df_dashtable.proofs.StepLaws.{shown_none}
use Rattle.df_dashtable.proofs.SpotLaws.{item_of, fresh_newer}
use Rattle.df_dashtable.proofs.PutLaws.{shown_puts}
use Rattle.df_dashtable.proofs.CountLaws.{applied_at}
use Rattle.df_dashtable.proofs.table.DashTable.apply_at.Goals as goal

pub invariant_of-self : goal.invariant_of-self
invariant_of-self g c =
    let spot = rw (← c.self.view_is) at c.requires.spot in
    let ss = c.self.inside.segments.items in
    let item = item_of ss c.args.at spot in
    let r = c.apply_in.ensures item.0 (item.1 item.0) in
    let on = rw (← c.self.view_is) at c.requires.staged in
    let counts = applied_at c.self.inside.len c.self.inside.staged ss c.apply_in.new.segments.items c.self.invariant.1.1 c.args.at spot on c.apply_in.ensures in (
      rw r.new_is (edited_table c.self.inside.version c.self.inside.depth c.self.inside.directory.items ss c.self.invariant.0
          c.args.at.segment c.args.at.place.bucket spot.0 spot.1.0 r.segment (item.0 ∷ []) (shown item.0 ∷ []) r.edits
          (λ key n. shown_none ss c.args.at.segment c.args.at.place.bucket r.segment item.0 key spot.0 spot.1.0 r.edits (c.self.invariant.0.homed c.args.at.segment key spot.0 n))
          (λ o. refl) r.once),
      (c.self.invariant.1.0, counts.1),
    )

pub returns-clause-puts : goal.returns-clause-puts
returns-clause-puts g c = λ d k.
    let spot = rw (← c.self.view_is) at c.requires.spot in
    let ss = c.self.inside.segments.items in
    let item = item_of ss c.args.at spot in
    let r = c.apply_in.ensures item.0 (item.1 item.0) in
    rw (← c.self.view_is, r.new_is)
    (shown_puts (flat_map entries_of ss) (flat_map entries_of (slice_set ss c.args.at.segment r.segment)) item.0 (slot_in ss c.args.at d) (edited_changes ss c.args.at.segment c.args.at.place.bucket r.segment (item.0 ∷ []) (shown item.0 ∷ []) spot.0 spot.1.0 r.edits)
    (key_once c.self.inside.version c.self.inside.depth c.self.inside.directory.items ss c.self.invariant.0 item.0.key)
    (item.1 d) k)

pub returns-clause-older : goal.returns-clause-older
returns-clause-older g c =
    let spot = rw (← c.self.view_is) at c.requires.spot in
    let newer = rw (← c.self.view_is) at (fresh_newer {V = g.row.V.Denot} c.args.self.now c.args.at c.fresh.ensures c.requires.spot c.requires.staged) in
    let ss = c.self.inside.segments.items in
    let item = item_of ss c.args.at spot in
    let r = c.apply_in.ensures item.0 (item.1 item.0) in
    rw (← c.self.view_is, r.new_is)
    (edited_older c.self.inside.version ss c.args.at.segment c.args.at.place.bucket r.segment (item.0 ∷ []) (shown item.0 ∷ []) spot.0 spot.1.0 r.edits newer)

pub overflow_sub-self : goal.overflow_sub-self
overflow_sub-self g c =
    let spot = rw (← c.self.view_is) at c.requires.spot in
    let on = rw (← c.self.view_is) at c.requires.staged in
    (applied_at c.self.inside.len c.self.inside.staged c.self.inside.segments.items c.apply_in.new.segments.items c.self.invariant.1.1 c.args.at spot on c.apply_in.ensures).0

pub overflow_add-self : goal.overflow_add-self
overflow_add-self g c =
    let spot = rw (← c.self.view_is) at c.requires.spot in
    let on = rw (← c.self.view_is) at c.requires.staged in
    let some = (applied_at c.self.inside.len c.self.inside.staged c.self.inside.segments.items c.apply_in.new.segments.items c.self.invariant.1.1 c.args.at spot on c.apply_in.ensures).0 in
    let fits = c.self.invariant.1.1.fits in
    omega arith
