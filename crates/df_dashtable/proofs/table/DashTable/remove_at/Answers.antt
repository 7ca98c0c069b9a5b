use Rattle.std.proofs.Common.{[], ◌∷◌, refl, sym, ap, ◌∙◌}
use Rattle.df_segment.specs.Entries.{Slot}
use Rattle.df_dashtable.proofs.OnceLaws.{key_once}
use Rattle.df_dashtable.proofs.TouchLaws.{edited_table, edited_changes, edited_older}
use Rattle.df_dashtable.proofs.SpotLaws.{item_of, found_key}
use Rattle.df_dashtable.proofs.PutLaws.{gone_puts}
use Rattle.df_dashtable.proofs.CountLaws.{removed_at}
use Rattle.df_dashtable.proofs.table.DashTable.remove_at.Goals as goal

pub invariant_of-self : goal.invariant_of-self
invariant_of-self g c =
    let spot = rw (← c.self.view_is) at c.requires.spot in
    let kind = rw (← c.self.view_is) at c.requires.visible in
    let item = item_of c.self.inside.segments.items c.args.at spot in
    let rest = c.remove_in-entry.ensures.rest item.0 (item.1 item.0) in
    let counts = removed_at c.self.inside.len c.self.inside.staged c.self.inside.segments.items c.remove_in-entry.new.segments.items c.self.invariant.1.1 c.args.at spot kind c.remove_in-entry.ensures.rest in (
      rw rest.new_is
          (edited_table c.self.inside.version c.self.inside.depth c.self.inside.directory.items c.self.inside.segments.items c.self.invariant.0
          c.args.at.segment c.args.at.place.bucket spot.0 spot.1.0 rest.segment (item.0 ∷ []) [] rest.edits (λ key n. refl) (λ o. refl) rest.once),
      (c.self.invariant.1.0, counts.1),
    )

pub returns-clause-was : goal.returns-clause-was
returns-clause-was g c = λ d.
    let spot = rw (← c.self.view_is) at c.requires.spot in
    rw (← c.self.view_is)
    (found_key c.self.inside.version c.self.inside.depth c.self.inside.directory.items c.self.inside.segments.items c.self.invariant.0
    c.args.at spot c.remove_in-entry.result.key d (ap (λ e. e.key) (c.remove_in-entry.ensures.value d)))

pub returns-clause-puts : goal.returns-clause-puts
returns-clause-puts g c = λ key.
    let spot = rw (← c.self.view_is) at c.requires.spot in
    let ss = c.self.inside.segments.items in
    let item = item_of ss c.args.at spot in
    let rest = c.remove_in-entry.ensures.rest item.0 (item.1 item.0) in
    rw (← c.self.view_is, rest.new_is)
    (gone_puts _ _ item.0 c.remove_in-entry.result.key (edited_changes ss c.args.at.segment c.args.at.place.bucket rest.segment (item.0 ∷ []) [] spot.0 spot.1.0 rest.edits)
    (key_once c.self.inside.version c.self.inside.depth c.self.inside.directory.items ss c.self.invariant.0 item.0.key)
    (ap (λ (e : Slot g.row.V.Denot). e.key) (item.1 item.0) ∙ sym (ap (λ e. e.key) (c.remove_in-entry.ensures.value item.0))) key)

pub returns-clause-older : goal.returns-clause-older
returns-clause-older g c =
    let spot = rw (← c.self.view_is) at c.requires.spot in
    let newer = rw (← c.self.view_is) at c.requires.newer in
    let item = item_of c.self.inside.segments.items c.args.at spot in
    let rest = c.remove_in-entry.ensures.rest item.0 (item.1 item.0) in
    rw (← c.self.view_is, rest.new_is)
    (edited_older c.self.inside.version c.self.inside.segments.items c.args.at.segment c.args.at.place.bucket rest.segment (item.0 ∷ []) [] spot.0 spot.1.0 rest.edits newer)

pub overflow_sub-self : goal.overflow_sub-self
overflow_sub-self g c =
    let spot = rw (← c.self.view_is) at c.requires.spot in
    let kind = rw (← c.self.view_is) at c.requires.visible in
    (removed_at c.self.inside.len c.self.inside.staged c.self.inside.segments.items c.remove_in-entry.new.segments.items c.self.invariant.1.1 c.args.at spot kind c.remove_in-entry.ensures.rest).0
