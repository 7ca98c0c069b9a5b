use Rattle.std.proofs.Common.{◌≡◌, [], true, false, subst}
use Rattle.std.specs.Prelude.{slice_index_or}
use Rattle.df_segment.specs.Entries.{Slot}
use Rattle.df_segment.specs.Entries.{found}
use Rattle.df_segment.specs.Buckets.{bucket_at, entries_in, added}
use Rattle.df_segment.proofs.ChangeLaws.{push_changes}
use Rattle.df_segment.proofs.SoundLaws.{staged_sound, pushed_stands}
use Rattle.df_segment.proofs.segment.Segment.stage_at.Goals as goal

pub invariant_of-self-2 : goal.invariant_of-self-2
invariant_of-self-2 g c =
    let bs = c.self.inside.buckets.items in
    let room = rw (← c.self.view_is) at c.requires.room in
    let none : found c.args.key (entries_in bs) ≡ [] = rw (← c.self.view_is) at c.requires.absent in
    let e : Slot g.row.V.Denot = record { key = c.args.key; value = c.args.value; staged = true } in
    rw c.in_ok-slot.ensures.ok
    (staged_sound bs c.args.b e (added e (bucket_at bs c.args.b)) c.args.hash c.self.inside.spilled c.note_spill.new.spilled c.self.invariant c.note_spill.ensures.more
    c.requires.hash room.within room.near
    (λ far. subst (λ h. slice_index_or c.note_spill.new.spilled h false ≡ true) c.home_of-home.ensures.value (c.note_spill.ensures.noted far))
    none (push_changes (bucket_at bs c.args.b).entries e))

pub returns-clause-stands : goal.returns-clause-stands
returns-clause-stands g c =
    let bs = c.self.inside.buckets.items in
    let room = rw (← c.self.view_is) at c.requires.room in
    let e : Slot g.row.V.Denot = record { key = c.args.key; value = c.args.value; staged = true } in
    rw c.in_ok-slot.ensures.ok (pushed_stands bs c.args.b c.in_ok-slot.slot e room.within c.in_ok-slot.ensures.slot)
