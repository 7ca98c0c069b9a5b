use Rattle.std.proofs.Common.{◌<◌, List, length, ap, sym, ◌∙◌, arith}
use Rattle.df_segment.specs.Entries.{Slot, slots, entry_of, flag_at}
use Rattle.df_segment.specs.Buckets.{Bucket}
use Rattle.df_segment.proofs.SlotLaws.{slots_length, slot_at, slots_remove, add_one}
use Rattle.df_segment.proofs.BucketLaws.{removed_tags}
use Rattle.df_segment.proofs.bucket.Bucket.remove.Goals as goal

pub close_gap-requires : goal.close_gap-requires
close_gap-requires g c =
    let l = slots_length (flag_at c.self.inside.staged) c.self.inside.entries.items in
    let v = ap (λ (b : Bucket g.row.V.Denot). length b.entries) c.self.view_is in
    let few = c.self.invariant.few in
    omega arith

pub without_place-self-inside-requires : goal.without_place-self-inside-requires
without_place-self-inside-requires g c =
    let l = slots_length (flag_at c.self.inside.staged) c.self.inside.entries.items in
    let v = ap (λ (b : Bucket g.row.V.Denot). length b.entries) c.self.view_is in
    let few = c.self.invariant.few in
    omega arith

pub remove-requires : goal.remove-requires
remove-requires g c =
    let l = slots_length (flag_at c.self.inside.staged) c.self.inside.entries.items in
    let v = ap (λ (b : Bucket g.row.V.Denot). length b.entries) c.self.view_is in
    let few = c.self.invariant.few in
    omega arith

pub invariant_of-self : goal.invariant_of-self
invariant_of-self g c =
    let es = c.self.inside.entries.items in
    let l = slots_length (flag_at c.self.inside.staged) es in
    let v = ap (λ (b : Bucket g.row.V.Denot). length b.entries) c.self.view_is in
    let w : c.args.i < length es = omega arith in
    rw c.remove.ensures.items
    (removed_tags c.self.inside.tags c.close_gap.new.tags es c.args.i w c.self.invariant c.close_gap.ensures.below c.close_gap.ensures.behind)

pub returns-clause-value : goal.returns-clause-value
returns-clause-value g c = λ d.
    let es = c.self.inside.entries.items in
    let f = flag_at c.self.inside.staged in
    let l = slots_length f es in
    let v = ap (λ (b : Bucket g.row.V.Denot). length b.entries) c.self.view_is in
    let w : c.args.i < length es = omega arith in
    rw (← c.self.view_is) (c.remove.ensures.value ∙ sym (ap entry_of (slot_at f es c.args.i d c.remove.result w)))

pub returns-clause-rest : goal.returns-clause-rest
returns-clause-rest g c =
    let es = c.self.inside.entries.items in
    let f = flag_at c.self.inside.staged in
    let h = flag_at c.without_place-self-inside.result in
    rw (← c.self.view_is)
    (ap (λ (xs : List (Slot g.row.V.Denot)). record { version = c.self.inside.version; entries = xs })
    (ap (slots h) c.remove.ensures.items
    ∙ slots_remove f h es c.args.i c.without_place-self-inside.ensures.below (λ k w. c.without_place-self-inside.ensures.behind k w ∙ ap f (add_one k))))
