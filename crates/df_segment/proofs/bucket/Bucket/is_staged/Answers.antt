use Rattle.std.proofs.Common.{◌<◌, length, ap, sym, ◌∙◌, arith}
use Rattle.df_segment.specs.Entries.{Slot, entry_of, flag_at}
use Rattle.df_segment.specs.Buckets.{Bucket}
use Rattle.df_segment.proofs.SlotLaws.{slots_length, slot_at}
use Rattle.df_segment.proofs.bucket.Bucket.is_staged.Goals as goal

pub has_flag-requires : goal.has_flag-requires
has_flag-requires g c =
    let l = slots_length (flag_at c.self.inside.staged) c.self.inside.entries.items in
    let v = ap (λ (b : Bucket g.row.V.Denot). length b.entries) c.self.view_is in
    let few = c.self.invariant.few in
    omega arith

pub returns : goal.returns
returns g c = λ d.
    let es = c.self.inside.entries.items in
    let f = flag_at c.self.inside.staged in
    let l = slots_length f es in
    let v = ap (λ (b : Bucket g.row.V.Denot). length b.entries) c.self.view_is in
    let w : c.args.i < length es = omega arith in
    rw (← c.self.view_is) (c.has_flag.ensures ∙ sym (ap (λ (x : Slot g.row.V.Denot). x.staged) (slot_at f es c.args.i d (entry_of d) w)))
