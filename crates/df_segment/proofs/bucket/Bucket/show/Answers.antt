use Rattle.std.proofs.Common.{List, length, ap, arith}
use Rattle.df_segment.specs.Entries.{Slot, flag_at}
use Rattle.df_segment.specs.Buckets.{Bucket}
use Rattle.df_segment.proofs.SlotLaws.{slots_length, slots_show}
use Rattle.df_segment.proofs.bucket.Bucket.show.Goals as goal

pub set_flag-self-inside-requires : goal.set_flag-self-inside-requires
set_flag-self-inside-requires g c =
    let l = slots_length (flag_at c.self.inside.staged) c.self.inside.entries.items in
    let v = ap (λ (b : Bucket g.row.V.Denot). length b.entries) c.self.view_is in
    let few = c.self.invariant.few in
    omega arith

pub returns : goal.returns
returns g c =
    let es = c.self.inside.entries.items in
    let f = flag_at c.self.inside.staged in
    let h = flag_at c.set_flag-self-inside.result in
    let few = c.self.invariant.few in
    rw (← c.self.view_is)
    (ap (λ (xs : List (Slot g.row.V.Denot)). record { version = c.self.inside.version; entries = xs })
    (slots_show f h es c.args.i c.set_flag-self-inside.ensures.own (λ k w n. c.set_flag-self-inside.ensures.others k (omega arith) n)))
