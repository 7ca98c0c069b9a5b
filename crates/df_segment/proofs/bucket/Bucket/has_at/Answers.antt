use Rattle.std.proofs.Common.{◌<◌, List, length, get_or, ap, sym, ◌∙◌, arith}
use Rattle.std.specs.Str.{bytes_eq}
use Rattle.df_segment.specs.declared.entry.Entry.{Entry}
use Rattle.df_segment.specs.Entries.{entry_of, flag_at, has_key}
use Rattle.df_segment.specs.Buckets.{Bucket}
use Rattle.df_segment.proofs.SlotLaws.{slots_length, slot_at}
use Rattle.df_segment.proofs.bucket.Bucket.has_at.Goals as goal

pub is_key-requires : goal.is_key-requires
is_key-requires g c =
    let e = ap (λ (xs : List (Entry g.row.V.Denot)). length xs) c.as_slice.ensures.value in
    let l = slots_length (flag_at c.self.inside.staged) c.self.inside.entries.items in
    let v = ap (λ (b : Bucket g.row.V.Denot). length b.entries) c.self.view_is in
    let few = c.self.invariant.few in
    omega arith

pub returns : goal.returns
returns g c = λ d.
    let es = c.self.inside.entries.items in
    let f = flag_at c.self.inside.staged in
    let l = slots_length f es in
    let v = ap (λ (b : Bucket g.row.V.Denot). length b.entries) c.self.view_is in
    let w : c.args.i < length es = omega arith in
    rw (← c.self.view_is)
    (c.is_key.ensures (entry_of d)
    ∙ ap (λ (xs : List (Entry g.row.V.Denot)). bytes_eq (get_or xs c.args.i (entry_of d)).key c.args.key.now) c.as_slice.ensures.value
    ∙ sym (ap (has_key c.args.key.now) (slot_at f es c.args.i d (entry_of d) w)))
