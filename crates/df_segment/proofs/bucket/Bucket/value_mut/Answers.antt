use Rattle.std.proofs.Common.{◌<◌, List, length, refl, ap, sym, ◌∙◌, arith}
use Rattle.df_segment.specs.declared.entry.Entry.{Entry}
use Rattle.df_segment.specs.Entries.{Slot, flag_at}
use Rattle.df_segment.specs.Buckets.{Bucket}
use Rattle.df_segment.proofs.SlotLaws.{slots_length, slot_at, slots_value}
use Rattle.df_segment.proofs.bucket.Bucket.value_mut.Goals as goal

pub index_mut-entry-requires : goal.index_mut-entry-requires
index_mut-entry-requires g c =
    let l = slots_length (flag_at c.self.inside.staged) c.self.inside.entries.items in
    let v = ap (λ (b : Bucket g.row.V.Denot). length b.entries) c.self.view_is in
    let few = c.self.invariant.few in
    omega arith

pub returns : goal.returns
returns g c =
    let es = c.self.inside.entries.items in
    let f = flag_at c.self.inside.staged in
    let e = c.index_mut-entry.result.now in
    let l = slots_length f es in
    let v = ap (λ (b : Bucket g.row.V.Denot). length b.entries) c.self.view_is in
    let within : c.args.i < length es = omega arith in (
      (
        refl,
        (λ w. rw (← c.self.view_is)
            (ap (λ (xs : List (Slot g.row.V.Denot)). record { version = c.self.inside.version; entries = xs })
            (slots_value f es c.args.i e w within c.index_mut-entry.ensures.value))),
      ),
      record {
        lends = tt;
        value = λ d. rw (← c.self.view_is)
            (ap (λ (x : Slot g.row.V.Denot). x.value) (slot_at f es c.args.i d e within)
            ∙ ap (λ (x : Entry g.row.V.Denot). x.value) (sym c.index_mut-entry.ensures.value));
      },
    )
