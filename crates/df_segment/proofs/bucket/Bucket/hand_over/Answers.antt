use Rattle.std.proofs.Common.{◌≡◌, ◌<◌, ◌++◌, [], ◌∷◌, false, length, get_or, ap, sym, ◌∙◌, arith}
use Rattle.df_segment.specs.declared.entry.Entry.{Entry}
use Rattle.df_segment.specs.Entries.{Slot, slots, slot_of, entry_of, flag_at, tag_of}
use Rattle.df_segment.specs.Buckets.{Bucket}
use Rattle.df_segment.proofs.SlotLaws.{slots_length, slot_at}
use Rattle.df_segment.proofs.bucket.Bucket.hand_over.Goals as goal

pub bounds-self-inside-i : goal.bounds-self-inside-i
bounds-self-inside-i g c =
    let l = slots_length (flag_at c.self.inside.staged) c.self.inside.entries.items in
    let v = ap (λ (b : Bucket g.row.V.Denot). length b.entries) c.self.view_is in
    let few = c.self.invariant.few in
    omega arith

pub has_flag-staged-requires : goal.has_flag-staged-requires
has_flag-staged-requires g c =
    let l = slots_length (flag_at c.self.inside.staged) c.self.inside.entries.items in
    let v = ap (λ (b : Bucket g.row.V.Denot). length b.entries) c.self.view_is in
    let few = c.self.invariant.few in
    omega arith

pub put-requires-clause-tag : goal.put-requires-clause-tag
put-requires-clause-tag g c =
    let es = c.self.inside.entries.items in
    let f = flag_at c.self.inside.staged in
    let l = slots_length f es in
    let v = ap (λ (b : Bucket g.row.V.Denot). length b.entries) c.self.view_is in
    let w : c.args.i < length es = omega arith in
    let r = c.remove-entry.result in
    let d = slot_of false r in
    let same : r ≡ get_or es c.args.i r =
    c.remove-entry.ensures.value d
    ∙ ap (λ (b : Bucket g.row.V.Denot). entry_of (get_or b.entries c.args.i d)) (sym c.self.view_is)
    ∙ ap entry_of (slot_at f es c.args.i d r w) in
    c.self.invariant.agree c.args.i r w ∙ ap (λ (e : Entry g.row.V.Denot). tag_of e.key) (sym same)

pub returns-clause-go : goal.returns-clause-go
returns-clause-go g c = λ d.
    let es = c.self.inside.entries.items in
    let f = flag_at c.self.inside.staged in
    let l = slots_length f es in
    let v = ap (λ (b : Bucket g.row.V.Denot). length b.entries) c.self.view_is in
    let w : c.args.i < length es = omega arith in
    let r = c.remove-entry.result in
    let at = slot_at f es c.args.i d r w in
    let same : r ≡ get_or es c.args.i r =
    c.remove-entry.ensures.value d
    ∙ ap (λ (b : Bucket g.row.V.Denot). entry_of (get_or b.entries c.args.i d)) (sym c.self.view_is)
    ∙ ap entry_of at in
    let slot : slot_of c.has_flag-staged.result r ≡ get_or c.args.self.now.entries c.args.i d =
    ap (λ b. slot_of b r) c.has_flag-staged.ensures
    ∙ ap (slot_of (f c.args.i)) same
    ∙ sym at
    ∙ ap (λ (b : Bucket g.row.V.Denot). get_or b.entries c.args.i d) c.self.view_is in
    c.put.ensures.items ∙ ap (λ (e : Slot g.row.V.Denot). slots (flag_at c.args.half.now.staged) c.args.half.now.entries.items ++ e ∷ []) slot
