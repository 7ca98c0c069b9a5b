use Rattle.std.proofs.Common.{◌≡◌, ◌++◌, [], ◌∷◌, List, length, set, slice_index, ap, sym, ◌∙◌, arith}
use Rattle.df_segment.specs.declared.entry.Entry.{Entry}
use Rattle.df_segment.specs.Entries.{Slot, slots, flag_at}
use Rattle.df_segment.specs.Buckets.{Bucket}
use Rattle.df_segment.proofs.SlotLaws.{slots_length, slots_push}
use Rattle.std.proofs.lemmas.List.{get_or-set_other, get_or-set_same}
use Rattle.df_segment.proofs.BucketLaws.{pushed_tags}
use Rattle.df_segment.proofs.bucket.Bucket.push.Goals as goal

pub invariant_of-self-2 : goal.invariant_of-self-2
invariant_of-self-2 g c =
    let es = c.self.inside.entries.items in
    let tags = c.self.inside.tags in
    let l = slots_length (flag_at c.self.inside.staged) es in
    let v = ap (λ (b : Bucket g.row.V.Denot). length b.entries) c.self.view_is in
    let n = ap (λ (xs : List (Entry g.row.V.Denot)). length xs) c.make_room.ensures.items in
    let last : c.len-i.result ≡ length es = omega arith in
    let long = c.self.told in
    rw (c.push_reserved.ensures.items, c.make_room.ensures.items)
    (pushed_tags tags _ es c.args.entry c.self.invariant (omega arith)
    (λ k w. get_or-set_other tags c.len-i.result k c.args.tag 0 (λ q. absurd (omega arith)))
    (ap (slice_index (set tags c.len-i.result c.args.tag)) (sym last) ∙ get_or-set_same tags c.len-i.result c.args.tag 0 (omega arith) ∙ c.requires.tag))

pub returns-clause-ok : goal.returns-clause-ok
returns-clause-ok g c =
    let es = c.self.inside.entries.items in
    let f = flag_at c.self.inside.staged in
    let h = flag_at c.set_flag-self-inside.result in
    let few = c.self.invariant.few in
    let n = ap (λ (xs : List (Entry g.row.V.Denot)). length xs) c.make_room.ensures.items in
    let last : c.len-i.result ≡ length es = omega arith in
    rw (← c.self.view_is)
    (ap (λ (xs : List (Slot g.row.V.Denot)). record { version = c.self.inside.version; entries = xs })
    (ap (slots h) (c.push_reserved.ensures.items ∙ ap (λ (xs : List (Entry g.row.V.Denot)). xs ++ c.args.entry ∷ []) c.make_room.ensures.items)
    ∙ slots_push f h es c.args.entry c.args.staged (ap h (sym last) ∙ c.set_flag-self-inside.ensures.own)
    (λ k w. sym (c.set_flag-self-inside.ensures.others k (omega arith) (λ q. absurd (omega arith))))))
