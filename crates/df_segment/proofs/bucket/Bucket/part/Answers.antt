use Rattle.std.proofs.Common.{◌≡◌, ◌++◌, ◌∷◌, [], true, length, vec_capacity, refl, ap, sym, ◌∙◌, arith}
use Rattle.df_segment.specs.declared.bucket.Half.{Half}
use Rattle.df_segment.specs.Entries.{Slot, slots, flag_at, goes}
use Rattle.df_segment.specs.Buckets.{Bucket}
use Rattle.df_segment.proofs.SlotLaws.{slots_length}
use Rattle.df_segment.proofs.PartLaws.{dealt_none, dealt_next, dealt_same, next_within, next_here, next_there, next_fits, next_few, next_small, next_goes, next_stays}
use Rattle.df_segment.proofs.bucket.Bucket.part.Goals.{then-going-k, else-going-k}
use Rattle.df_segment.proofs.bucket.Bucket.part.Goals as goal

pub entries-init : goal.entries-init
entries-init g c =
    let l = slots_length (flag_at c.self.inside.staged) c.self.inside.entries.items in
    let v = ap (λ (b : Bucket g.row.V.Denot). length b.entries) c.self.view_is in
    let few = c.self.invariant.few in
    record {
      version = refl;
      going = refl;
      end = c.len-k-end.ensures;
      few = omega arith;
      dealt = dealt_none c.args.parting.bit c.args.self.now.entries _ (ap (slots (flag_at c.new-half.result.staged)) c.new-half.ensures.items);
      room = c.new-half.ensures.room;
    }

pub hand_over-requires-clause-within : goal.hand_over-requires-clause-within
hand_over-requires-clause-within g c =
    let half = slots (flag_at c.entries.half.staged) c.entries.half.entries.items in
    let n = dealt_next c.args.parting.bit c.args.self.now.entries c.entries.self.entries half c.entries.k c.entries.at c.entries.invariant.dealt (omega arith) in
    next_within c.args.parting.bit c.args.self.now.entries c.entries.self.entries half c.entries.k c.entries.at n

pub hand_over-requires-clause-few : goal.hand_over-requires-clause-few
hand_over-requires-clause-few g c =
    let half = slots (flag_at c.entries.half.staged) c.entries.half.entries.items in
    let old = c.args.self.now.entries in
    let bit = c.args.parting.bit in
    let n = dealt_next bit old c.entries.self.entries half c.entries.k c.entries.at c.entries.invariant.dealt (omega arith) in
    let there = next_there bit old c.entries.self.entries half c.entries.k c.entries.at n n.e in
    let goes_on : goes bit n.e.key ≡ true =
    ap (λ (e : Slot g.row.V.Denot). goes bit e.key) (sym there) ∙ sym (c.requires.fits.marks c.entries.k n.e (omega arith)) ∙ c.if-going-k.true in
    let l = slots_length (flag_at c.entries.half.staged) c.entries.half.entries.items in
    let m = next_few bit old c.entries.self.entries half c.entries.k c.entries.at n c.entries.invariant.few goes_on in
    omega arith

pub hand_over-requires-clause-room : goal.hand_over-requires-clause-room
hand_over-requires-clause-room g c =
    let half = slots (flag_at c.entries.half.staged) c.entries.half.entries.items in
    let old = c.args.self.now.entries in
    let bit = c.args.parting.bit in
    let n = dealt_next bit old c.entries.self.entries half c.entries.k c.entries.at c.entries.invariant.dealt (omega arith) in
    let there = next_there bit old c.entries.self.entries half c.entries.k c.entries.at n n.e in
    let goes_on : goes bit n.e.key ≡ true =
    ap (λ (e : Slot g.row.V.Denot). goes bit e.key) (sym there) ∙ sym (c.requires.fits.marks c.entries.k n.e (omega arith)) ∙ c.if-going-k.true in
    let l = slots_length (flag_at c.entries.half.staged) c.entries.half.entries.items in
    let m = next_fits bit old c.entries.self.entries half c.entries.k c.entries.at n goes_on in
    let e = c.requires.fits.enough in
    let r = c.entries.invariant.room in
    omega arith

pub overflow_add-at : goal.overflow_add-at
overflow_add-at g c =
    let half = slots (flag_at c.entries.half.staged) c.entries.half.entries.items in
    let n = dealt_next c.args.parting.bit c.args.self.now.entries c.entries.self.entries half c.entries.k c.entries.at c.entries.invariant.dealt (omega arith) in
    let s = next_small c.args.parting.bit c.args.self.now.entries c.entries.self.entries half c.entries.k c.entries.at n in
    let few = c.entries.invariant.few in
    let end = c.entries.invariant.end in
    omega arith

pub entries-preserved : goal.entries-preserved
entries-preserved g c =
    let half = slots (flag_at c.entries.half.staged) c.entries.half.entries.items in
    let old = c.args.self.now.entries in
    let now = c.entries.self.entries in
    let bit = c.args.parting.bit in
    let n = dealt_next bit old now half c.entries.k c.entries.at c.entries.invariant.dealt (omega arith) in
    let there = next_there bit old now half c.entries.k c.entries.at n n.e in
    let mark = ap (λ (e : Slot g.row.V.Denot). goes bit e.key) (sym there) ∙ sym (c.requires.fits.marks c.entries.k n.e (omega arith)) in
    elim c.if-going-k.branch [
      | then-going-k w ↦ record {
        version = ap (λ (b : Bucket g.row.V.Denot). b.version) (w.self-is ∙ w.hand_over.ensures.stay) ∙ c.entries.invariant.version;
        going = c.entries.invariant.going;
        end = c.entries.invariant.end;
        few = c.entries.invariant.few;
        dealt = dealt_same bit old _ _ _ _ _ _ _
            (next_goes bit old now half c.entries.k c.entries.at n c.if-going-k.self.entries (slots (flag_at c.if-going-k.half.staged) c.if-going-k.half.entries.items) (mark ∙ w.if-going-k.true)
            (ap (λ (b : Bucket g.row.V.Denot). b.entries) (w.self-is ∙ w.hand_over.ensures.stay))
            (ap (λ (h : Half g.row.V.Denot). slots (flag_at h.staged) h.entries.items) w.half-is ∙ w.hand_over.ensures.go n.e
            ∙ ap (λ (e : Slot g.row.V.Denot). half ++ e ∷ []) (next_here bit old now half c.entries.k c.entries.at n n.e)))
            refl refl w.at-is;
        room = ap (λ (h : Half g.row.V.Denot). vec_capacity h.entries) w.half-is ∙ w.hand_over.ensures.room ∙ c.entries.invariant.room;
      }
      | else-going-k w ↦ record {
        version = ap (λ (b : Bucket g.row.V.Denot). b.version) w.self-is ∙ c.entries.invariant.version;
        going = c.entries.invariant.going;
        end = c.entries.invariant.end;
        few = c.entries.invariant.few;
        dealt = dealt_same bit old _ _ _ _ _ _ _
            (next_stays bit old now half c.entries.k c.entries.at n (mark ∙ w.if-going-k.false))
            (ap (λ (b : Bucket g.row.V.Denot). b.entries) w.self-is)
            (ap (λ (h : Half g.row.V.Denot). slots (flag_at h.staged) h.entries.items) w.half-is)
            w.at-is;
        room = ap (λ (h : Half g.row.V.Denot). vec_capacity h.entries) w.half-is ∙ c.entries.invariant.room;
      }
    ]
