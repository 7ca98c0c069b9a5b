use Rattle.std.proofs.Common.{◌≡◌, length, refl, ap, sym, ◌∙◌, arith}
use Rattle.std.specs.List.{filter}
use Rattle.df_segment.specs.Entries.{Slot, flag_at}
use Rattle.df_segment.specs.Buckets.{Bucket}
use Rattle.df_segment.proofs.SlotLaws.{slots_length}
use Rattle.df_segment.proofs.KeepLaws.{kept_none, kept_next, kept_within, kept_here, kept_small, kept_goes, kept_stays, kept_all}
use Rattle.df_segment.proofs.bucket.Bucket.clear.Goals.{then-is_staged, else-is_staged}
use Rattle.df_segment.proofs.bucket.Bucket.clear.Goals as goal

pub entries-init : goal.entries-init
entries-init g c =
    let l = slots_length (flag_at c.self.inside.staged) c.self.inside.entries.items in
    let v = ap (λ (b : Bucket g.row.V.Denot). length b.entries) c.self.view_is in
    let few = c.self.invariant.few in
    record {
      version = refl;
      end = c.len-k-end.ensures;
      few = omega arith;
      kept = kept_none (λ (e : Slot g.row.V.Denot). e.staged) c.args.self.now.entries;
    }

pub is_staged-requires : goal.is_staged-requires
is_staged-requires g c =
    let p = λ (e : Slot g.row.V.Denot). e.staged in
    let n = kept_next p c.args.self.now.entries c.entries.self.entries c.entries.k c.entries.at c.entries.invariant.kept (let e = c.entries.invariant.end in omega arith) in
    kept_within p c.args.self.now.entries c.entries.self.entries c.entries.k c.entries.at n

pub overflow_add-at : goal.overflow_add-at
overflow_add-at g c =
    let p = λ (e : Slot g.row.V.Denot). e.staged in
    let n = kept_next p c.args.self.now.entries c.entries.self.entries c.entries.k c.entries.at c.entries.invariant.kept (let e = c.entries.invariant.end in omega arith) in
    let s = kept_small p c.args.self.now.entries c.entries.self.entries c.entries.k c.entries.at n in
    let few = c.entries.invariant.few in
    let end = c.entries.invariant.end in
    omega arith

pub drop_at-requires : goal.drop_at-requires
drop_at-requires g c =
    let p = λ (e : Slot g.row.V.Denot). e.staged in
    let n = kept_next p c.args.self.now.entries c.entries.self.entries c.entries.k c.entries.at c.entries.invariant.kept (let e = c.entries.invariant.end in omega arith) in
    kept_within p c.args.self.now.entries c.entries.self.entries c.entries.k c.entries.at n

pub entries-preserved : goal.entries-preserved
entries-preserved g c =
    let p = λ (e : Slot g.row.V.Denot). e.staged in
    let old = c.args.self.now.entries in
    let now = c.entries.self.entries in
    let n = kept_next p old now c.entries.k c.entries.at c.entries.invariant.kept (let e = c.entries.invariant.end in omega arith) in
    let flag = ap p (sym (kept_here p old now c.entries.k c.entries.at n n.e)) ∙ sym (c.is_staged.ensures n.e) in
    elim c.if-is_staged.branch [
      | then-is_staged w ↦ record {
        version = ap (λ (b : Bucket g.row.V.Denot). b.version) w.self-is ∙ c.entries.invariant.version;
        end = c.entries.invariant.end;
        few = c.entries.invariant.few;
        kept = kept_stays p old now c.entries.k c.entries.at n c.if-is_staged.self.entries c.if-is_staged.at (flag ∙ w.if-is_staged.true)
            (ap (λ (b : Bucket g.row.V.Denot). b.entries) w.self-is) w.at-is;
      }
      | else-is_staged w ↦ record {
        version = ap (λ (b : Bucket g.row.V.Denot). b.version) (w.self-is ∙ w.drop_at.ensures) ∙ c.entries.invariant.version;
        end = c.entries.invariant.end;
        few = c.entries.invariant.few;
        kept = kept_goes p old now c.entries.k c.entries.at n c.if-is_staged.self.entries c.if-is_staged.at (flag ∙ w.if-is_staged.false)
            (ap (λ (b : Bucket g.row.V.Denot). b.entries) (w.self-is ∙ w.drop_at.ensures)) w.at-is;
      }
    ]

pub returns : goal.returns
returns g c =
    let p = λ (e : Slot g.row.V.Denot). e.staged in
    let all = kept_all p c.args.self.now.entries c.entries.self.entries c.entries.k c.entries.at c.entries.invariant.kept (let e = c.entries.invariant.end in omega arith) in
    let whole : c.entries.self ≡ record { version = c.args.self.now.version; entries = filter p c.args.self.now.entries } =
    λ i. record { version = c.entries.invariant.version i; entries = all i } in
    c.trim.ensures ∙ whole
