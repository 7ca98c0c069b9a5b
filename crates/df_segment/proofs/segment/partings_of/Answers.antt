use Rattle.std.proofs.Common.{◌≡◌, ℕ, [], vec_capacity, ◌∙◌, arith}
use Rattle.df_segment.specs.declared.bucket.Parting.{Parting}
use Rattle.df_segment.specs.Buckets.{bucket_at, IsParting}
use Rattle.df_segment.proofs.PartLaws.{each_push}
use Rattle.df_segment.proofs.segment.partings_of.Goals as goal

pub buckets-preserved : goal.buckets-preserved
buckets-preserved g c =
    let ps = c.buckets.partings.items in
    let p = c.in_ok-parting.parting in
    let i = c.buckets.invariant in
    let e = c.in_ok-parting.ensures in
    record {
      so_far = (let n = c.push_reserved.ensures.len in let m = i.so_far in omega arith);
      room = c.push_reserved.ensures.capacity ∙ i.room;
      bits = rw c.push_reserved.ensures.items (each_push (λ (b : ℕ) (q : Parting g.row.V.Denot). q.bit ≡ c.args.bit) ps p c.buckets.b i.so_far i.bits e.bit);
      fits = rw c.push_reserved.ensures.items
          (each_push (λ (b : ℕ) (q : Parting g.row.V.Denot). IsParting c.args.bit (bucket_at c.args.buckets.now b).entries q.going (vec_capacity q.room)) ps p c.buckets.b i.so_far i.fits e.fits);
      empty = rw c.push_reserved.ensures.items (each_push (λ (b : ℕ) (q : Parting g.row.V.Denot). q.room.items ≡ []) ps p c.buckets.b i.so_far i.empty e.empty);
    }
