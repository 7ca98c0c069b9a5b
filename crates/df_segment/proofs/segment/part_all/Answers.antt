use Rattle.std.proofs.Common.{◌≡◌, length, set, ap, sym, subst, ◌∙◌, vec_capacity, arith, ℕ}
use Rattle.df_segment.specs.Buckets.{bucket_at, stay_bucket, go_bucket, IsParting}
use Rattle.df_segment.proofs.PartLaws.{parted_next, bucket_fits, bucket_parted}
use Rattle.df_segment.proofs.segment.part_all.Goals as goal

pub part_in-half-requires-clause-fits : goal.part_in-half-requires-clause-fits
part_in-half-requires-clause-fits g c =
    let halves = c.buckets.halves.items in
    let old = c.args.buckets.now.items in
    let now = c.buckets.buckets.items in
    let p = c.in-Some.parting in
    let n = parted_next c.args.bit old now halves c.buckets.parting-iterator.rest.items p c.next.new.self.rest.items c.buckets.invariant.parted c.in-Some.ensures.steps.0 in
    let place : c.len.result ≡ length halves = omega arith in
    subst (λ (j : ℕ). IsParting p.bit (bucket_at now j).entries p.going (vec_capacity p.room)) (sym place)
    (bucket_fits c.args.bit old now halves p c.next.new.self.rest.items n)

pub buckets-preserved : goal.buckets-preserved
buckets-preserved g c =
    let halves = c.buckets.halves.items in
    let old = c.args.buckets.now.items in
    let now = c.buckets.buckets.items in
    let p = c.in-Some.parting in
    let n = parted_next c.args.bit old now halves c.buckets.parting-iterator.rest.items p c.next.new.self.rest.items c.buckets.invariant.parted c.in-Some.ensures.steps.0 in
    let place : c.len.result ≡ length halves = omega arith in
    record {
      parted = rw c.push_reserved.ensures.items
          (bucket_parted c.args.bit old now halves p c.next.new.self.rest.items n c.part_in-half.new.buckets.items c.part_in-half.result
          (c.part_in-half.ensures.stay ∙ ap (λ j. set now j (stay_bucket p.bit (bucket_at now j))) place)
          (c.part_in-half.ensures.go ∙ ap (λ j. go_bucket p.bit (bucket_at now j)) place));
      room = (let k = c.push_reserved.ensures.capacity in let r = c.buckets.invariant.room in omega arith);
    }
