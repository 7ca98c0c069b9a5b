use Rattle.std.proofs.Common.{refl, arith}
use Rattle.df_segment.specs.Buckets.{bucket_at, without}
use Rattle.df_segment.proofs.BucketLaws.{item_at}
use Rattle.df_segment.proofs.ChangeLaws.{remove_changes}
use Rattle.df_segment.proofs.SoundLaws.{lesser_sound}
use Rattle.df_segment.proofs.segment.Segment.remove.Goals as goal

pub invariant_of-self : goal.invariant_of-self
invariant_of-self g c =
    let bs = c.self.inside.buckets.items in
    let within = rw (← c.self.view_is) at c.requires.bucket in
    let slot = rw (← c.self.view_is) at c.requires.slot in
    let item = item_at (bucket_at bs c.args.p.bucket).entries c.args.p.slot slot in
    rw c.remove_in.ensures.rest
    (lesser_sound bs c.args.p.bucket (without c.args.p.slot (bucket_at bs c.args.p.bucket)) _ _ within
    (remove_changes (bucket_at bs c.args.p.bucket).entries c.args.p.slot item.0 slot item.1)
    c.self.inside.spilled c.self.invariant (λ key. omega arith))

pub returns-clause-rest : goal.returns-clause-rest
returns-clause-rest g c = λ e is.
    let bs = c.self.inside.buckets.items in
    let slot = rw (← c.self.view_is) at c.requires.slot in
    let there = rw (← c.self.view_is) at is in
    rw (← c.self.view_is, c.remove_in.ensures.rest)
    (record {
      bucket = without c.args.p.slot (bucket_at bs c.args.p.bucket);
      new_is = refl;
      version = refl;
      change = remove_changes (bucket_at bs c.args.p.bucket).entries c.args.p.slot e slot there;
    })
