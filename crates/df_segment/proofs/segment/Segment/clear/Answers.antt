use Rattle.df_segment.specs.Entries.{has_key}
use Rattle.df_segment.specs.Buckets.{bucket_at, staged_only}
use Rattle.df_segment.proofs.KeepLaws.{fewer, whole_change}
use Rattle.df_segment.proofs.SoundLaws.{lesser_sound}
use Rattle.df_segment.proofs.segment.Segment.clear.Goals as goal

pub invariant_of-self : goal.invariant_of-self
invariant_of-self g c =
    let within = rw (← c.self.view_is) at c.requires in
    let bs = c.self.inside.buckets.items in
    let bucket = bucket_at bs c.args.b in
    rw c.clear_in.ensures
    (lesser_sound bs c.args.b (staged_only bucket) bucket.entries (staged_only bucket).entries within
    (whole_change bucket.entries (staged_only bucket).entries)
    c.self.inside.spilled c.self.invariant (λ key. fewer (λ e. e.staged) (has_key key) bucket.entries))
