use Rattle.std.proofs.Common.{◌≡◌, ◌<◌, ◌++◌, arith, subst}
use Rattle.df_segment.specs.Buckets.{Bucket, bucket_at}
use Rattle.df_dashtable.specs.Visible.{visible_in}
use Rattle.df_dashtable.specs.Tables.{segment_at}
use Rattle.df_dashtable.proofs.TouchLaws.{marked_table, touched_sends, table_once}
use Rattle.df_dashtable.proofs.CountLaws.{marked_counted}
use Rattle.df_dashtable.proofs.table.DashTable.touch_at.Goals as goal

pub invariant_of-self : goal.invariant_of-self
invariant_of-self g c =
    let w = rw (← c.self.view_is) at c.requires.segment in
    let i = rw (← c.self.view_is) at c.requires.bucket in
    rw c.mark_in.ensures
    (marked_table c.self.inside.version c.self.inside.depth c.self.inside.directory.items c.self.inside.segments.items c.self.invariant.0 c.args.s c.args.b w i, (c.self.invariant.1.0, marked_counted c.self.inside.len c.self.inside.staged c.self.inside.segments.items c.args.s c.args.b c.self.inside.version w i c.self.invariant.1.1))

pub returns-in_ok-before-clause-sends : goal.returns-in_ok-before-clause-sends
returns-in_ok-before-clause-sends g c =
    let w = rw (← c.self.view_is) at c.requires.segment in
    let i = rw (← c.self.view_is) at c.requires.bucket in
    let bucket : c.bucket_in-bucket.result.now ≡ bucket_at (segment_at c.self.inside.segments.items c.args.s).buckets c.args.b =
    rw c.as_slice.ensures.value at c.bucket_in-bucket.ensures in
    let old : c.bucket_in-bucket.result.now.version < c.self.inside.version = (let v = c.version.ensures in let t = c.if-version.true in omega arith) in
    rw (c.mark_in.ensures, ← c.self.view_is)
    (touched_sends (record { version = c.self.inside.version; depth = c.self.inside.depth; directory = c.self.inside.directory.items; segments = c.self.inside.segments.items })
    c.args.s c.args.b w i (g.H.Hook.takes c.args.hook.now) (g.H.Hook.holds c.args.hook.now) (g.H.Hook.holds c.before-then-version.new.self)
    (table_once c.self.inside.version c.self.inside.depth c.self.inside.directory.items c.self.inside.segments.items c.self.invariant.0 c.self.inside.version)
    (rw bucket at old)
    (λ yes es h. subst (λ (b : Bucket g.row.V.Denot). g.H.Hook.holds c.before-then-version.new.self (es ++ visible_in b)) bucket (c.in_ok-before.ensures.ok yes es h)))
