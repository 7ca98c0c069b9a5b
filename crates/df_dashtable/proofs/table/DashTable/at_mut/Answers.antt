use Rattle.std.proofs.Common.{◌≡◌, ◌∙◌}
use Rattle.std.specs.Prelude.{slice_set}
use Rattle.df_segment.specs.Buckets.{put_bucket, bucket_at}
use Rattle.df_segment.proofs.ListLaws.{same_item}
use Rattle.df_dashtable.specs.Tables.{segment_at, no_segment}
use Rattle.df_dashtable.proofs.StepLaws.{valued_table, valued_changes, valued_bucket}
use Rattle.df_dashtable.proofs.SpotLaws.{item_of}
use Rattle.df_dashtable.proofs.CountLaws.{valued_counted}
use Rattle.df_dashtable.proofs.table.DashTable.at_mut.Goals as goal

pub invariant_of-self-lent : goal.invariant_of-self-lent
invariant_of-self-lent g c = λ w.
    let spot = rw (← c.self.view_is) at c.requires.spot in
    let ss = c.self.inside.segments.items in
    let item = item_of ss c.args.at spot in
    let e : c.index_mut-segment.result.now ≡ segment_at ss c.args.at.segment =
    c.index_mut-segment.ensures.value ∙ same_item ss c.args.at.segment c.index_mut-segment.result.now no_segment spot.0 in
    rw e (
      valued_table c.self.inside.version c.self.inside.depth c.self.inside.directory.items ss c.self.invariant.0
          c.args.at.segment c.args.at.place.bucket c.args.at.place.slot w spot.0 spot.1.0 spot.1.1,
      (
        c.self.invariant.1.0,
        valued_counted c.self.inside.len c.self.inside.staged c.self.inside.segments.items (slice_set ss c.args.at.segment (put_bucket (segment_at ss c.args.at.segment) c.args.at.place.bucket (valued_bucket w c.args.at.place.slot (bucket_at (segment_at ss c.args.at.segment).buckets c.args.at.place.bucket)))) item.0 c.self.invariant.1.1 w
            (valued_changes ss c.args.at.segment c.args.at.place.bucket c.args.at.place.slot w item.0 spot.0 spot.1.0 spot.1.1 (item.1 item.0)),
      ),
    )
