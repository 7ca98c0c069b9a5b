use Rattle.std.proofs.Common.{◌<◌, length, ◌∙◌, arith}
use Rattle.std.proofs.lemmas.List.{length-set}
use Rattle.df_footprints.specs.Footprints.{footprint_of}
use Rattle.df_keys.proofs.GatheredLaws.{put-more}
use Rattle.df_keys.proofs.put.put_each.Goals as goal

pub shards-preserved : goal.shards-preserved
shards-preserved c =
    let keys = c.shards.keys.items in
    let t = c.shards.shard in
    let here : t < length keys = omega (arith, c.shards.invariant.count, c.shards-test.true) in
    record {
      count = length-set keys t c.in_ok-keys.field-0 ∙ c.shards.invariant.count;
      put = put-more keys t c.in_ok-keys.field-0 (footprint_of c.args.shards c.args.call.now) here c.shards.invariant.put
          (c.in_ok-keys.ensures ∙ c.in_ok-footprint.ensures);
    }
