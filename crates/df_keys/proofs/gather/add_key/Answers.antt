use Rattle.std.proofs.Common.{◌<◌, length, ap, ◌∙◌, arith}
use Rattle.df_model.specs.Hash.{shard_of}
use Rattle.df_footprints.proofs.GatherLaws.{on_ok}
use Rattle.df_keys.proofs.GatheredLaws.{gathers_one}
use Rattle.df_keys.proofs.gather.add_key.Goals as goal

pub returns : goal.returns
returns c =
    let maps = c.args.maps.now.items in
    let lt : c.shard_of-shard.result < length maps = omega arith in
    on_ok c.add_to.result
    (gathers_one c.args.shards c.args.key.now c.args.mode maps c.shard_of-shard.result c.index_mut.result.now c.add_to.new.modes
    (c.shard_of-shard.ensures ∙ ap (λ k. shard_of k c.args.shards) c.as_slice.ensures) lt c.index_mut.ensures.value)
    c.add_to.ensures
