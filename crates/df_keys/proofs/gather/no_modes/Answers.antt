use Rattle.std.proofs.Common.{◌+◌, sym, subst}
use Rattle.df_keys.specs.Gathered.{AreEmpty}
use Rattle.df_keys.proofs.GatheredLaws.{empty-push}
use Rattle.df_keys.proofs.gather.no_modes.Goals as goal

pub shards-preserved : goal.shards-preserved
shards-preserved c =
    subst (AreEmpty (c.shards._shard + 1)) (sym c.in_ok-push.ensures.items) (empty-push c.shards.maps.items c.none.result c.shards._shard c.shards.invariant c.none.ensures)
