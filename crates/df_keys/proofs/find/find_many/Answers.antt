use Rattle.std.proofs.Common.{subst}
use Rattle.df_footprints.proofs.GatherLaws.{on_ok}
use Rattle.df_keys.specs.Gathered.{Gathers}
use Rattle.df_keys.proofs.GatheredLaws.{many_stand}
use Rattle.df_keys.proofs.find.find_many.Goals as goal

pub returns-clause-found : goal.returns-clause-found
returns-clause-found c =
    let first = c.in_ok-maps.maps.items in
    let last = c.add_named.new.maps.items in
    on_ok c.put_gathered.result
    (many_stand c.args.shards c.args.op.now first last c.put_gathered.new.keys.items c.in_ok-maps.ensures
    (subst (λ ms. Gathers c.args.shards ms first last) c.keys_of_many-named.ensures c.in_ok-add_named.ensures))
    c.put_gathered.ensures.put
