use Rattle.df_footprints.proofs.GatherLaws.{on_ok}
use Rattle.df_keys.proofs.GatheredLaws.{stand_gathered}
use Rattle.df_keys.proofs.find.find_named.Goals as goal

pub returns-clause-found : goal.returns-clause-found
returns-clause-found c =
    on_ok c.put_gathered.result
    (stand_gathered c.args.shards c.args.commands.now c.in_ok-maps.maps.items c.add_all.new.maps.items c.put_gathered.new.keys.items
    c.requires.named c.in_ok-maps.ensures c.in_ok-add_all.ensures)
    c.put_gathered.ensures.put
