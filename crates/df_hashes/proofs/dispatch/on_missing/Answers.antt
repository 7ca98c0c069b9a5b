use Rattle.df_hashes.proofs.FreshLaws.{fresh_makes}
use Rattle.df_hashes.proofs.dispatch.on_missing.Goals as goal

pub returns : goal.returns
returns c =
    fresh_makes c.args.op.now c.requires c.new-hash.result c.on_hash.new.hash c.on_hash.new.reply c.in_ok-change.change _ c.new-hash.ensures c.on_hash.ensures.kept c.in_ok-change.ensures.ok c.put_fresh.ensures
