use Rattle.df_table.proofs.SetLaws.{not_put}
use Rattle.df_table.proofs.smove.put_set.Goals as goal

pub returns-then-is_empty-clause-keys : goal.returns-then-is_empty-clause-keys
returns-then-is_empty-clause-keys c =
    not_put c.args.table.now.keys c.args.key c.args.keep c.is_empty.result c.args.set.members c.if-not-keep.true c.if-is_empty.true c.is_empty.ensures c.requires.free
