use Rattle.std.proofs.Common.{sym}
use Rattle.df_shard.proofs.Queues.{without-none}
use Rattle.df_shard.proofs.leaving.release.Goals as goal

pub returns-else-holds : goal.returns-else-holds
returns-else-holds c = without-none c.args.number c.args.intents.now.holders (sym c.if-holds.ensures)
