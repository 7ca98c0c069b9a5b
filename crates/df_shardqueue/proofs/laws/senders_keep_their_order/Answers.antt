use Rattle.df_shardqueue.proofs.SenderLemmas.{join_keeps, joins_alone, is_front}
use Rattle.df_shardqueue.proofs.laws.senders_keep_their_order.Goals as goal

pub returns-clause-join : goal.returns-clause-join
returns-clause-join g c = join_keeps

pub returns-clause-alone : goal.returns-clause-alone
returns-clause-alone g c = joins_alone

pub returns-clause-front : goal.returns-clause-front
returns-clause-front g c = is_front
