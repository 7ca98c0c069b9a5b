-- What may cross threads, for the searches of crates above: a lane and a queue go where their items may go, and a queue is shared where its items may go.
use denote.RattleType.{RattleType}
use denote.Ref.{NamedLft}
use denote.Param.Send.{IsSend, IsSync}
use Rattle.df_shardqueue.specs.declared.marked.Marked as Marked
use Rattle.df_shardqueue.specs.contracts.lane.Lane as Lane
use Rattle.df_shardqueue.specs.contracts.queue.ShardQueue as Queue
use Rattle.df_shardqueue.proofs.lane.Lane.TheSendSync as of_lane
use Rattle.df_shardqueue.proofs.queue.ShardQueue.TheSendSync as of_queue

pub lane_crosses : (a : NamedLft) (M K : RattleType) (g : Marked.Ghosts M.Denot K.Denot) → IsSend M → IsSend (Lane.the_row a M K g)
lane_crosses = of_lane.the_send

pub queue_crosses : (M K : RattleType) (g : Marked.Ghosts M.Denot K.Denot) → IsSend M → IsSend (Queue.the_row M K g)
queue_crosses = of_queue.the_send

pub queue_is_shared : (M K : RattleType) (g : Marked.Ghosts M.Denot K.Denot) → IsSend M → IsSync (Queue.the_row M K g)
queue_is_shared = of_queue.the_sync

pub ruleset crosses = (lane_crosses, queue_crosses, queue_is_shared)
