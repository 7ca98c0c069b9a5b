-- What a clause says of a queue and its passes.
use Rattle.std.specs.Prelude.{ℕ, List, Option}
use Rattle.crossbeam_queue.specs.Passes as passes
use Rattle.df_shardqueue.specs.Kept.{Lives, share_of}
use Rattle.df_shardqueue.specs.Placed.{items_of}
use Rattle.df_shardqueue.specs.Shares.{Share, IsAll}
use Rattle.df_shardqueue.specs.declared.queue.QueuePass.{QueuePass}
use Rattle.df_shardqueue.specs.declared.queue.ShardQueue.{ShardQueue}

module _ {M K : Type 0} where
  -- it is a pass of this queue, and was not joined into another
  abbrev pub IsOf : ShardQueue M K → QueuePass M K → Type 0
  IsOf q p = passes.IsPassOf q.line p.pass × Lives (passes.view p.pass)

  -- the mark of the pass, and of its queue
  abbrev pub mark_of : QueuePass M K → Option K
  mark_of p = (passes.view p.pass).mark

  -- what was pushed by it and by those joined into it, with places, in the order of the queue
  abbrev pub sent : QueuePass M K → List (ℕ × M)
  sent p = (passes.view p.pass).sent

  -- what was popped by them
  abbrev pub taken : QueuePass M K → List (ℕ × M)
  taken p = (passes.view p.pass).taken

  -- the items alone
  abbrev pub pushed : QueuePass M K → List M
  pushed p = items_of (sent p)

  abbrev pub popped : QueuePass M K → List M
  popped p = items_of (taken p)

  abbrev pub part_of : QueuePass M K → Share
  part_of p = share_of (passes.view p.pass)

  -- every other pass of the queue was joined into it
  abbrev pub IsWhole : QueuePass M K → Type 0
  IsWhole p = IsAll (part_of p)

abbrev pub capacity : {M K : Type 0} → ShardQueue M K → ℕ
capacity q = passes.ruled_capacity q.line
