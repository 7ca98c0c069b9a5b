use Rattle.std.proofs.Common.{◌≡◌, ◌≤◌, take, drop}
use Rattle.std.specs.VecDeque.{deque_len, deque_capacity}
use Rattle.df_list.proofs.removal.keep.Given as goal

abbrev pub invariant-front : goal.invariant-front
invariant-front l = record {
  items : drop l.left l.queue.items ≡ drop l.fn.start (take l.fn.stop l.fn.queue.items);
  len : deque_len l.queue ≤ deque_len l.fn.queue;
  capacity : deque_capacity l.queue ≡ deque_capacity l.fn.queue;
}

abbrev pub decreases-front : goal.decreases-front
decreases-front l = l.left
