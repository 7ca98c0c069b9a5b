use Rattle.std.proofs.Common.{◌≡◌, ◌≤◌}
use Rattle.std.specs.VecDeque.{deque_len, deque_capacity}
use Rattle.df_model.specs.Meaning.Lists.{without_first}
use Rattle.df_list.proofs.TurnLaws.{turned}
use Rattle.df_list.proofs.removal.remove_first.Given as goal

abbrev pub invariant-turn : goal.invariant-turn
invariant-turn l = record {
  items : turned l.left l.wanted l.element l.queue.items ≡ without_first l.fn.most l.element l.fn.queue.items;
  left : l.left ≤ deque_len l.queue;
  len : deque_len l.queue ≤ deque_len l.fn.queue;
  capacity : deque_capacity l.queue ≡ deque_capacity l.fn.queue;
}

abbrev pub decreases-turn : goal.decreases-turn
decreases-turn l = l.left
