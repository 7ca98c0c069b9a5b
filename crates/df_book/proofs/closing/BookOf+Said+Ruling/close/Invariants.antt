use Rattle.std.proofs.Common.{◌≡◌, ◌++◌, [], length}
use Rattle.df_book.specs.Taken.{TakesAll}
use Rattle.df_book.proofs.closing.BookOf+Said+Ruling.close.Given as goal

abbrev pub invariant-loop-pass : goal.invariant-loop-pass
invariant-loop-pass l = (goal.iterator-loop-pass).can_next l.pass-iterator × (goal.iterator-loop-pass).is_finite l.pass-iterator × (l.yielded ++ l.pass-iterator.rest.items ≡ l.fn.shards.items)
    × (length l.pass-iterator.rest.items ≡ l.pass-iterator.rest.len) × (l.seat.table_id ≡ l.initial.seat.table_id) × (l.seat.me.1 ≡ []) × TakesAll l.initial.seat.me.0 l.yielded l.seat.me.0
