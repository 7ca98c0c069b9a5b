use Rattle.std.proofs.Common.{◌≡◌, ◌-◌, ◌++◌, [], length}
use Rattle.df_book.specs.Passes.{shard_passes}
use Rattle.df_book.specs.Deals.{dealing}
use Rattle.df_book.proofs.opening.BookOf+Said+Ruling.deal.Given as goal

abbrev pub invariant-loop-shard : goal.invariant-loop-shard
invariant-loop-shard l = (l.first.table_id ≡ l.initial.first.table_id) × (l.first.me ≡ (dealing l.draws l.shard (l.logs - l.shard), []))
    × (l.passes.items ++ shard_passes l.first.table_id l.shard (l.logs - l.shard) ≡ shard_passes l.first.table_id 0 l.logs) × (l.passes.cap ≡ l.initial.passes.cap) × (length l.passes.items ≡ l.shard)
