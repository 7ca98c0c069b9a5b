use Rattle.std.proofs.Common.{◌≡◌, ◌≤◌, length, reverse, ◌++◌}
use Rattle.df_values.proofs.edit.push_front.Given as goal

abbrev pub invariant-words : goal.invariant-words
invariant-words l = (reverse l.word-iterator.rest.items ++ l.list.items ≡ reverse l.fn.words.items ++ l.fn.list.items) × (length l.word-iterator.rest.items ≤ l.list.spare)
