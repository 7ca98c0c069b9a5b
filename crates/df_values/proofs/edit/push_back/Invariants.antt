use Rattle.std.proofs.Common.{◌≡◌, ◌≤◌, length, ◌++◌}
use Rattle.df_values.proofs.edit.push_back.Given as goal

abbrev pub invariant-words : goal.invariant-words
invariant-words l = (l.list.items ++ l.word-iterator.rest.items ≡ l.fn.list.items ++ l.fn.words.items) × (length l.word-iterator.rest.items ≤ l.list.spare)
