use Rattle.std.proofs.Common.{◌≡◌, drop}
use Rattle.df_hashes.specs.Counts.{has}
use Rattle.df_hashes.proofs.count.is_word.Given as goal

abbrev pub invariant-words : goal.invariant-words
invariant-words l = has (drop l.other-index l.words) l.word ≡ has l.words l.word
