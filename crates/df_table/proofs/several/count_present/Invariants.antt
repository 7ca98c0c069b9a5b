use Rattle.std.proofs.Common.{◌≡◌, ◌+◌, ◌≤◌, drop}
use Rattle.df_model.specs.Meaning.Any.{present}
use Rattle.df_table.proofs.several.count_present.Given as goal

abbrev pub invariant-words : goal.invariant-words
invariant-words l = record {
  few : l.count ≤ l.word-index;
  so_far : l.count + present l.table.keys (drop l.word-index l.words) ≡ present l.table.keys l.words;
}
