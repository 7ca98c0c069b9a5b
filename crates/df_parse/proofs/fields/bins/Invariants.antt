use Rattle.std.proofs.Common.{◌≡◌, ◌+◌, length, take}
use Rattle.df_parse.proofs.fields.bins.Given as goal

abbrev pub invariant-words : goal.invariant-words
invariant-words l = record {
  items : l.list.items ≡ take l.word-index l.words;
  spare : l.list.spare + l.word-index ≡ length l.words;
}
