use Rattle.std.proofs.Common.{◌≡◌, drop}
use Rattle.df_model.specs.Meaning.Any.{without_keys}
use Rattle.df_table.proofs.several.del.Given as goal

abbrev pub invariant-words : goal.invariant-words
invariant-words l = record {
  left : without_keys (drop l.word-index l.words) l.table.keys ≡ without_keys l.words l.fn.table.keys;
  kept : l.table.kept ≡ l.fn.table.kept;
}
