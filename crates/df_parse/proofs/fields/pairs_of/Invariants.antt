use Rattle.std.proofs.Common.{◌≡◌, ◌+◌, ◌*◌, ◌/◌, length}
use Rattle.df_model.specs.Reads.Shapes
use Rattle.df_parse.specs.Reading.{prepended}
use Rattle.df_parse.proofs.fields.pairs_of.Given as goal

abbrev pub invariant-pairs : goal.invariant-pairs
invariant-pairs l = record {
  read : Shapes.pairs_of l.words ≡ prepended l.list.items (Shapes.pairs_of l.rest);
  spare : l.list.spare + length l.list.items ≡ length l.words / 2;
  left : 2 * length l.list.items + length l.rest ≡ length l.words;
}

abbrev pub decreases-pairs : goal.decreases-pairs
decreases-pairs l = length l.rest
