use Rattle.std.proofs.Common.{◌≡◌, List, length}
use Rattle.std.specs.Prelude.{Ok}
use Rattle.df_rdbcore.specs.Texts.{IsText}
use Rattle.df_rdbcore.specs.Parts.{Both, InTurn, NoneTwice, Pair, firsts, fields_of}
use Rattle.df_rdbload.specs.Sources.{Reads}
use Rattle.df_rdbload.proofs.SourceLaws.{Never}
use Rattle.df_rdbload.proofs.values.fields.Given as goal

abbrev pub invariant-fields : goal.invariant-fields
invariant-fields g l = record {
  pairs : List Pair;
  read : Reads (InTurn (Both IsText IsText)) Never (Ok pairs) (g.K.Disk.stored l.fn.disk) (g.K.Disk.stored l.disk) (g.K.Disk.faults l.fn.disk) (g.K.Disk.faults l.disk) l.fn.source l.source;
  count : length pairs ≡ l._at;
  once : NoneTwice (firsts pairs);
  fields : l.hash.fields ≡ fields_of pairs;
}
