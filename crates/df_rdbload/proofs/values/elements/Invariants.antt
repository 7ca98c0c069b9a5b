use Rattle.std.proofs.Common.{◌≡◌, length}
use Rattle.std.specs.Prelude.{Ok}
use Rattle.df_rdbcore.specs.Texts.{IsText}
use Rattle.df_rdbcore.specs.Parts.{InTurn}
use Rattle.df_rdbload.specs.Sources.{Reads}
use Rattle.df_rdbload.proofs.SourceLaws.{Never}
use Rattle.df_rdbload.proofs.values.elements.Given as goal

abbrev pub invariant-elements : goal.invariant-elements
invariant-elements g l = record {
  read : Reads (InTurn IsText) Never (Ok l.list.items) (g.K.Disk.stored l.fn.disk) (g.K.Disk.stored l.disk) (g.K.Disk.faults l.fn.disk) (g.K.Disk.faults l.disk) l.fn.source l.source;
  count : length l.list.items ≡ l._at;
}
