use Rattle.std.proofs.Common.{◌≡◌, List, length}
use Rattle.std.specs.Prelude.{Ok}
use Rattle.df_model.specs.Values.{Bytes}
use Rattle.df_rdbcore.specs.Texts.{IsText}
use Rattle.df_rdbcore.specs.Parts.{InTurn, NoneTwice, members_of}
use Rattle.df_rdbload.specs.Sources.{Reads}
use Rattle.df_rdbload.proofs.SourceLaws.{Never}
use Rattle.df_rdbload.proofs.values.members.Given as goal

abbrev pub invariant-members : goal.invariant-members
invariant-members g l = record {
  texts : List Bytes;
  read : Reads (InTurn IsText) Never (Ok texts) (g.K.Disk.stored l.fn.disk) (g.K.Disk.stored l.disk) (g.K.Disk.faults l.fn.disk) (g.K.Disk.faults l.disk) l.fn.source l.source;
  count : length texts ≡ l._at;
  once : NoneTwice texts;
  members : l.set.members ≡ members_of texts;
}
