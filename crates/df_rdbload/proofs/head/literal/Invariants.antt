use Rattle.std.specs.Prelude.{Ok}
use Rattle.df_rdbload.specs.Sources.{Reads}
use Rattle.df_rdbload.proofs.SourceLaws.{Never}
use Rattle.df_rdbload.proofs.HeadLaws.{IsFront}
use Rattle.df_rdbload.proofs.head.literal.Given as goal

abbrev pub invariant-bytes : goal.invariant-bytes
invariant-bytes g l = Reads (IsFront l.text) Never (Ok l.byte-index) (g.K.Disk.stored l.fn.disk) (g.K.Disk.stored l.disk) (g.K.Disk.faults l.fn.disk) (g.K.Disk.faults l.disk) l.fn.source l.source
