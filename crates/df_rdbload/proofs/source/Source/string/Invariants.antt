use Rattle.std.specs.Prelude.{Ok}
use Rattle.df_rdbload.specs.Sources.{Reads, reads_left}
use Rattle.df_rdbload.proofs.SourceLaws.{IsNothing, Never}
use Rattle.df_rdbload.proofs.source.Source.string.Given as goal

abbrev pub invariant-feed : goal.invariant-feed
invariant-feed g l = Reads IsNothing Never (Ok tt) (g.K.Disk.stored l.fn.disk) (g.K.Disk.stored l.disk) (g.K.Disk.faults l.fn.disk) (g.K.Disk.faults l.disk) l.fn.self l.self

abbrev pub decreases-feed : goal.decreases-feed
decreases-feed g l = reads_left l.self
