use Rattle.std.specs.Prelude.{Ok}
use Rattle.df_rdbload.specs.Sources.{Reads, room}
use Rattle.df_rdbload.specs.Entries.{IsGathered}
use Rattle.df_rdbload.proofs.SourceLaws.{Never}
use Rattle.df_rdbload.proofs.parts.parts.Given as goal

abbrev pub invariant-parts : goal.invariant-parts
invariant-parts g l = Reads IsGathered Never (Ok l.keys.entries) (g.K.Disk.stored l.fn.disk) (g.K.Disk.stored l.disk) (g.K.Disk.faults l.fn.disk) (g.K.Disk.faults l.disk) l.fn.source l.source

abbrev pub decreases-parts : goal.decreases-parts
decreases-parts g l = room l.source
