use Rattle.std.proofs.Common.{length}
use Rattle.df_print.proofs.WriteLaws.{WroteBut}
use Rattle.df_print.proofs.write.write_all.Given as goal

abbrev pub invariant-writes : goal.invariant-writes
invariant-writes g l = WroteBut l.fn.piece l.rest (g.O.Sink.outflow l.fn.out) (g.O.Sink.outflow l.out)

abbrev pub decreases-writes : goal.decreases-writes
decreases-writes g l = length l.rest
