use Rattle.df_model.specs.Values.{Bytes}
use Rattle.df_print.proofs.WriteLaws.{wrote_more, whole_rest}
use Rattle.df_print.proofs.write.write_all.Goals as goal

pub writes-preserved : goal.writes-preserved
writes-preserved g c =
    let rest : Bytes = c.writes.rest.now in
    wrote_more c.args.piece.now rest _ c.in-Took.count (g.O.Sink.outflow c.args.out.now) (g.O.Sink.outflow c.writes.out) (g.O.Sink.outflow c.write.new.self) c.writes.invariant
    (whole_rest c.in-Took.count rest) c.in-Took.ensures.2 c.in-Took.ensures.3
