use Rattle.df_server.proofs.AloneLaws.{holds_on, ends_alone}
use Rattle.df_server.proofs.pipe.serve_alone.Goals as goal

pub turns-preserved : goal.turns-preserved
turns-preserved g c =
    holds_on c.args.seat.first c.turns.table.keys c.go_on.new.table.keys c.turns.seat c.go_on.new.self c.turns.invariant c.in-Moved.ensures.sat c.in-Moved.ensures.ran c.in-Moved.ensures.due

pub returns-in-Ended : goal.returns-in-Ended
returns-in-Ended g c =
    ends_alone c.in-Ended.field-0 c.args.seat.first c.turns.table.keys c.go_on.new.table.keys c.turns.seat c.go_on.new.self c.finish.result c.turns.invariant c.in-Ended.ensures.sat c.in-Ended.ensures.ran c.finish.ensures
