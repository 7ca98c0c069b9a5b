use Rattle.std.proofs.Common.{arith}
use Rattle.df_sessions.proofs.CrowdLaws.{served_most}
use Rattle.df_sessions.proofs.welcome.Welcome.of_next.Goals as goal

pub returns-then-seats-lt-MAX_OPEN-clause-due : goal.returns-then-seats-lt-MAX_OPEN-clause-due
returns-then-seats-lt-MAX_OPEN-clause-due g c = omega (arith, served_most c.args.seats.now, c.if-seats-lt-MAX_OPEN.true)
