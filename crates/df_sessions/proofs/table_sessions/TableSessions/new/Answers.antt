use Rattle.std.proofs.Common.{[], false, sym, ap, subst, arith}
use Rattle.df_sessions.specs.AllSessions.{Holds, AllGoing, EndsFor, Crowd}
use Rattle.df_sessions.proofs.SessionLaws.{starts, none_ended}
use Rattle.df_sessions.proofs.CrowdLaws.{crowd_starts}
use Rattle.df_sessions.proofs.table_sessions.TableSessions.new.Goals as goal

pub invariant_of-result : goal.invariant_of-result
invariant_of-result g c =
    let K0 = c.of-start.result.value.keys in
    let K = c.args.table.keys in (
      subst (λ s. Holds K0 K 0 s c.new-2.result.items) (sym c.new.ensures.items) (subst (λ p. Holds K0 K 0 [] p) (sym c.new-2.ensures.items) (starts K0 K (sym (ap (λ t. t.keys) c.of-start.ensures)))),
      subst AllGoing (sym c.new.ensures.items) tt,
      omega (arith, c.new.ensures.len, c.new-2.ensures.len),
      subst (EndsFor false) (sym c.new-2.ensures.items) none_ended,
      subst (λ s. Crowd 0 s c.new-2.result.items) (sym c.new.ensures.items) (subst (Crowd 0 []) (sym c.new-2.ensures.items) crowd_starts),
    )
