use Rattle.std.proofs.Common.{◌≡◌, sym, ap, subst, ◌∙◌}
use Rattle.df_outside.specs.Doors.{Hall}
use Rattle.df_sessions.specs.AllSessions.{AllSessions, Promises}
use Rattle.df_sessions.specs.Entries.{Since}
use Rattle.df_sessions.proofs.EntryLaws.{since_at, since_stays}
use Rattle.df_sessions.proofs.rounds.serve.Goals as goal
use Rattle.df_sessions.proofs.rounds.serve.Goals.{then-takes_in, else-takes_in}

pub returns-then-is_done-clause-since : goal.returns-then-is_done-clause-since
returns-then-is_done-clause-since g c =
    let first : Hall = g.D.Poller.hall c.args.door.now in
    let now : Hall = g.D.Poller.hall c.if-takes_in.door in
    let since : Since first now c.if-takes_in.sessions.count c.if-takes_in.entry = elim c.if-takes_in.branch [
      | then-takes_in w ↦
          since_at first now (g.D.Poller.hall w.welcome-entry.new.door) c.if-takes_in.sessions w.welcome-entry.new.sessions c.if-takes_in.entry w.welcome-entry.result (ap g.D.Poller.hall w.door-is) w.sessions-is w.entry-is
          (w.welcome-entry.ensures.since first (subst (λ e. Since first (g.D.Poller.hall c.rounds.door) c.rounds.sessions.count e) (c.takes_in.ensures w.if-takes_in.true) c.rounds.invariant.3))
      | else-takes_in w ↦
          since_at first now (g.D.Poller.hall c.rounds.door) c.if-takes_in.sessions c.rounds.sessions c.if-takes_in.entry c.rounds.entry (ap g.D.Poller.hall w.door-is) w.sessions-is w.entry-is c.rounds.invariant.3
    ] in
    subst (λ n. Since first now n c.if-takes_in.entry) (sym (c.count-count.ensures ∙ c.round-busy.ensures.count)) since

pub returns-then-is_done-clause-promises : goal.returns-then-is_done-clause-promises
returns-then-is_done-clause-promises g c =
    let start : c.if-takes_in.sessions.start ≡ c.args.table.keys = elim c.if-takes_in.branch [
      | then-takes_in w ↦ ap (λ (s : AllSessions). s.start) w.sessions-is ∙ w.welcome-entry.ensures.start ∙ c.rounds.invariant.2
      | else-takes_in w ↦ ap (λ (s : AllSessions). s.start) w.sessions-is ∙ c.rounds.invariant.2
    ] in
    subst (λ K. Promises K c.count-count.result c.finish.result.items) (c.round-busy.ensures.start ∙ start)
    (subst (λ n. Promises c.round-busy.new.self.start n c.finish.result.items) (sym c.count-count.ensures) c.finish.ensures.promises)

pub rounds-preserved : goal.rounds-preserved
rounds-preserved g c =
    let first : Hall = g.D.Poller.hall c.args.door.now in
    let now : Hall = g.D.Poller.hall c.if-takes_in.door in
    let since : Since first now c.if-takes_in.sessions.count c.if-takes_in.entry = elim c.if-takes_in.branch [
      | then-takes_in w ↦
          since_at first now (g.D.Poller.hall w.welcome-entry.new.door) c.if-takes_in.sessions w.welcome-entry.new.sessions c.if-takes_in.entry w.welcome-entry.result (ap g.D.Poller.hall w.door-is) w.sessions-is w.entry-is
          (w.welcome-entry.ensures.since first (subst (λ e. Since first (g.D.Poller.hall c.rounds.door) c.rounds.sessions.count e) (c.takes_in.ensures w.if-takes_in.true) c.rounds.invariant.3))
      | else-takes_in w ↦
          since_at first now (g.D.Poller.hall c.rounds.door) c.if-takes_in.sessions c.rounds.sessions c.if-takes_in.entry c.rounds.entry (ap g.D.Poller.hall w.door-is) w.sessions-is w.entry-is c.rounds.invariant.3
    ] in
    let start : c.if-takes_in.sessions.start ≡ c.args.table.keys = elim c.if-takes_in.branch [
      | then-takes_in w ↦ ap (λ (s : AllSessions). s.start) w.sessions-is ∙ w.welcome-entry.ensures.start ∙ c.rounds.invariant.2
      | else-takes_in w ↦ ap (λ (s : AllSessions). s.start) w.sessions-is ∙ c.rounds.invariant.2
    ] in (
      tt,
      tt,
      c.round-busy.ensures.start ∙ start,
      since_stays c.if-takes_in.entry first now (g.D.Poller.hall c.rest.new.self) c.if-takes_in.sessions.count c.round-busy.new.self.count since c.rest.ensures c.round-busy.ensures.count,
    )
