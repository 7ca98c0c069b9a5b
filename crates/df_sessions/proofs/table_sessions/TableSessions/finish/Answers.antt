use Rattle.std.proofs.Common.{ap, subst, ◌∙◌}
use Rattle.df_sessions.specs.AllSessions.{AllSessions, Holds, Promises, Crowd}
use Rattle.df_sessions.proofs.SessionLaws.{ends}
use Rattle.df_sessions.proofs.CrowdLaws.{crowd_ends}
use Rattle.df_sessions.proofs.table_sessions.TableSessions.finish.Goals as goal

pub returns-clause-promises : goal.returns-clause-promises
returns-clause-promises g c =
    let r = c.self.inside in
    let none = ap (λ (v : AllSessions). v.seats) c.self.view_is ∙ c.requires in
    subst (λ (v : AllSessions). Promises v.start v.count r.gone.items) c.self.view_is
    (ends r.start.value.keys r.table.keys r.count r.gone.items (subst (λ s. Holds r.start.value.keys r.table.keys r.count s r.gone.items) none c.self.invariant.0))

pub returns-clause-late : goal.returns-clause-late
returns-clause-late g c =
    let r = c.self.inside in
    let none = ap (λ (v : AllSessions). v.seats) c.self.view_is ∙ c.requires in
    crowd_ends r.count r.gone.items (subst (λ s. Crowd r.count s r.gone.items) none c.self.invariant.4)
