use Rattle.std.proofs.Common.{◌+◌, ◌∷◌, ◌++◌, [], sym, ap, subst, ◌∙◌, arith}
use Rattle.df_outside.specs.Doors.{IsFresh}
use Rattle.df_conn.specs.Turns.{IsGoing}
use Rattle.df_sessions.specs.Sessions.{Sitting}
use Rattle.df_sessions.specs.AllSessions.{AllSessions, Holds, AllGoing, EndsFor, Crowd, Enters, count_served}
use Rattle.df_sessions.specs.Welcomes.{IsDue}
use Rattle.df_sessions.proofs.ListLaws.{all_push}
use Rattle.df_sessions.proofs.EntryLaws.{shut_told}
use Rattle.df_sessions.proofs.SessionLaws.{enters}
use Rattle.df_sessions.proofs.CrowdLaws.{crowd_enters, may_enter}
use Rattle.df_sessions.proofs.table_sessions.TableSessions.admit.Goals as goal

pub invariant_of-self-in-Link : goal.invariant_of-self-in-Link
invariant_of-self-in-Link g c =
    let r = c.self.inside in
    let s = c.seat.result in
    let seats = c.push_reserved.ensures.items ∙ ap (λ l. l ++ s ∷ []) c.reserve.ensures.items in (
      subst (λ l. Holds r.start.value.keys r.table.keys (r.count + 1) l c.reserve-2.new.self.items) (sym seats)
          (subst (λ l. Holds r.start.value.keys r.table.keys (r.count + 1) (r.seats.items ++ s ∷ []) l) (sym c.reserve-2.ensures.items)
          (enters r.start.value.keys r.table.keys r.count r.seats.items r.gone.items s c.self.invariant.0 c.seat.ensures.id_is c.seat.ensures.none (subst IsFresh (sym c.seat.ensures.first_is) c.in-Link.ensures.fresh))),
      subst AllGoing (sym seats) (all_push (λ (x : Sitting). IsGoing x.stage) r.seats.items s c.self.invariant.1 c.seat.ensures.going),
      omega (arith, c.push_reserved.ensures.len, c.reserve.ensures.len, c.reserve-2.ensures.len, c.in-Ok-reserve.ensures.ok, c.len.ensures),
      subst (EndsFor r.asked) (sym c.reserve-2.ensures.items) c.self.invariant.3,
      subst (λ l. Crowd (r.count + 1) l c.reserve-2.new.self.items) (sym seats)
          (subst (Crowd (r.count + 1) (r.seats.items ++ s ∷ [])) (sym c.reserve-2.ensures.items)
          (crowd_enters r.count r.seats.items r.gone.items s c.self.invariant.4 c.seat.ensures.id_is (may_enter c.in-Some.welcome r.seats.items s c.self.invariant.4.most c.seat.ensures.away_is (subst (λ l. IsDue c.in-Some.welcome (count_served l)) c.as_slice.ensures.value c.in-Some.ensures.due)))),
    )

pub returns-in-Link-clause-enters : goal.returns-in-Link-clause-enters
returns-in-Link-clause-enters g c =
    let r = c.self.inside in
    let s = c.seat.result in
    let seats = c.push_reserved.ensures.items ∙ ap (λ l. l ++ s ∷ []) c.reserve.ensures.items in
    subst (λ (v : AllSessions). Enters v.seats c.push_reserved.new.self.items) c.self.view_is
    (s, seats, may_enter c.in-Some.welcome r.seats.items s c.self.invariant.4.most c.seat.ensures.away_is (subst (λ l. IsDue c.in-Some.welcome (count_served l)) c.as_slice.ensures.value c.in-Some.ensures.due))

pub returns-in-Closed-clause-meets : goal.returns-in-Closed-clause-meets
returns-in-Closed-clause-meets g c = (c.in-Closed.ensures.0, c.in-Closed.ensures.2, ap (λ (v : AllSessions). v.count) c.self.view_is, shut_told _ _ c.in-Closed.ensures.1)
