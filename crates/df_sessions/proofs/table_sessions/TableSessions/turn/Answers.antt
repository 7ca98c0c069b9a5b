use Rattle.std.proofs.Common.{◌≡◌, ◌<◌, true, length, set, sym, subst, ap, ◌∙◌, arith}
use Rattle.std.specs.List.{swap_remove}
use Rattle.std.proofs.lemmas.List.{length-set, get_or-set_same}
use Rattle.df_model.specs.declared.session.Why.{Why}
use Rattle.df_conn.specs.Turns.{IsGoing, StaysServed}
use Rattle.df_sessions.specs.Sessions.{Sitting}
use Rattle.df_conn.specs.declared.conn.Stage.TheVariants as stages
use Rattle.df_sessions.specs.AllSessions.{AllSessions, Holds, AllGoing, EndsFor, IsToldSo, Crowd, asks_with}
use Rattle.df_sessions.proofs.ListLaws.{all_set, all_without_set}
use Rattle.df_sessions.proofs.SeatLaws.{away_alike}
use Rattle.df_sessions.proofs.SessionLaws.{serves, leaves, one_ended}
use Rattle.df_sessions.proofs.CrowdLaws.{crowd_turns, crowd_leaves}
use Rattle.df_sessions.proofs.table_sessions.TableSessions.turn.Goals as goal

over_same : (a b : Why) → stages.Over a ≡ stages.Over b → a ≡ b
over_same a b e = cc

pub invariant_of-self : goal.invariant_of-self
invariant_of-self g c =
    let r = c.self.inside in
    let was = c.index_mut-seat.result.now in
    let now = c.go_on.new.self in
    let lt = subst (λ (v : AllSessions). c.args.at < length v.seats) (sym c.self.view_is) c.requires.at in (
      serves r.start.value.keys r.table.keys c.go_on.new.table.keys r.count r.seats.items r.gone.items c.args.at was now c.self.invariant.0 lt c.index_mut-seat.ensures.value c.in-Moved.ensures.sat.id c.in-Moved.ensures.sat.first c.in-Moved.ensures.ran,
      all_set (λ (x : Sitting). IsGoing x.stage) r.seats.items c.args.at now c.self.invariant.1 c.in-Moved.ensures.sat.stage,
      c.self.invariant.2,
      c.self.invariant.3,
      crowd_turns r.count r.seats.items r.gone.items c.args.at was now c.self.invariant.4 lt c.index_mut-seat.ensures.value c.in-Moved.ensures.sat.id c.in-Moved.ensures.sat.stage c.in-Moved.ensures.sat.served,
    )

pub invariant_of-self-in-NotYet : goal.invariant_of-self-in-NotYet
invariant_of-self-in-NotYet g c =
    let r = c.self.inside in
    let was = c.index_mut-seat.result.now in
    let now = c.go_on.new.self in
    let lt = subst (λ (v : AllSessions). c.args.at < length v.seats) (sym c.self.view_is) c.requires.at in (
      serves r.start.value.keys r.table.keys c.go_on.new.table.keys r.count r.seats.items r.gone.items c.args.at was now c.self.invariant.0 lt c.index_mut-seat.ensures.value c.in-NotYet.ensures.sat.id c.in-NotYet.ensures.sat.first c.in-NotYet.ensures.ran,
      all_set (λ (x : Sitting). IsGoing x.stage) r.seats.items c.args.at now c.self.invariant.1 c.in-NotYet.ensures.sat.stage,
      c.self.invariant.2,
      c.self.invariant.3,
      crowd_turns r.count r.seats.items r.gone.items c.args.at was now c.self.invariant.4 lt c.index_mut-seat.ensures.value c.in-NotYet.ensures.sat.id c.in-NotYet.ensures.sat.stage c.in-NotYet.ensures.sat.served,
    )

pub invariant_of-self-in-Ended : goal.invariant_of-self-in-Ended
invariant_of-self-in-Ended g c =
    let r = c.self.inside in
    let at = c.args.at in
    let was = c.index_mut-seat.result.now in
    let now = c.go_on.new.self in
    let seats = r.seats.items in
    let K = c.go_on.new.table.keys in
    let removed = c.swap_remove-seat.result in
    let p = c.finish.result in
    let lt = subst (λ (v : AllSessions). at < length v.seats) (sym c.self.view_is) c.requires.at in
    let h = serves r.start.value.keys r.table.keys K r.count seats r.gone.items at was now c.self.invariant.0 lt c.index_mut-seat.ensures.value c.in-Ended.ensures.sat.id c.in-Ended.ensures.sat.first c.in-Ended.ensures.ran in
    let same : removed ≡ now = c.swap_remove-seat.ensures.value ∙ get_or-set_same seats at now removed lt in
    let why : p.why ≡ c.in-Ended.why = over_same p.why c.in-Ended.why (sym c.finish.ensures.over ∙ ap (λ (x : Sitting). x.stage) same ∙ c.in-Ended.ensures.sat.stage) in
    let told : IsToldSo (r.asked ≡ true) p = λ e.
    away_alike (r.asked ≡ true) now.id p.id now.first p.first now.flow p.flow (c.finish.ensures.id ∙ ap (λ (x : Sitting). x.id) same) (c.finish.ensures.first ∙ ap (λ (x : Sitting). x.first) same) (c.finish.ensures.flow ∙ ap (λ (x : Sitting). x.flow) same)
    (c.in-Ended.ensures.sat.halts.1 (sym why ∙ e)) in
    let gone = leaves r.start.value.keys K r.count (set seats at now) r.gone.items at removed p h (omega (arith, lt, length-set seats at now)) c.swap_remove-seat.ensures.value c.finish.ensures.id c.finish.ensures.first c.finish.ensures.told c.finish.ensures.spoken in
    let stays = subst (λ w. StaysServed was.stage (stages.Over w)) (sym why) (subst (StaysServed was.stage) c.in-Ended.ensures.sat.stage c.in-Ended.ensures.sat.served) in
    let crowd = crowd_leaves r.count seats r.gone.items at was now removed p c.self.invariant.4 lt c.index_mut-seat.ensures.value stays (c.finish.ensures.id ∙ ap (λ (x : Sitting). x.id) same ∙ c.in-Ended.ensures.sat.id) in (
      subst (λ l. Holds r.start.value.keys K r.count l c.push_reserved.new.self.items) (sym c.swap_remove-seat.ensures.items)
          (subst (λ l. Holds r.start.value.keys K r.count (swap_remove (set seats at now) at removed) l) (sym c.push_reserved.ensures.items) gone),
      subst AllGoing (sym c.swap_remove-seat.ensures.items) (all_without_set (λ (x : Sitting). IsGoing x.stage) seats at now removed lt c.self.invariant.1),
      omega (arith, c.self.invariant.2, c.swap_remove-seat.ensures.len, c.push_reserved.ensures.len, c.push_reserved.ensures.capacity),
      subst (λ b. EndsFor b c.push_reserved.new.self.items) (sym c.asks_also-self-inside.ensures)
          (subst (EndsFor (asks_with r.asked c.in-Ended.why)) (sym c.push_reserved.ensures.items) (one_ended r.asked c.in-Ended.why r.gone.items p c.self.invariant.3 why c.in-Ended.ensures.sat.halts.0 told)),
      subst (λ l. Crowd r.count l c.push_reserved.new.self.items) (sym c.swap_remove-seat.ensures.items) (subst (Crowd r.count (swap_remove (set seats at now) at removed)) (sym c.push_reserved.ensures.items) crowd),
    )
