use Rattle.df_sessions.proofs.seat.Seat+L+Desk.shrink.Goals as goal

pub invariant_of-self : goal.invariant_of-self
invariant_of-self g c = c.shrink.ensures.going c.self.invariant
