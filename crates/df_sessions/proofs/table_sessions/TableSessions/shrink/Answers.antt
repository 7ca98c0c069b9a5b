use Rattle.std.proofs.Common.{◌≡◌, set, sym, subst, ap, ◌∙◌}
use Rattle.std.proofs.lemmas.List.{set-get_or}
use Rattle.df_sessions.specs.AllSessions.{AllGoing, Crowd, Holds}
use Rattle.df_sessions.proofs.table_sessions.TableSessions.shrink.Goals as goal

pub invariant_of-self : goal.invariant_of-self
invariant_of-self g c =
    let r = c.self.inside in
    let seats = r.seats.items in
    let same : set seats c.args.at c.shrink.new.self ≡ seats = ap (λ x. set seats c.args.at x) (c.shrink.ensures ∙ c.index_mut.ensures.value) ∙ set-get_or seats c.args.at c.index_mut.result.now in (
      subst (λ l. Holds r.start.value.keys r.table.keys r.count l r.gone.items) (sym same) c.self.invariant.0,
      subst AllGoing (sym same) c.self.invariant.1,
      c.self.invariant.2,
      c.self.invariant.3,
      subst (λ l. Crowd r.count l r.gone.items) (sym same) c.self.invariant.4,
    )
