use Rattle.std.proofs.Common.{length, ap, ◌∙◌, sym, subst}
use Rattle.std.specs.Prelude.{is_some}
use Rattle.df_outside.specs.Links.{Flow}
use Rattle.df_conn.specs.Turns.{IsGoing, is_away}
use Rattle.df_desk.specs.States.{DeskState}
use Rattle.df_sessions.proofs.SeatLaws.{spent_told}
use Rattle.df_sessions.proofs.seat.Seat+L+Desk.turned_away.Goals as goal

pub returns : goal.returns
returns g c =
    let conn = c.turned_away.result in
    let first : Flow = g.L.Link.flow conn.first.value in
    let now : Flow = g.L.Link.flow conn.link in
    let flows = c.turned_away.ensures.going.flows in record {
      id_is = c.turned_away.ensures.id;
      going = subst IsGoing (sym c.turned_away.ensures.closing) tt;
      none = ap (λ (d : DeskState). d.ran) c.turned_away.ensures.caller ∙ c.new.ensures.ran;
      first_is = ap g.L.Link.flow c.turned_away.ensures.first;
      limited = λ told. spent_told first.left now.left (length flows.bytes) flows.left (ap (λ l. is_some (g.L.Link.flow l).left) c.turned_away.ensures.first ∙ told);
      due = ap (λ (d : DeskState). d.calling.due) c.turned_away.ensures.caller ∙ ap (λ k. k.due) c.new.ensures.calling;
      away_is = ap is_away c.turned_away.ensures.closing;
    }
