use Rattle.std.proofs.Common.{length, ap, ◌∙◌, sym, subst}
use Rattle.std.specs.Prelude.{is_some}
use Rattle.df_outside.specs.Links.{Flow}
use Rattle.df_conn.specs.Turns.{IsGoing, is_away}
use Rattle.df_desk.specs.States.{DeskState}
use Rattle.df_sessions.proofs.SeatLaws.{spent_told}
use Rattle.df_sessions.proofs.seat.Seat+L+Desk.new.Goals as goal

pub returns : goal.returns
returns g c =
    let conn = c.new-2.result in
    let first : Flow = g.L.Link.flow conn.first.value in
    let now : Flow = g.L.Link.flow conn.link in
    let flows = c.new-2.ensures.going.flows in record {
      id_is = c.new-2.ensures.id;
      going = subst IsGoing (sym c.new-2.ensures.open) tt;
      none = ap (λ (d : DeskState). d.ran) c.new-2.ensures.caller ∙ c.new.ensures.ran;
      first_is = ap g.L.Link.flow c.new-2.ensures.first;
      limited = λ told. spent_told first.left now.left (length flows.bytes) flows.left (ap (λ l. is_some (g.L.Link.flow l).left) c.new-2.ensures.first ∙ told);
      due = ap (λ (d : DeskState). d.calling.due) c.new-2.ensures.caller ∙ ap (λ k. k.due) c.new.ensures.calling;
      away_is = ap is_away c.new-2.ensures.open;
    }
