use Rattle.std.proofs.Common.{ap}
use Rattle.df_conn.proofs.StartLaws.{starts_away}
use Rattle.df_conn.proofs.conn.Conn.turned_away.Goals as goal

pub returns-clause-going : goal.returns-clause-going
returns-clause-going g c =
    let talk = c.new-talk.result in
    starts_away c.args.id (g.C.Caller.calling c.args.caller) (g.L.Link.flow c.of-first.result.value) (g.L.Link.flow c.args.link) talk.state talk.reader c.args.line.items talk.sent
    c.requires.idle c.requires.none (ap (λ l. g.L.Link.flow l) c.of-first.ensures) c.requires.late c.requires.line c.new-talk.ensures.sent
