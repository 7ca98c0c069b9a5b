use Rattle.df_conn.specs.Turns.{Sight, see}
use Rattle.df_conn.proofs.LinkLaws.{starved}
use Rattle.df_conn.proofs.conn.Conn.starve.Goals as goal

pub returns-clause-turned : goal.returns-clause-turned
returns-clause-turned g c =
    let s : Sight = see c.args.self.now.id c.args.self.now.stage (g.C.Caller.calling c.args.self.now.caller) (g.L.Link.flow c.args.self.now.first.value) (g.L.Link.flow c.args.self.now.link) c.args.self.now.talk in
    starved c.args.stopping s c.requires.going c.requires.open
