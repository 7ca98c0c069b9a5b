use Rattle.df_dashtable.proofs.TableLaws.{raised_older, raised_table}
use Rattle.df_dashtable.proofs.table.DashTable.raise.Goals as goal

pub returns-clause-older : goal.returns-clause-older
returns-clause-older g c =
    let above = rw (← c.self.view_is) at c.requires.above in
    raised_older c.self.inside.version c.args.version c.self.inside.segments.items above c.self.invariant.0.reached

pub invariant_of-self : goal.invariant_of-self
invariant_of-self g c =
    let above = rw (← c.self.view_is) at c.requires.above in
    let none = rw (← c.self.view_is) at c.requires.settled in
    (raised_table c.self.inside.version c.args.version c.self.inside.depth c.self.inside.directory.items c.self.inside.segments.items above none c.self.invariant.0, c.self.invariant.1)
