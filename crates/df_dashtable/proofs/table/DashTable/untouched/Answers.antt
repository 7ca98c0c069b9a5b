use Rattle.df_dashtable.proofs.KeyLaws.{absent_older}
use Rattle.df_dashtable.proofs.table.DashTable.untouched.Goals as goal

pub returns : goal.returns
returns g c =
    let none = rw (← c.self.view_is) at c.requires in
    rw (← c.self.view_is)
    (absent_older c.self.inside.version c.self.inside.depth c.self.inside.directory.items c.self.inside.segments.items c.self.invariant.0 c.self.inside.version c.args.key.now none)
