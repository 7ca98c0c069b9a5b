use Rattle.df_dashtable.proofs.KeyLaws.{newer_none}
use Rattle.df_dashtable.proofs.table.DashTable.touched.Goals as goal

pub returns : goal.returns
returns g c =
    let stands = rw (← c.self.view_is) at c.requires.stands in
    let newer = rw (← c.self.view_is) at c.requires.newer in
    rw (← c.self.view_is)
    (newer_none c.self.inside.version c.self.inside.depth c.self.inside.directory.items c.self.inside.segments.items c.self.invariant.0
    c.args.key.now c.args.at (stands.0, (stands.1.0, stands.1.1.0)) stands.1.1.1 newer)
