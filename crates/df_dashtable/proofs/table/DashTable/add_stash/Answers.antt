use Rattle.df_dashtable.proofs.StepLaws.{stashed_table, stashed_same, stashed_older_same}
use Rattle.df_dashtable.proofs.CountLaws.{stashed_counted}
use Rattle.df_dashtable.proofs.table.DashTable.add_stash.Goals as goal

pub invariant_of-self-2 : goal.invariant_of-self-2
invariant_of-self-2 g c =
    let w = rw (← c.self.view_is) at c.requires in
    rw c.in_ok-stash_in.ensures.ok
    (stashed_table c.self.inside.version c.self.inside.depth c.self.inside.directory.items c.self.inside.segments.items c.self.invariant.0 c.args.s w, (c.self.invariant.1.0, stashed_counted c.self.inside.len c.self.inside.staged c.self.inside.segments.items c.args.s c.self.inside.version w c.self.invariant.1.1))

pub returns-clause-same : goal.returns-clause-same
returns-clause-same g c = λ key.
    let w = rw (← c.self.view_is) at c.requires in
    rw (← c.self.view_is, c.in_ok-stash_in.ensures.ok)
    (stashed_same c.self.inside.version c.self.inside.depth c.self.inside.directory.items c.self.inside.segments.items c.self.invariant.0 c.args.s w key)

pub returns-clause-older : goal.returns-clause-older
returns-clause-older g c =
    let w = rw (← c.self.view_is) at c.requires in
    rw (← c.self.view_is, c.in_ok-stash_in.ensures.ok)
    (stashed_older_same c.self.inside.version c.self.inside.depth c.self.inside.directory.items c.self.inside.segments.items c.self.invariant.0 c.args.s w)
