use Rattle.df_dashtable.proofs.ClearLaws.{cleared_table, cleared_entries, cleared_visible, cleared_older}
use Rattle.df_dashtable.proofs.CountLaws.{cleared_counted}
use Rattle.df_dashtable.proofs.table.DashTable.clear.Goals as goal

pub invariant_of-self : goal.invariant_of-self
invariant_of-self g c =
    rw c.clear_all.ensures (
      cleared_table c.self.inside.version c.self.inside.depth c.self.inside.directory.items c.self.inside.segments.items c.self.invariant.0,
      (c.self.invariant.1.0, cleared_counted c.self.inside.len c.self.inside.staged c.self.inside.segments.items c.self.invariant.1.1),
    )

pub returns-clause-entries : goal.returns-clause-entries
returns-clause-entries g c = rw (← c.self.view_is, c.clear_all.ensures) (cleared_entries c.self.inside.segments.items)

pub returns-clause-visible : goal.returns-clause-visible
returns-clause-visible g c = rw c.clear_all.ensures (cleared_visible c.self.inside.segments.items)

pub returns-clause-older : goal.returns-clause-older
returns-clause-older g c = rw c.clear_all.ensures (cleared_older c.self.inside.version c.self.inside.segments.items)
