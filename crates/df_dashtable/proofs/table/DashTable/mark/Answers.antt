use Rattle.df_dashtable.proofs.TouchLaws.{marked_table, marked_same, mark_moves, table_once}
use Rattle.df_dashtable.proofs.CountLaws.{marked_counted}
use Rattle.df_dashtable.specs.Tables.{Table}
use Rattle.df_dashtable.proofs.table.DashTable.mark.Goals as goal

pub invariant_of-self : goal.invariant_of-self
invariant_of-self g c =
    let w = rw (← c.self.view_is) at c.requires.segment in
    let i = rw (← c.self.view_is) at c.requires.bucket in
    rw c.mark_in.ensures (
      marked_table c.self.inside.version c.self.inside.depth c.self.inside.directory.items c.self.inside.segments.items c.self.invariant.0 c.args.s c.args.b w i,
      (c.self.invariant.1.0, marked_counted c.self.inside.len c.self.inside.staged c.self.inside.segments.items c.args.s c.args.b c.self.inside.version w i c.self.invariant.1.1),
    )

pub returns-clause-same : goal.returns-clause-same
returns-clause-same g c =
    let w = rw (← c.self.view_is) at c.requires.segment in
    let i = rw (← c.self.view_is) at c.requires.bucket in
    let t : Table g.row.V.Denot = record { version = c.self.inside.version; depth = c.self.inside.depth; directory = c.self.inside.directory.items; segments = c.self.inside.segments.items } in
    rw (c.mark_in.ensures, ← c.self.view_is) (marked_same t c.args.s c.args.b w i)

pub returns-clause-moves : goal.returns-clause-moves
returns-clause-moves g c =
    let w = rw (← c.self.view_is) at c.requires.segment in
    let i = rw (← c.self.view_is) at c.requires.bucket in
    let t : Table g.row.V.Denot = record { version = c.self.inside.version; depth = c.self.inside.depth; directory = c.self.inside.directory.items; segments = c.self.inside.segments.items } in
    rw (c.mark_in.ensures, ← c.self.view_is)
    (mark_moves t c.args.s c.args.b w i
    (table_once c.self.inside.version c.self.inside.depth c.self.inside.directory.items c.self.inside.segments.items c.self.invariant.0 c.self.inside.version))
