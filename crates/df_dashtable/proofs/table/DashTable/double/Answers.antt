use Rattle.std.proofs.Common.{length, ap, arith}
use Rattle.df_dashtable.proofs.HashLaws.{pow_bound}
use Rattle.df_dashtable.proofs.SplitLaws.{doubled_table}
use Rattle.df_dashtable.proofs.table.DashTable.double.Goals as goal

pub doubled-requires : goal.doubled-requires
doubled-requires g c =
    let low = rw (← c.self.view_is) at c.requires in
    let e = ap length c.as_slice.ensures.value in
    let w = c.self.invariant.0.whole in
    let b = pow_bound c.self.inside.depth low in
    omega arith

pub invariant_of-self : goal.invariant_of-self
invariant_of-self g c =
    let low = rw (← c.self.view_is) at c.requires in
    let same = c.as_slice.ensures.value in (
      doubled_table c.self.inside.version c.self.inside.depth c.self.inside.directory.items c.in_ok-directory.directory.items c.self.inside.segments.items c.self.invariant.0 low
          (rw same at c.in_ok-directory.ensures.long)
          (rw same at c.in_ok-directory.ensures.places),
      c.self.invariant.1,
    )
