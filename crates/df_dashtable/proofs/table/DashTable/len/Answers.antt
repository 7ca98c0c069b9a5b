use Rattle.df_dashtable.proofs.CountLaws.{len_is}
use Rattle.df_dashtable.proofs.table.DashTable.len.Goals as goal

pub returns : goal.returns
returns g c = rw (← c.self.view_is) (len_is c.self.inside.len c.self.inside.staged c.self.inside.segments.items c.self.invariant.1.1)
