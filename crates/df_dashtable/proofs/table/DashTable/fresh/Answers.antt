use Rattle.df_dashtable.proofs.table.DashTable.fresh.Goals as goal

pub returns : goal.returns
returns g c = rw (← c.self.view_is) (λ s b w v o. (c.self.invariant.0.reached s w b v).fresh o)
