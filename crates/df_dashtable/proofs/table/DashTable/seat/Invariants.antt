use Rattle.std.proofs.Common.{◌≡◌}
use Rattle.df_dashtable.specs.Tables.{Same, Sends}
use Rattle.df_dashtable.proofs.table.DashTable.seat.Given as goal

abbrev pub invariant-rounds : goal.invariant-rounds
invariant-rounds g l = record {
  same : Same l.fn.self l.self;
  version : l.self.version ≡ l.fn.self.version;
  takes : g.H.Hook.takes l.hook ≡ g.H.Hook.takes l.fn.hook;
  sends : Sends (g.H.Hook.takes l.fn.hook) (g.H.Hook.holds l.fn.hook) (g.H.Hook.holds l.hook) l.fn.self l.self;
}
