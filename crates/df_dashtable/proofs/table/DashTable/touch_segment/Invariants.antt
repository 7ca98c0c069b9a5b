use Rattle.std.proofs.Common.{◌≡◌, ◌<◌, ℕ}
use Rattle.df_dashtable.specs.Tables.{Touches, IsNewer, Sends}
use Rattle.df_dashtable.proofs.table.DashTable.touch_segment.Given as goal

abbrev pub invariant-buckets : goal.invariant-buckets
invariant-buckets g l = record {
  touched : Touches l.s l.fn.self l.self;
  newer : (k : ℕ) → k < l.b → IsNewer l.self l.s k;
  takes : g.H.Hook.takes l.hook ≡ g.H.Hook.takes l.fn.hook;
  sends : Sends (g.H.Hook.takes l.fn.hook) (g.H.Hook.holds l.fn.hook) (g.H.Hook.holds l.hook) l.fn.self l.self;
}
