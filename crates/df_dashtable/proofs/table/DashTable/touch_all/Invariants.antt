use Rattle.std.proofs.Common.{◌≡◌, ◌<◌, ℕ, length}
use Rattle.df_dashtable.specs.Tables.{Same, IsNewer, Sends, segment_at}
use Rattle.df_dashtable.proofs.table.DashTable.touch_all.Given as goal

abbrev pub invariant-segments : goal.invariant-segments
invariant-segments g l = record {
  same : Same l.fn.self l.self;
  version : l.self.version ≡ l.fn.self.version;
  long : length l.self.segments ≡ length l.fn.self.segments;
  newer : (s b : ℕ) → s < l.s → b < length (segment_at l.self.segments s).buckets → IsNewer l.self s b;
  takes : g.H.Hook.takes l.hook ≡ g.H.Hook.takes l.fn.hook;
  sends : Sends (g.H.Hook.takes l.fn.hook) (g.H.Hook.holds l.fn.hook) (g.H.Hook.holds l.hook) l.fn.self l.self;
}
