use Rattle.std.proofs.Common.{◌≡◌, ◌≤◌, length}
use Rattle.df_segment.specs.Entries.{Slot}
use Rattle.df_segment.proofs.KeepLaws.{Kept}
use Rattle.df_segment.proofs.bucket.Bucket.clear.Given as goal

abbrev pub invariant-entries : goal.invariant-entries
invariant-entries g l = record {
  version : l.self.version ≡ l.fn.self.version;
  end : l.k-end ≡ length l.fn.self.entries;
  few : length l.fn.self.entries ≤ 14;
  kept : Kept (λ (e : Slot g.row.V.Denot). e.staged) l.fn.self.entries l.self.entries l.k l.at;
}
