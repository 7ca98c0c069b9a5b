use Rattle.std.proofs.Common.{◌≡◌, ◌+◌, ◌≤◌, drop, length}
use Rattle.df_resp.specs.Scan.{fixed}
use Rattle.df_resp.proofs.front.fixed_at.Given as goal

abbrev pub invariant-text : goal.invariant-text
invariant-text l = record {
  within : l.from + l.i ≤ length l.bytes;
  left : fixed l.kind (drop l.i l.text) (drop (l.from + l.i) l.bytes) ≡ fixed l.kind l.text (drop l.from l.bytes);
}
