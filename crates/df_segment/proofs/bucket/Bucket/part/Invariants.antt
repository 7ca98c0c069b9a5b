use Rattle.std.proofs.Common.{◌≡◌, ◌≤◌, length, vec_capacity}
use Rattle.df_segment.specs.Entries.{slots, flag_at}
use Rattle.df_segment.proofs.PartLaws.{Dealt}
use Rattle.df_segment.proofs.bucket.Bucket.part.Given as goal

abbrev pub invariant-entries : goal.invariant-entries
invariant-entries g l = record {
  version : l.self.version ≡ l.fn.self.version;
  going : l.going ≡ l.fn.parting.going;
  end : l.k-end ≡ length l.fn.self.entries;
  few : length l.fn.self.entries ≤ 14;
  dealt : Dealt l.fn.parting.bit l.fn.self.entries l.self.entries (slots (flag_at l.half.staged) l.half.entries.items) l.k l.at;
  room : vec_capacity l.half.entries ≡ vec_capacity l.fn.parting.room;
}
