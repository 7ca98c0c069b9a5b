use Rattle.std.proofs.Common.{◌≡◌, drop}
use Rattle.std.specs.Prelude.{map}
use Rattle.df_shard.specs.Holds.{wait_at, wait_of}
use Rattle.df_shard.proofs.waiting.find.Given as goal

abbrev pub invariant-calls : goal.invariant-calls
invariant-calls l = wait_at l.number (map wait_of l.waiting.items) ≡ wait_at l.number (map wait_of (drop l.at l.waiting.items))
