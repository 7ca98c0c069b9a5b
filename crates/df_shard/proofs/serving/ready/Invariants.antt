use Rattle.std.proofs.Common.{◌≡◌, false, drop}
use Rattle.std.specs.Prelude.{map}
use Rattle.df_book.specs.Weights.{Each}
use Rattle.df_shard.specs.Holds.{Wait, wait_of}
use Rattle.df_shard.specs.MayRun.{is_ready}
use Rattle.df_shard.proofs.serving.ready.Given as goal

-- nobody before this one is ready
abbrev pub invariant-calls : goal.invariant-calls
invariant-calls l =
    Each (λ (w : Wait). is_ready l.queue.places w ≡ false) (map wait_of (drop l.at l.waiting.items)) →
    Each (λ (w : Wait). is_ready l.queue.places w ≡ false) (map wait_of l.waiting.items)
