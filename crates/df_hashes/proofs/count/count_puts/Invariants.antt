use Rattle.std.proofs.Common.{◌≤◌, drop, length}
use Rattle.df_model.specs.Meaning.{firsts}
use Rattle.df_hashes.specs.Counts.{Knows, IsPutCount}
use Rattle.df_hashes.proofs.count.count_puts.Given as goal

abbrev pub invariant-pairs : goal.invariant-pairs
invariant-pairs l =
    record { within : l.i ≤ length l.pairs; knows : Knows l.met (firsts (drop l.i l.pairs)); counted : IsPutCount l.counted.new l.counted.alters (drop l.i l.pairs) l.hash.fields }

abbrev pub decreases-pairs : goal.decreases-pairs
decreases-pairs l = l.i
