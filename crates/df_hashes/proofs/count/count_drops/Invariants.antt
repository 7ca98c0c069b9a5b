use Rattle.std.proofs.Common.{◌≤◌, drop, length}
use Rattle.df_hashes.specs.Counts.{Knows, IsDropCount}
use Rattle.df_hashes.proofs.count.count_drops.Given as goal

abbrev pub invariant-words : goal.invariant-words
invariant-words l = record { within : l.i ≤ length l.words; knows : Knows l.met (drop l.i l.words); counted : IsDropCount l.gone (drop l.i l.words) l.hash.fields }

abbrev pub decreases-words : goal.decreases-words
decreases-words l = l.i
