use Rattle.std.proofs.Common.{◌≤◌, List, ◌++◌, drop}
use Rattle.std.specs.HashMap.{spare}
use Rattle.df_footprints.specs.Asks.{Ask, asks_for}
use Rattle.df_intents.specs.Index.{Counts}
use Rattle.df_intents.proofs.index.Index.leave_keys.Given as goal

-- the asks that aren't gone over yet are still counted
abbrev pub invariant-asks : goal.invariant-asks
invariant-asks l = record {
  counts : (bs : List Ask) → Counts l.fn.self (asks_for l.modes ++ bs) → Counts l.self (asks_for (drop l.key-index l.modes) ++ bs);
  spare : spare l.fn.self.tallies ≤ spare l.self.tallies;
}
