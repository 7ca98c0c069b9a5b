use Rattle.std.proofs.Common.{◌≡◌, ◌+◌, ◌<◌, ◌≤◌, ◌^◌, ◌||◌, List, ◌++◌, length, drop, take}
use Rattle.std.specs.HashMap.{spare}
use Rattle.df_footprints.specs.Asks.{Ask, asks_for, some_clash}
use Rattle.df_intents.specs.Holders.{Holder}
use Rattle.df_intents.specs.Counting.{held}
use Rattle.df_intents.specs.Index.{Counts}
use Rattle.df_intents.specs.Kept.{Once, Tells}
use Rattle.df_intents.proofs.index.Index.enter_keys.Given as goal

-- the asks so far are counted, and what is known of them with what isn't gone over yet tells of all
abbrev pub invariant-asks : goal.invariant-asks
invariant-asks l = record {
  counts : (bs : List Ask) → length bs + length l.modes < 2 ^ 64 → Counts l.fn.self bs → Counts l.self (asks_for (take l.key-index l.modes) ++ bs);
  exact : (hs : List Holder) → Once hs → Tells l.holders.entries hs → length (held hs) + length l.modes < 2 ^ 64 → Counts l.fn.self (held hs) → (l.is_opposed || some_clash (asks_for (drop l.key-index l.modes)) (held hs)) ≡ some_clash (asks_for l.modes) (held hs);
  spare : spare l.fn.self.tallies ≤ spare l.self.tallies + l.key-index;
}
