use Rattle.std.proofs.Common.{◌-◌, ◌<◌, ◌≤◌, take, drop, length}
use Rattle.df_colls.specs.Cuts.{flat}
use Rattle.df_colls.specs.Parts.{item_lists}
use Rattle.df_colls.specs.Places.{AllBelow, AllAbove}
use Rattle.df_colls.proofs.entries.home.Given as goal

abbrev pub invariant-halves : goal.invariant-halves
invariant-halves g l = record {
  order : l.low < l.high;
  within : l.high ≤ length l.parts;
  below : AllBelow l.key (flat (take l.low (item_lists l.parts)));
  above : AllAbove l.key (flat (drop l.high (item_lists l.parts)));
}

abbrev pub decreases-halves : goal.decreases-halves
decreases-halves g l = l.high - l.low
