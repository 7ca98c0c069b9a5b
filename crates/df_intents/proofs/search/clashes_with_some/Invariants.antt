use Rattle.std.proofs.Common.{◌≡◌, drop}
use Rattle.df_footprints.specs.Asks.{asks_for, clashes_with}
use Rattle.df_intents.specs.Counting.{for_key}
use Rattle.df_intents.proofs.search.clashes_with_some.Given as goal

-- what isn't gone over yet clashes where anything does
abbrev pub invariant-asks : goal.invariant-asks
invariant-asks l = clashes_with (for_key l.key l.mode) (asks_for (drop l.other-index l.modes)) ≡ clashes_with (for_key l.key l.mode) (asks_for l.modes)
