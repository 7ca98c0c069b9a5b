use Rattle.std.proofs.Common.{◌≡◌, drop}
use Rattle.df_footprints.specs.Asks.{asks_for, some_clash}
use Rattle.df_intents.specs.Counting.{held}
use Rattle.df_intents.proofs.intents.Intents.opposes_some.Given as goal

-- what isn't gone over yet clashes where anything does
abbrev pub invariant-asks : goal.invariant-asks
invariant-asks l = some_clash (asks_for (drop l.key-index l.modes)) (held l.self.holders) ≡ some_clash (asks_for l.modes) (held l.self.holders)
