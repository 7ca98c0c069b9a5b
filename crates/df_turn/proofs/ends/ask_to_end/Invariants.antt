use Rattle.std.proofs.Common.{◌≡◌, ℕ, ◌<◌}
use Rattle.std.specs.Option.{option_map}
use Rattle.df_hops.specs.Parts.{act_of}
use Rattle.df_exchange.specs.Asks.{heard_of}
use Rattle.df_turn.specs.Heard.{act_in, ends_as}
use Rattle.df_turn.specs.Turns.{part_for}
use Rattle.df_turn.proofs.ends.ask_to_end.Given as goal

abbrev pub invariant-shards : goal.invariant-shards
invariant-shards l = (k : ℕ) → k < l.s → option_map act_of (part_for k l.parts) ≡ ends_as l.wanted (act_in l.show) (heard_of k l.outcomes)
