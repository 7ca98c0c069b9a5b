use Rattle.std.proofs.Common.{◌≡◌, ℕ, ◌<◌, length}
use Rattle.std.specs.Option.{option_map}
use Rattle.df_hops.specs.Parts.{act_of}
use Rattle.df_spread.specs.Spread.{modes_at}
use Rattle.df_keys.specs.Asked.{footprint_there}
use Rattle.df_turn.specs.Asked.{keys_named, read_named}
use Rattle.df_turn.specs.Turns.{part_for}
use Rattle.df_turn.proofs.named.reads.Given as goal

abbrev pub invariant-shards : goal.invariant-shards
invariant-shards l = record {
  counts : (length l.parts.items ≡ l.asked-index) × (length l.kept.items ≡ l.asked-index);
  parts : (k : ℕ) → k < l.asked-index → option_map act_of (part_for k l.parts.items) ≡ read_named (footprint_there k l.keys);
  kept : (k : ℕ) → k < l.asked-index → modes_at l.kept.items k ≡ keys_named (footprint_there k l.keys);
}
