use Rattle.std.proofs.Common.{◌≡◌, ℕ, ◌<◌, ◌≤◌, [], get_or}
use Rattle.std.specs.Option.{option_map}
use Rattle.df_model.specs.Spared.{all_of}
use Rattle.df_rounds.specs.Standing.{stage_of}
use Rattle.df_hops.specs.Parts.{act_of}
use Rattle.df_spread.specs.Spread.{changes_at, changes_seen}
use Rattle.df_turn.specs.Steps.{changes_any}
use Rattle.df_turn.specs.Turns.{part_for}
use Rattle.df_turn.proofs.several.ask_to_stage.Given as goal

-- what is asked of the shards so far; the other changes are still there
abbrev pub invariant-shards : goal.invariant-shards
invariant-shards l = record {
  any : l.any ≡ changes_any l.s (λ s. changes_seen (changes_at l.initial.changes s));
  parts : (k : ℕ) → k < l.s → option_map act_of (part_for k l.parts) ≡ stage_of (changes_seen (changes_at l.initial.changes k));
  left : (k : ℕ) → l.s ≤ k → get_or l.changes k (all_of []) ≡ get_or l.initial.changes k (all_of []);
}
