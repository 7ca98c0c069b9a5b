use Rattle.std.proofs.Common.{◌≡◌, ◌+◌, ◌≤◌, drop, length}
use Rattle.std.specs.List.{filter}
use Rattle.df_model.specs.Members as members
use Rattle.df_model.specs.Patterns.{is_match}
use Rattle.df_turn.proofs.whole.matching.Given as goal

-- those so far, and those of what is left
abbrev pub invariant-names : goal.invariant-names
invariant-names l = record {
  few : l.count ≤ l.i;
  all : l.count + length (filter (is_match l.pattern) (drop l.i (members.items l.names.members))) ≡ length (filter (is_match l.pattern) (members.items l.names.members));
}
