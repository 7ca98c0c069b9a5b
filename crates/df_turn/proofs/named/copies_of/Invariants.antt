use Rattle.std.proofs.Common.{◌≡◌, ◌+◌, ◌≤◌, ◌++◌, drop, length}
use Rattle.df_turn.proofs.named.copies_of.Given as goal

-- the copies so far, with what is left
abbrev pub invariant-keys : goal.invariant-keys
invariant-keys l = record {
  all : l.modes.items ++ drop l.key-index l.keys ≡ l.keys;
  room : length l.keys ≤ l.modes.spare + l.key-index;
}
