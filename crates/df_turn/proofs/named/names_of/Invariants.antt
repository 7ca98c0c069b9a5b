use Rattle.std.proofs.Common.{◌≡◌, ◌+◌, ◌≤◌, ◌++◌, drop, length, map}
use Rattle.df_turn.proofs.named.names_of.Given as goal

-- the copies so far, with what is left
abbrev pub invariant-keys : goal.invariant-keys
invariant-keys l = record {
  all : l.names.items ++ map (λ k. k.0) (drop l.key-index l.keys) ≡ map (λ k. k.0) l.keys;
  room : length l.keys ≤ l.names.spare + l.key-index;
}
