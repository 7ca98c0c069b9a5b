use Rattle.std.proofs.Common.{◌≡◌, ◌≤◌, ◌-◌, length, drop}
use Rattle.df_outside.specs.Cuts.{cut_at, first_of_pieces}
use Rattle.df_outside.proofs.pieces.Pieces.take.Given as goal

abbrev pub invariant-pieces : goal.invariant-pieces
invariant-pieces l =
    (cut_at l.self-inside.number l.self-inside.at l.self-inside.pieces.items ≡ l.fn.self)
    × (l.buf ≡ l.fn.buf)
    × (l.self-inside.number ≤ length l.self-inside.pieces.items)
    × (l.self-inside.at ≤ length (first_of_pieces (drop l.self-inside.number l.self-inside.pieces.items)))

abbrev pub decreases-pieces : goal.decreases-pieces
decreases-pieces l = length l.self-inside.pieces.items - l.self-inside.number
