use Rattle.std.proofs.Common.{◌≡◌, ◌≤◌, List, [], length}
use Rattle.df_model.specs.Patterns.{Range, Place, parts_from, in_ranges}
use Rattle.df_text.proofs.class.past_items.Given as goal

abbrev pub invariant-items : goal.invariant-items
invariant-items l = (ranges : List Range) × (parts_from (Place.Inside l.negated []) l.bytes ≡ parts_from (Place.Inside l.negated ranges) l.left) × (l.found ≡ in_ranges ranges l.byte) × (length l.left ≤ length l.bytes)

abbrev pub decreases-items : goal.decreases-items
decreases-items l = length l.left
