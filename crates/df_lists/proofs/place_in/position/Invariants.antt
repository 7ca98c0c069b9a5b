use Rattle.std.proofs.Common.{◌≡◌, drop}
use Rattle.df_lists.specs.Places.{place_of, further}
use Rattle.df_lists.proofs.place_in.position.Given as goal

abbrev pub invariant-elements : goal.invariant-elements
invariant-elements l = place_of l.bytes l.list.items ≡ further l.at (place_of l.bytes (drop l.at l.list.items))
