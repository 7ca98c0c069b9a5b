use Rattle.df_keys.proofs.FewLaws.{Past}
use Rattle.df_keys.proofs.few.place_of.Given as goal

abbrev pub invariant-places : goal.invariant-places
invariant-places l = Past l.key l.list l.at
