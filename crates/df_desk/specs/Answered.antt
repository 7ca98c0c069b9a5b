-- The calls that were answered, as a value that has no bytes shows them.
use Rattle.std.specs.Prelude.{List, [], ◌∷◌, ◌++◌}
use Rattle.df_caller.specs.Told.{Told}
use Rattle.df_desk.specs.declared.answered.Last.{Last}
use Rattle.df_desk.specs.declared.answered.Last.TheVariants as last

abbrev pub answered_in : Last → List Told
answered_in last.None = []
answered_in (last.After before ran) = before.value ++ ran ∷ []
