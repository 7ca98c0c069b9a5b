-- The contents that were put in place of a file, as a value that has no bytes shows them.
use Rattle.std.specs.Prelude.{ℕ, List, [], ◌∷◌, ◌++◌}
use Rattle.df_outside.specs.declared.puts.Last.{Last}
use Rattle.df_outside.specs.declared.puts.Last.TheVariants as last

abbrev pub contents_of : Last → List (List ℕ)
contents_of last.None = []
contents_of (last.Put before content) = before.value ++ content.value ∷ []
