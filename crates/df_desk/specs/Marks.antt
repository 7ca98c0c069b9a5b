-- Which commands of a call are kept.
use Rattle.std.specs.Prelude.{List, [], Bool}
use Rattle.df_desk.specs.Parts.{marks_of}
use Rattle.df_desk.specs.declared.ran.Parts.{Parts}
use Rattle.df_desk.specs.declared.ran.Parts.TheVariants as parts

abbrev pub marks_in : Parts → List Bool
marks_in parts.None = []
marks_in (parts.Of all) = marks_of all.value.items
