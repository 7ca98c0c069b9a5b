-- Which family's commands are done here.
use Rattle.df_model.specs.declared.command.Family.{Family}
use Rattle.df_model.specs.declared.command.Family.TheVariants as families

abbrev pub Serves : Family → Type 0
Serves families.Any = ⊥
Serves families.Strings = ⊥
Serves families.Lists = ⊥
Serves families.Hashes = Unit {0}
Serves families.Sets = ⊥
