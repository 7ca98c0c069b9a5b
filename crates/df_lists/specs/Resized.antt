-- What an edit makes of the key, by how many elements the list has before it and after it.
use Rattle.std.specs.Prelude.{ℕ, nat_eq, if◌then◌else◌}
use Rattle.df_values.specs.declared.edit.Edit.{Edit}
use Rattle.df_values.specs.declared.change.Change.{Change}
use Rattle.df_values.specs.declared.change.Change.TheVariants.{Keep, Delete, Edit as Edits}

-- a list that loses its last element is removed, and one that neither gains nor loses one stays
abbrev pub resized : Edit → ℕ → ℕ → Change
resized edit before after = if nat_eq after 0 then Delete else (if nat_eq after before then Keep else Edits edit)
