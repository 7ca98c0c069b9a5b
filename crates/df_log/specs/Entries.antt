-- Entries that are notes, and those of which the order law speaks.
use Rattle.std.specs.Prelude.{Bool, true, false, not, List}
use Rattle.df_order.specs.Lists.{only}
use Rattle.df_log.specs.Acts.{Act, Run, Read, Stage, Apply, Unstage, Begin, Walk, Count, Clear, Passed, Pull, Saved}
use Rattle.df_log.specs.declared.entry.Entry.{Entry}

abbrev pub is_note : Act → Bool
is_note (Run command) = false
is_note (Read keys) = false
is_note (Stage changes) = false
is_note Apply = false
is_note Unstage = false
is_note Begin = false
is_note Walk = false
is_note Count = false
is_note Clear = false
is_note Passed = true
is_note Pull = true
is_note Saved = true

-- a log without its notes
abbrev pub acts_of : List Entry → List Entry
acts_of log = only (λ e. not (is_note e.act)) log
