-- The command that the words of a request spell: a table with a row a command, in groups.
pub mod Shapes
pub mod Keyless
pub mod Any
pub mod Strings
pub mod Lists
pub mod Hashes
pub mod Sets
use Rattle.std.specs.Prelude.{◌≡◌, List, [], ◌∷◌, ◌++◌, Option, Some, None, Bool, true, false, codes, if◌then◌else◌}
use Rattle.df_model.specs.Values.{Bytes}
use Rattle.df_model.specs.Words.{Words, is_name, same}
use Rattle.df_model.specs.Reads.Shapes.{Row}
use Rattle.df_model.specs.Reads.Keyless as keyless
use Rattle.df_model.specs.Reads.Any as any
use Rattle.df_model.specs.Reads.Strings as strings
use Rattle.df_model.specs.Reads.Lists as lists
use Rattle.df_model.specs.Reads.Hashes as hashes
use Rattle.df_model.specs.Reads.Sets as sets
use Rattle.df_model.specs.declared.command.WholeOp.TheVariants.{Dbsize, Keys, Flushall, Flushdb, Save}
use Rattle.df_model.specs.declared.command.Command.{Command}
use Rattle.df_model.specs.declared.command.Command.TheVariants.{Plain, One, Many, Whole, Wrong}

-- what words spell
pub data Reading : Type 0 where
  Runs : Command → Reading
  Unknown : Reading
  -- the name, in lower case, of a command with another count of words
  Arity : Bytes → Reading

abbrev pub counted : Bytes → Option Command → Reading
counted name None = Reading.Arity name
counted name (Some command) = Reading.Runs command

-- the words behind a name, by the first row with this name
abbrev pub reads_by : List Row → Bytes → Words → Reading
reads_by [] name words = Reading.Unknown
reads_by (r ∷ rs) name words = if is_name name r.name then counted r.name (r.shape words) else reads_by rs name words

-- an unknown name is looked for first, then the count of words, then options and numbers from left to right
abbrev pub reads_in : List Row → Words → Reading
reads_in table [] = Reading.Unknown
reads_in table (name ∷ words) = reads_by table name words

-- ---- the table, group by group: the rows from each group on

abbrev pub from_keyless : List Row
from_keyless = keyless.rows

abbrev pub from_any : List Row
from_any = any.rows ++ from_keyless

abbrev pub from_sets : List Row
from_sets = sets.rows ++ from_any

abbrev pub from_lists : List Row
from_lists = lists.rows ++ from_sets

abbrev pub from_hashes : List Row
from_hashes = hashes.rows ++ from_lists

abbrev pub from_strings : List Row
from_strings = strings.rows ++ from_hashes

abbrev pub rows : List Row
rows = from_strings

abbrev pub reads : Words → Reading
reads = reads_in rows

-- ---- the commands that run so far: all but SAVE, which is an unknown name to a session

abbrev pub saves : Command → Bool
saves (Whole Save) = true
saves (Whole Dbsize) = false
saves (Whole (Keys pattern)) = false
saves (Whole Flushall) = false
saves (Whole Flushdb) = false
saves (Plain op) = false
saves (One k op) = false
saves (Many op) = false
saves (Wrong error) = false

abbrev pub linked : Reading → Reading
linked (Reading.Runs command) = if saves command then Reading.Unknown else Reading.Runs command
linked Reading.Unknown = Reading.Unknown
linked (Reading.Arity name) = if same name (codes "save") then Reading.Unknown else Reading.Arity name

abbrev pub reads_linked : Words → Reading
reads_linked words = linked (reads words)

abbrev pub IsLinked : Command → Type 0
IsLinked command = saves command ≡ false
