-- What the words of a request say, as the answer of a function that may lack memory.
use Rattle.std.specs.Prelude.{◌≡◌, List, ◌++◌, Result, Ok, Err, Option, Some, None}
use Rattle.df_model.specs.Values.{Bytes}
use Rattle.df_model.specs.Spared.{Spared, all_of}
use Rattle.df_model.specs.Reads.{Reading, counted}
use Rattle.df_model.specs.declared.command.Command.{Command}
use Rattle.df_model.specs.declared.reply.ErrorText.TheVariants as errors
use Rattle.df_parse.specs.declared.refusal.Refusal.{Refusal}
use Rattle.df_parse.specs.declared.refusal.Refusal.TheVariants as refusals

-- the words are refused for this reason, or there was no memory to say so
abbrev pub Refuses : Reading → Refusal → Type 0
Refuses reading refusals.Unknown = reading ≡ Reading.Unknown
Refuses reading (refusals.Arity text) = (name : Bytes) × (reading ≡ Reading.Arity name) × (text ≡ errors.Arity name)
Refuses reading refusals.NoMemory = Unit {0}

-- the answer says what the words say, and a command that they spell stands in its place
abbrev pub AsRead : Reading → Result (Unit {0}) Refusal → Command → Type 0
AsRead reading (Ok done) command = reading ≡ Reading.Runs command
AsRead reading (Err refusal) command = Refuses reading refusal

-- the words behind this name, read in its shape
abbrev pub RowRead : Bytes → Option Command → Result (Unit {0}) Refusal → Command → Type 0
RowRead name spelled result command = AsRead (counted name spelled) result command

-- words of the right count, which are this command
abbrev pub CommandRead : Command → Result (Unit {0}) Refusal → Command → Type 0
CommandRead spelled result command = AsRead (Reading.Runs spelled) result command

-- ---- pairs of words

-- the pairs, with no further room, or None where a word is left over
abbrev pub PairsRead : Option (List (Bytes × Bytes)) → Option (Spared (Bytes × Bytes)) → Type 0
PairsRead None None = Unit {0}
PairsRead (Some pairs) (Some list) = list ≡ all_of pairs
PairsRead None (Some list) = ⊥
PairsRead (Some pairs) None = ⊥

-- pairs before those of further words
abbrev pub prepended : List (Bytes × Bytes) → Option (List (Bytes × Bytes)) → Option (List (Bytes × Bytes))
prepended first None = None
prepended first (Some pairs) = Some (first ++ pairs)
