-- What a row of a command of one key gives: a reply, and what becomes of the key.
use Rattle.std.specs.Prelude.{ℕ, List, map, pos, Option, Some, None, codes}
use Rattle.df_model.specs.Spared.{all_of}
use Rattle.df_model.specs.Values.{Bytes, Value}
use Rattle.df_model.specs.declared.reply.ErrorText.{ErrorText}
use Rattle.df_model.specs.declared.reply.Reply.{Reply}
use Rattle.df_model.specs.declared.reply.Reply.TheVariants.{Simple, Error, Int, Bulk, NullBulk, Array}

-- what becomes of a key
pub data Change : Type 0 where
  Keep : Change
  Put : Value → Change
  Delete : Change

abbrev pub Outcome : Type 0
Outcome = Reply × Change

-- a row only looks at what the key holds, or may change it
pub data KeyRow : Type 0 where
  Looks : (Option Value → Reply) → KeyRow
  Changes : (Option Value → Outcome) → KeyRow

-- what a row gives where the key holds this
abbrev pub outcome : KeyRow → Option Value → Outcome
outcome (KeyRow.Looks row) held = (row held, Change.Keep)
outcome (KeyRow.Changes row) held = row held

-- what the key holds then
abbrev pub settled : Change → Option Value → Option Value
settled Change.Keep held = held
settled (Change.Put value) held = Some value
settled Change.Delete held = None

-- ---- replies that many rows give

abbrev pub ok : Reply
ok = Simple (codes "OK")

abbrev pub count : ℕ → Reply
count n = Int (pos n)

abbrev pub bulk_or_null : Option Bytes → Reply
bulk_or_null None = NullBulk
bulk_or_null (Some bytes) = Bulk bytes

abbrev pub array : List Reply → Reply
array replies = Array (all_of replies)

abbrev pub bulks : List Bytes → Reply
bulks list = array (map Bulk list)

-- an error that changes nothing
abbrev pub refused : ErrorText → Outcome
refused error = (Error error, Change.Keep)
