-- What the calls that lend the keys of a command answer, and those that go over them.
use Rattle.std.specs.Prelude.{◌≡◌, Option, Some, None, List, [], ◌∷◌, ◌++◌}
use Rattle.std.specs.Borrow.{Bor}
use Rattle.std.specs.FinMap as fin
use Rattle.df_model.specs.Values.{Bytes}
use Rattle.df_model.specs.Outcomes.{KeyRow}
use Rattle.df_model.specs.Meaning.{firsts}
use Rattle.df_model.specs.declared.keys.Mode.{Mode}
use Rattle.df_model.specs.declared.keys.Mode.TheVariants.{Shared, Exclusive}
use Rattle.df_footprints.specs.declared.named.Named.{Named}
use Rattle.df_footprints.specs.declared.named.Named.TheVariants as kinds
use Rattle.df_footprints.specs.Footprints.{Modes, in_mode, with_modes}

abbrev pub mode_of_row : KeyRow → Mode
mode_of_row (KeyRow.Looks row) = Shared
mode_of_row (KeyRow.Changes row) = Exclusive

-- the key that is lent, if one is
abbrev pub key_lent : Option (Bor Bytes × Mode) → Option Bytes
key_lent None = None
key_lent (Some asked) = Some asked.0.now

-- the keys that are lent, each with its mode
abbrev pub keys_named : Named → List (Bytes × Mode)
keys_named kinds.Nothing = []
keys_named (kinds.One key mode) = (key.now, mode) ∷ []
keys_named (kinds.Read keys) = in_mode Shared keys.now
keys_named (kinds.Written keys) = in_mode Exclusive keys.now
keys_named (kinds.WrittenPairs pairs) = in_mode Exclusive (firsts pairs.now)
keys_named (kinds.BothWritten a b) = (a.now, Exclusive) ∷ (b.now, Exclusive) ∷ []
keys_named (kinds.Stored keys key) = in_mode Shared keys.now ++ (key.now, Exclusive) ∷ []

-- entries that are those of some keys, in order, are then those of these keys and the named ones
abbrev pub Adds : List (Bytes × Mode) → List (Bytes × Mode) → List (Bytes × Mode) → Type 0
Adds old named new = (modes : Modes) → old ≡ fin.entries modes → new ≡ fin.entries (with_modes named modes)
