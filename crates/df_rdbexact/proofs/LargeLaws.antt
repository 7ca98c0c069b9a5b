-- A list with a number above 255 may be a file and stop too: its sum needs more than 64 bits.
use Rattle.std.proofs.Common.{◌≡◌, ℕ, ◌^◌, inr, [], ◌∷◌, ◌++◌, take, refl, sym, ap, ◌∙◌, arith}
use Rattle.std.specs.Prelude.{None}
use Rattle.std.specs.Int.{w64, to_le_bytes, from_le_bytes}
use Rattle.df_model.specs.Values.{Bytes}
use Rattle.df_rdbcore.specs.Crc.{shifts, with_byte, crc}
use Rattle.df_rdbcore.specs.Texts.{IsLength, IsText}
use Rattle.df_rdbcore.specs.Parts.{Pair, Both, IsPart, InTurn}
use Rattle.df_rdbcore.specs.Files.{IsFile, summed, keyspace_of}
use Rattle.df_rdbcore.specs.Reading.{place_of}
use Rattle.df_rdbcore.specs.declared.fault.LoadFault.TheVariants as faults
use Rattle.df_rdbload.specs.FileStops.{Begun, FileStops, SumStops}
use Rattle.df_rdbexact.specs.Laws.{LargerMayStop}

-- an auxiliary field with this one large number for a name, and nothing for a value
abbrev fields : Bytes
fields = 1 ∷ 2 ^ 100 ∷ 0 ∷ []

abbrev said : Pair
said = (2 ^ 100 ∷ [], [])

abbrev body : Bytes
body = 250 ∷ fields

abbrev computed : ℕ
computed = crc (summed 12 body)

abbrev ending : Bytes
ending = to_le_bytes w64 computed

abbrev large : Bytes
large = summed 12 body ++ ending

fields_are : Both IsText IsText fields said
fields_are = record {
  first = 1 ∷ 2 ^ 100 ∷ [];
  rest = 0 ∷ [];
  first_is = IsText.Plain (1 ∷ []) (IsLength.Six (omega arith) refl) (omega arith) refl;
  rest_is = IsText.Plain (0 ∷ []) (IsLength.Six (omega arith) refl) (omega arith) refl;
  whole = refl;
}

parts_are : InTurn IsPart body (None ∷ [])
parts_are = (body, [], IsPart.Auxiliary fields said fields_are refl refl, refl, refl)

is_file : IsFile large []
is_file = record { version = 12; from_5 = omega arith; to_12 = omega arith; body = body; parts = None ∷ []; parts_are = parts_are; entries_are = refl; sum = computed; sum_is = inr refl; whole = refl }

abbrev begun : Begun large
begun = record { version = 12; is_version = (omega arith, omega arith); body = body; parts = None ∷ []; parts_are = parts_are; once = tt; rest = 255 ∷ ending; whole = refl }

computed_is : computed ≡ 75563000504961057788148
unfolding shifts with_byte
computed_is = refl

abbrev stored : ℕ
stored = from_le_bytes w64 (take 8 ending)

stored_is : stored ≡ 5136779046734369012
stored_is = ap (λ k. from_le_bytes w64 (take 8 (to_le_bytes w64 k))) computed_is

pub larger_may_stop : LargerMayStop
larger_may_stop = (
  large,
  keyspace_of [],
  faults.BadChecksum stored computed (place_of 14),
  record { entries = []; is_file = is_file; once = tt; keyspace = refl },
  FileStops.End begun ending refl (SumStops.Wrong stored (omega arith) refl (λ e. let k = sym stored_is ∙ e in omega (arith, k)) (λ e. let k = sym stored_is ∙ e ∙ computed_is in omega (arith, k)) refl),
)
