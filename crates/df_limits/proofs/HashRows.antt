-- Rows of hashes put fields and values that are words, and no empty hash.
use Rattle.std.proofs.Common.{List, [], ◌∷◌}
use Rattle.std.specs.Prelude.{Option, Some, None, ℤ, ◌+ℤ◌}
use Rattle.std.specs.List.{AllByRecursion}
use Rattle.std.specs.Fmt.{signed_decimal}
use Rattle.std.specs.FinMap as map
use Rattle.df_model.specs.Values.{Bytes, Value, Fields}
use Rattle.df_model.specs.Framing.{IsWord}
use Rattle.df_model.specs.Numbers.{counter, fits}
use Rattle.df_model.specs.Outcomes.{Outcome, Change, count, refused}
use Rattle.df_model.specs.Calls.{both_of}
use Rattle.df_model.specs.Meaning.Hashes as hashes
use Rattle.df_model.specs.declared.reply.ErrorText.TheVariants as errors
use Rattle.df_model.specs.declared.reply.Reply.TheVariants.{Int}
use Rattle.df_limits.specs.Limits.{Each}
use Rattle.df_limits.proofs.EachLaws.{each_of_none, each_insert, each_remove}
use Rattle.df_limits.proofs.RowLaws.{HeldWithin, ChangeWithin, chosen_within, unless_empty}
use Rattle.df_limits.proofs.StringRows.{decimal_is_word}

abbrev BothWords : Bytes → Bytes → Type 0
BothWords field bytes = IsWord field × IsWord bytes

abbrev pub FieldsWithin : Fields → Type 0
FieldsWithin = Each BothWords

stored_within : (m : Fields) → FieldsWithin m → ChangeWithin (hashes.stored m)
stored_within m each = unless_empty (map.len m) (Value.Hash m) (λ some. (some, each))

pub on_hash : (row : Fields → Outcome) → ((m : Fields) → FieldsWithin m → ChangeWithin (row m).1)
    → (v : Option Value) → HeldWithin v → ChangeWithin (hashes.changes row v).1
on_hash row h None within = h map.empty (each_of_none BothWords)
on_hash row h (Some (Value.Hash m)) within = h m within.1
on_hash row h (Some (Value.Str b)) within = tt
on_hash row h (Some (Value.Elements b)) within = tt
on_hash row h (Some (Value.Set b)) within = tt

put_within : (pairs : List (Bytes × Bytes)) (m : Fields) → AllByRecursion IsWord (both_of pairs) → FieldsWithin m → FieldsWithin (hashes.with_fields pairs m)
put_within [] m all each = each
put_within (p ∷ ps) m all each = put_within ps (map.insert m p.0 p.1) all.1.1 (each_insert BothWords m p.0 p.1 (all.0, all.1.0) each)

left_within : (fs : List Bytes) (m : Fields) → FieldsWithin m → FieldsWithin (hashes.without_fields fs m)
left_within [] m each = each
left_within (f ∷ fs) m each = left_within fs (map.remove m f) (each_remove BothWords m f each)

pub hset_within : (pairs : List (Bytes × Bytes)) → AllByRecursion IsWord (both_of pairs) → (m : Fields) → FieldsWithin m → ChangeWithin (hashes.hset pairs m).1
hset_within pairs all m each = stored_within (hashes.with_fields pairs m) (put_within pairs m all each)

pub hmset_within : (pairs : List (Bytes × Bytes)) → AllByRecursion IsWord (both_of pairs) → (m : Fields) → FieldsWithin m → ChangeWithin (hashes.hmset pairs m).1
hmset_within pairs all m each = stored_within (hashes.with_fields pairs m) (put_within pairs m all each)

pub hsetnx_within : (f v : Bytes) → IsWord f → IsWord v → (m : Fields) → FieldsWithin m → ChangeWithin (hashes.hsetnx f v m).1
hsetnx_within f v field bytes m each =
    chosen_within (map.contains_key m f) (count 0, Change.Keep) (count 1, hashes.stored (map.insert m f v))
    (λ e. tt)
    (λ e. stored_within (map.insert m f v) (each_insert BothWords m f v (field, bytes) each))

pub hdel_within : (fs : List Bytes) (m : Fields) → FieldsWithin m → ChangeWithin (hashes.hdel fs m).1
hdel_within fs m each = stored_within (hashes.without_fields fs m) (left_within fs m each)

raised_within : (f : Bytes) (n : ℤ) (m : Fields) (old : Option ℤ) → IsWord f → FieldsWithin m → ChangeWithin (hashes.raised_field f n m old).1
raised_within f n m None field each = tt
raised_within f n m (Some z) field each =
    let made : Fields = map.insert m f (signed_decimal (z +ℤ n)) in
    chosen_within (fits (z +ℤ n)) (Int (z +ℤ n), hashes.stored made) (refused errors.Overflow)
    (λ e. stored_within made (each_insert BothWords m f (signed_decimal (z +ℤ n)) (field, decimal_is_word (z +ℤ n) e) each))
    (λ e. tt)

pub hincrby_within : (f : Bytes) (n : ℤ) → IsWord f → (m : Fields) → FieldsWithin m → ChangeWithin (hashes.hincrby f n m).1
hincrby_within f n field m each = raised_within f n m (counter (map.get m f)) field each
