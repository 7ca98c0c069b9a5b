-- A change that was made ready on an empty hash, for a key that holds nothing.
use Rattle.std.proofs.lemmas.Bool.{true≢false}
use Rattle.std.proofs.Common.{◌≡◌, ◌≢◌, Bool, true, false, refl, sym, ap, subst, ◌∙◌}
use Rattle.std.specs.Prelude.{Option, Some, None, ℤ, ◌+ℤ◌, ◌==◌, if◌then◌else◌}
use Rattle.std.specs.FinMap as map
use Rattle.std.specs.Ordering.{nat_cmp}
use Rattle.std.specs.Cmp.Lexicographic.{slice_cmp}
use Rattle.std.specs.Fmt.{signed_decimal}
use Rattle.df_model.specs.Numbers.{counter, fits}
use Rattle.df_model.specs.Values.{Bytes, Fields}
use Rattle.df_model.specs.Values as plain
use Rattle.df_model.specs.Outcomes as outcomes
use Rattle.df_model.specs.Families.{family_of}
use Rattle.df_model.specs.Meaning.{one}
use Rattle.df_model.specs.Outcomes.{Outcome, outcome, count, refused}
use Rattle.df_model.specs.declared.command.OneOp.{OneOp}
use Rattle.df_model.specs.declared.command.OneOp.TheVariants as ones
use Rattle.df_model.specs.Meaning.Hashes.{stored, with_fields, without_fields, raised_field}
use Rattle.df_model.specs.declared.reply.ErrorText.TheVariants as errors
use Rattle.df_model.specs.declared.reply.Reply.TheVariants.{Int}
use Rattle.df_colls.specs.Roomy.{RoomyFields}
use Rattle.df_values.specs.declared.value.Value.{Value}
use Rattle.df_values.specs.declared.value.Value.TheVariants as values
use Rattle.df_values.specs.declared.change.Change.{Change}
use Rattle.df_values.specs.declared.change.Change.TheVariants as changes
use Rattle.df_values.specs.Seen.{seen}
use Rattle.df_values.specs.Edits.{applied, edited, Alters}
use Rattle.df_values.specs.Prepares.{Makes}
use Rattle.df_hashes.specs.Serves.{Serves}
use Rattle.df_hashes.specs.Settles.{Settles, IsPutFresh}

abbrev none : plain.Value
none = plain.Value.Hash map.empty

-- no empty hash is put
abbrev PutsSome : outcomes.Change → Type 0
PutsSome outcomes.Change.Keep = Unit {0}
PutsSome (outcomes.Change.Put value) = value ≢ none
PutsSome outcomes.Change.Delete = Unit {0}

-- ---- the rows put none

hash_same : {a b : Fields} → plain.Value.Hash a ≡ plain.Value.Hash b → a ≡ b
hash_same e = cc

stored_some : (m : Fields) → PutsSome (stored m)
stored_some m = by (map.len m == 0) refl
  where
    by : (b : Bool) → (map.len m == 0) ≡ b → PutsSome (if b then outcomes.Change.Delete else outcomes.Change.Put (plain.Value.Hash m))
    by true e = tt
    by false e = λ same. true≢false (sym (ap (λ n. n == 0) (ap map.len (hash_same same) ∙ map.len-empty (slice_cmp nat_cmp) Bytes)) ∙ e)

either : (b : Bool) (x y : Outcome) → PutsSome x.1 → PutsSome y.1 → PutsSome (if b then x else y).1
either true x y p q = p
either false x y p q = q

raised_some : (f : Bytes) (n : ℤ) (m : Fields) (o : Option ℤ) → PutsSome (raised_field f n m o).1
raised_some f n m None = tt
raised_some f n m (Some z) = either (fits (z +ℤ n)) (Int (z +ℤ n), stored (map.insert m f (signed_decimal (z +ℤ n)))) (refused errors.Overflow) (stored_some _) tt

-- a missing key is an empty hash, of which no empty hash is made
record Fresh (op : OneOp) : Type 0 where
  same : outcome (one op) None ≡ outcome (one op) (Some none)
  some : PutsSome (outcome (one op) None).1

fresh : (op : OneOp) → Serves (family_of op) → Fresh op
fresh (ones.Hset pairs) s = record { same = refl; some = stored_some (with_fields pairs.items map.empty) }
fresh (ones.Hmset pairs) s = record { same = refl; some = stored_some (with_fields pairs.items map.empty) }
fresh (ones.Hsetnx field word) s =
    record { same = refl; some = either (map.contains_key map.empty field) (count 0, outcomes.Change.Keep) (count 1, stored (map.insert map.empty field word)) tt (stored_some _) }
fresh (ones.Hdel words) s = record { same = refl; some = stored_some (without_fields words.items map.empty) }
fresh (ones.Hincrby field n) s = record { same = refl; some = raised_some field n map.empty (counter (map.get map.empty field)) }
fresh (ones.Hget field) s = record { same = refl; some = tt }
fresh (ones.Hmget words) s = record { same = refl; some = tt }
fresh ones.Hlen s = record { same = refl; some = tt }
fresh (ones.Hexists field) s = record { same = refl; some = tt }
fresh (ones.Hstrlen field) s = record { same = refl; some = tt }
fresh ones.Hkeys s = record { same = refl; some = tt }
fresh ones.Hvals s = record { same = refl; some = tt }
fresh ones.Hgetall s = record { same = refl; some = tt }
fresh op s = absurd s

-- ---- the change

some_same : {a b : plain.Value} → Some a ≡ Some b → a ≡ b
some_same e = cc

alike : (wanted : outcomes.Change) (fresh made : Change) → fresh ≡ made → Settles wanted None made → Settles wanted None fresh
alike wanted fresh made e = subst (Settles wanted None) (sym e)

puts_other : (new : Value) → Alters (changes.Put new) (Some none) → seen new ≢ none
puts_other (values.Str text) a = a
puts_other (values.List list) a = a
puts_other (values.Hash hash) a = a
puts_other (values.Set set) a = a

fresh_settles : (wanted : outcomes.Change) (change fresh : Change) (value : Value) → seen value ≡ none → PutsSome wanted → applied change (Some none) ≡ outcomes.settled wanted (Some none) → Alters change (Some none) → IsPutFresh change value fresh
    → Settles wanted None fresh
fresh_settles outcomes.Change.Keep changes.Keep fresh value is some h a f = alike _ fresh changes.Keep f (record { change = refl; fits = tt; alters = tt })
fresh_settles outcomes.Change.Delete changes.Keep fresh value is some h a f = alike _ fresh changes.Keep f (record { change = refl; fits = tt; alters = tt })
fresh_settles (outcomes.Change.Put w) changes.Keep fresh value is some h a f = absurd (some (sym (some_same h)))
fresh_settles outcomes.Change.Keep changes.Delete fresh value is some h a f = cc
fresh_settles outcomes.Change.Delete changes.Delete fresh value is some h a f = alike _ fresh changes.Keep f (record { change = refl; fits = tt; alters = tt })
fresh_settles (outcomes.Change.Put w) changes.Delete fresh value is some h a f = cc
fresh_settles outcomes.Change.Keep (changes.Edit edit) fresh value is some h a f = absurd (a h)
fresh_settles outcomes.Change.Delete (changes.Edit edit) fresh value is some h a f = cc
fresh_settles (outcomes.Change.Put w) (changes.Edit edit) fresh value is some h a f =
    alike _ fresh (changes.Put f.0) f.1.0 (record { change = ap Some (f.1.1 ∙ ap (edited edit) is) ∙ h; fits = tt; alters = tt })
fresh_settles outcomes.Change.Keep (changes.Put new) fresh value is some h a f = absurd (puts_other new a (some_same h))
fresh_settles outcomes.Change.Delete (changes.Put new) fresh value is some h a f = cc
fresh_settles (outcomes.Change.Put w) (changes.Put new) fresh value is some h a f = alike _ fresh (changes.Put new) f (record { change = h; fits = tt; alters = tt })

pub fresh_makes : (op : OneOp) → Serves (family_of op) → (old new : RoomyFields) (bytes : Bytes) (change to : Change) → old.fields ≡ map.empty → new.fields ≡ old.fields
    → Makes (outcome (one op) (Some (plain.Value.Hash old.fields))) (Some (values.Hash new)) bytes change → IsPutFresh change (values.Hash new) to → Makes (outcome (one op) None) None bytes to
fresh_makes op serves old new bytes change to empty kept makes put =
    let is : plain.Value.Hash new.fields ≡ none = ap (λ m. plain.Value.Hash m) (kept ∙ empty) in
    let row : Makes (outcome (one op) None) (Some (values.Hash new)) bytes change =
    subst (λ (o : Outcome). Makes o (Some (values.Hash new)) bytes change) (ap (λ m. outcome (one op) (Some (plain.Value.Hash m))) empty ∙ sym (fresh op serves).same) makes in
    let made : Settles (outcome (one op) None).1 None to = fresh_settles (outcome (one op) None).1 change to (values.Hash new) is (fresh op serves).some
    (subst (λ v. applied change (Some v) ≡ outcomes.settled (outcome (one op) None).1 (Some v)) is row.change) (subst (λ v. Alters change (Some v)) is row.alters) put in
    record { reply = row.reply; change = made.change; fits = made.fits; alters = made.alters }
