-- Rows of strings put no string that is too long.
use Rattle.std.proofs.Common.{◌≡◌, ℕ, suc, ◌+◌, ◌-◌, ◌^◌, ◌<◌, ◌≤◌, true, false, [], ◌∷◌, ◌++◌, length, take, drop, arith, length-append, length-drop}
use Rattle.std.specs.Prelude.{Option, Some, None, ℤ, pos, negsuc, nat_abs, nat_lt, ltb, ◌+ℤ◌, neg_ℤ, replicate}
use Rattle.std.specs.Fmt.{decimal, signed_decimal}
use Rattle.std.proofs.lemmas.Bool.{ltb-true, ltb-false}
use Rattle.std.proofs.lemmas.Fmt.{length-decimal-le}
use Rattle.std.proofs.lemmas.List.{length-take}
use Rattle.df_model.specs.Values.{Bytes, Value}
use Rattle.df_model.specs.Framing.{IsWord}
use Rattle.df_model.specs.Numbers.{counter, fits}
use Rattle.df_model.specs.Outcomes.{Outcome, Change, count, refused}
use Rattle.df_model.specs.Meaning.Strings as strings
use Rattle.df_model.specs.declared.command.Guard.{Guard}
use Rattle.df_model.specs.declared.command.Guard.TheVariants.{Always, Nx, Xx}
use Rattle.df_model.specs.declared.reply.ErrorText.TheVariants as errors
use Rattle.df_model.specs.declared.reply.Reply.TheVariants.{Int}
use Rattle.df_limits.proofs.RowLaws.{HeldWithin, ChangeWithin, chosen_within}

abbrev OldWithin : Option Bytes → Type 0
OldWithin None = Unit {0}
OldWithin (Some bytes) = IsWord bytes

old_is_word : (old : Option Bytes) → OldWithin old → IsWord (strings.bytes_of old)
old_is_word None h = omega arith
old_is_word (Some bytes) h = h

pub on_string : (row : Option Bytes → Outcome) → ((old : Option Bytes) → OldWithin old → ChangeWithin (row old).1)
    → (v : Option Value) → HeldWithin v → ChangeWithin (strings.changes row v).1
on_string row h None within = h None tt
on_string row h (Some (Value.Str bytes)) within = h (Some bytes) within
on_string row h (Some (Value.Elements b)) within = tt
on_string row h (Some (Value.Hash b)) within = tt
on_string row h (Some (Value.Set b)) within = tt

pub set_within : (bytes : Bytes) (guard : Guard) → IsWord bytes → (v : Option Value) → HeldWithin v → ChangeWithin (strings.set bytes guard v).1
set_within bytes Always word v h = word
set_within bytes Nx word None h = word
set_within bytes Nx word (Some value) h = tt
set_within bytes Xx word None h = tt
set_within bytes Xx word (Some value) h = word

pub setnx_within : (bytes : Bytes) → IsWord bytes → (v : Option Value) → HeldWithin v → ChangeWithin (strings.setnx bytes v).1
setnx_within bytes word None h = word
setnx_within bytes word (Some value) h = tt

-- ---- parts of a string

not_over : (m n : ℕ) → nat_lt m n ≡ false → n ≤ m
not_over m n e = omega (arith, ltb-false)

pub append_within : (more : Bytes) (old : Option Bytes) → OldWithin old → ChangeWithin (strings.append more old).1
append_within more old h =
    let all : Bytes = strings.bytes_of old ++ more in
    chosen_within (nat_lt strings.MAX_STRING (length all)) (refused errors.TooLong) (count (length all), Change.Put (Value.Str all))
    (λ e. tt)
    (λ e. not_over strings.MAX_STRING (length all) e)

-- what is written over is as long as the old string, or ends with the new bytes
overwritten_length : (at : ℕ) (new old : Bytes) (limit : ℕ) → at + length new ≤ limit → length old ≤ limit → length (take at (old ++ replicate (at - length old) 0) ++ new ++ drop (at + length new) old) ≤ limit
overwritten_length at new old limit a b =
    omega (
      arith,
      length-append (take at (old ++ replicate (at - length old) 0) ++ new) (drop (at + length new) old),
      length-append (take at (old ++ replicate (at - length old) 0)) new,
      length-drop (at + length new) old,
      length-take at (old ++ replicate (at - length old) 0),
    )

pub setrange_within : (at : ℤ) (new : Bytes) (old : Option Bytes) → OldWithin old → ChangeWithin (strings.setrange at new old).1
setrange_within at [] old h = tt
setrange_within at (b ∷ new) old h =
    let made : Bytes = strings.overwritten (nat_abs at) (b ∷ new) (strings.bytes_of old) in
    chosen_within (nat_lt strings.MAX_STRING (nat_abs at + length (b ∷ new))) (refused errors.TooLong) (count (length made), Change.Put (Value.Str made))
    (λ e. tt)
    (λ e. overwritten_length (nat_abs at) (b ∷ new) (strings.bytes_of old) strings.MAX_STRING (not_over strings.MAX_STRING (nat_abs at + length (b ∷ new)) e) (old_is_word old h))

-- ---- counters

below : (n : ℕ) → ltb n (2 ^ 63) ≡ true → n < 2 ^ 63
below n e = omega (arith, ltb-true)

short : (n : ℕ) → n ≤ 2 ^ 63 → length (decimal n) ≤ 20
short n l = length-decimal-le 20 n (omega arith) (omega arith) (omega arith)

-- the decimal of a number within signed 64 bits is a word
pub decimal_is_word : (n : ℤ) → fits n ≡ true → IsWord (signed_decimal n)
decimal_is_word (pos n) e = omega (arith, short n (omega (arith, below n e)))
decimal_is_word (negsuc n) e = omega (arith, short (suc n) (omega (arith, below n e)))

summed_within : (n : ℤ) → ChangeWithin (strings.summed n).1
summed_within n = chosen_within (fits n) (Int n, Change.Put (Value.Str (signed_decimal n))) (refused errors.Overflow) (λ e. decimal_is_word n e) (λ e. tt)

raised_within : (by : ℤ) (n : Option ℤ) → ChangeWithin (strings.raised by n).1
raised_within by None = tt
raised_within by (Some n) = summed_within (n +ℤ by)

lowered_within : (by : ℤ) (n : Option ℤ) → ChangeWithin (strings.lowered by n).1
lowered_within by None = tt
lowered_within by (Some n) = chosen_within (fits (neg_ℤ by)) (strings.summed (n +ℤ neg_ℤ by)) (refused errors.Overflow) (λ e. summed_within (n +ℤ neg_ℤ by)) (λ e. tt)

pub incrby_within : (by : ℤ) (old : Option Bytes) → OldWithin old → ChangeWithin (strings.incrby by old).1
incrby_within by old h = raised_within by (counter old)

pub decrby_within : (by : ℤ) (old : Option Bytes) → OldWithin old → ChangeWithin (strings.decrby by old).1
decrby_within by old h = lowered_within by (counter old)
