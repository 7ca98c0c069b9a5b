-- A text is read as a number exactly where it is the decimal of that number.
use Rattle.std.proofs.Common.{◌≡◌, ◌≢◌, ◌↔◌, ℕ, zero, suc, ◌+◌, ◌-◌, ◌*◌, ◌/◌, ◌%◌, ◌^◌, ◌<◌, ◌≤◌, ◌⊎◌, inl, inr, Bool, true, false, cond, eqb, ltb, [], ◌∷◌, ◌++◌, refl, sym, ap, ◌∙◌, arith, append_assoc, append-nil, get_or}
use Rattle.std.specs.Prelude.{Option, Some, None, ℤ, pos, negsuc}
use Rattle.std.specs.Fmt.{decimal, signed_decimal}
use Rattle.std.proofs.lemmas.Bool.{ne_eqb}
use Rattle.std.proofs.lemmas.Fmt.{decimal_by_steps, decimal_step, decimal_digit, first_decimal}
use Rattle.df_model.specs.Values.{Bytes}
use Rattle.df_model.specs.Numbers.{is_digit, digits, natural, below, positive, negative, unsigned, signed, fits}

-- which way a test went
chosen : {A : Type 0} (t : Bool) (x y z : A) → cond t x y ≡ z → ((t ≡ true) × (x ≡ z)) ⊎ ((t ≡ false) × (y ≡ z))
chosen true x y z e = inl (refl, e)
chosen false x y z e = inr (refl, e)

same_number : (m n : ℕ) → Some m ≡ Some n → m ≡ n
same_number m n e = cc

-- ---- what is written is read

is_a_digit : (d : ℕ) → d < 10 → is_digit (48 + d) ≡ true
is_a_digit d small = grind arith

one_more : (v d : ℕ) → d < 10 → digits v ((48 + d) ∷ []) ≡ Some (v * 10 + d)
one_more v d small =
    let back : 48 + d - 48 ≡ d = omega arith in
    rw (is_a_digit d small, back) refl

-- digits that were read, and further ones
digits-append : (v n : ℕ) (front back : Bytes) → digits v front ≡ Some n → digits v (front ++ back) ≡ digits n back
digits-append v n [] back e = ap (λ x. digits x back) (same_number v n e)
digits-append v n (b ∷ bs) back e = elim (chosen (is_digit b) _ _ _ e) [
  | inl h ↦ rw h.0 (digits-append (v * 10 + (b - 48)) n bs back h.1)
  | inr h ↦ cc
]

digits-decimal : (n : ℕ) → n < 2 ^ 64 → digits 0 (decimal n) ≡ Some n
digits-decimal = decimal_by_steps (λ n ds. digits 0 ds ≡ Some n)
    (λ n small. one_more 0 n small ∙ ap Some (omega arith))
    (λ n ds big ih.
    let small : n % 10 < 10 = omega arith in
    let whole : n / 10 * 10 + n % 10 ≡ n = omega arith in
    digits-append 0 (n / 10) ds ((48 + n % 10) ∷ []) ih ∙ one_more (n / 10) (n % 10) small ∙ ap Some whole)

-- digits that begin with another one than `0` are canonical
natural-digits : (ds : Bytes) → 48 < get_or ds 0 0 → natural ds ≡ digits 0 ds
natural-digits [] h = absurd (omega arith)
natural-digits (b ∷ []) h = refl
natural-digits (b ∷ c ∷ bs) h = let other : b ≢ 48 = λ e. omega (arith, e) in rw (ne_eqb b 48 other) refl

natural-decimal : (n : ℕ) → n < 2 ^ 64 → natural (decimal n) ≡ Some n
natural-decimal zero small = rw (decimal_digit 0 (omega arith)) refl
natural-decimal (suc n) small = natural-digits (decimal (suc n)) (first_decimal (suc n) (omega arith) small) ∙ digits-decimal (suc n) small

-- ---- what is read was written

digit_of : (b : ℕ) → is_digit b ≡ true → (b - 48 < 10) × (48 + (b - 48) ≡ b)
digit_of b e = grind arith

decimal_of_digit : (b : ℕ) → is_digit b ≡ true → decimal (b - 48) ≡ b ∷ []
decimal_of_digit b e = decimal_digit (b - 48) (digit_of b e).0 ∙ ap (λ x. x ∷ []) (digit_of b e).1

-- a further digit
decimal_more : (v d : ℕ) → 0 < v → d < 10 → v * 10 + d < 2 ^ 64 → decimal (v * 10 + d) ≡ decimal v ++ (48 + d) ∷ []
decimal_more v d some small fits =
    let ten : 10 ≤ v * 10 + d = omega arith in
    let front : (v * 10 + d) / 10 ≡ v = omega arith in
    let last : (v * 10 + d) % 10 ≡ d = omega arith in
    decimal_step (v * 10 + d) ten fits ∙ ap (λ x. decimal x ++ (48 + (v * 10 + d) % 10) ∷ []) front ∙ ap (λ x. decimal v ++ (48 + x) ∷ []) last

digits_grow : (v n : ℕ) (bs : Bytes) → digits v bs ≡ Some n → v ≤ n
digits_grow v n [] e = omega (arith, same_number v n e)
digits_grow v n (b ∷ bs) e = elim (chosen (is_digit b) _ _ _ e) [
  | inl h ↦ omega (arith, digits_grow (v * 10 + (b - 48)) n bs h.1)
  | inr h ↦ cc
]

digits_spelled : (v n : ℕ) (bs : Bytes) → 0 < v → n < 2 ^ 64 → digits v bs ≡ Some n → decimal v ++ bs ≡ decimal n
digits_spelled v n [] some small e = append-nil (decimal v) ∙ ap decimal (same_number v n e)
digits_spelled v n (b ∷ bs) some small e = elim (chosen (is_digit b) _ _ _ e) [
  | inl h ↦
      let d : (b - 48 < 10) × (48 + (b - 48) ≡ b) = digit_of b h.0 in
      let grown : v * 10 + (b - 48) ≤ n = digits_grow (v * 10 + (b - 48)) n bs h.1 in
      let longer : decimal (v * 10 + (b - 48)) ≡ decimal v ++ b ∷ [] = decimal_more v (b - 48) some d.0 (omega arith) ∙ ap (λ x. decimal v ++ x ∷ []) d.1 in
      sym (append_assoc (decimal v) (b ∷ []) bs) ∙ sym (ap (λ x. x ++ bs) longer) ∙ digits_spelled (v * 10 + (b - 48)) n bs (omega arith) small h.1
  | inr h ↦ cc
]

natural_spelled : (n : ℕ) (text : Bytes) → n < 2 ^ 64 → natural text ≡ Some n → text ≡ decimal n
natural_spelled n [] small e = cc
natural_spelled n (b ∷ []) small e = elim (chosen (is_digit b) _ _ _ e) [
  | inl h ↦ sym (decimal_of_digit b h.0) ∙ ap decimal (omega (arith, same_number (0 * 10 + (b - 48)) n h.1))
  | inr h ↦ cc
]
natural_spelled n (b ∷ c ∷ bs) small e = elim (chosen (eqb b 48) _ _ _ e) [
  | inl h ↦ cc
  | inr h ↦ elim (chosen (is_digit b) _ _ _ h.1) [
    | inl k ↦
        let some : 0 < b - 48 = grind arith in
        sym (ap (λ x. x ++ c ∷ bs) (decimal_of_digit b k.0)) ∙ digits_spelled (b - 48) n (c ∷ bs) some small (ap (λ x. digits x (c ∷ bs)) (omega arith) ∙ k.1)
    | inr k ↦ cc
  ]
]

-- ---- limits and signs

below_some : (limit n : ℕ) (o : Option ℕ) → below limit o ≡ Some n → (o ≡ Some n) × (n < limit)
below_some limit n None e = cc
below_some limit n (Some m) e = elim (chosen (ltb m limit) _ _ _ e) [
  | inl h ↦ (h.1, (let same : m ≡ n = same_number m n h.1 in grind arith))
  | inr h ↦ cc
]

below_limit : (limit n : ℕ) → n < limit → below limit (Some n) ≡ Some n
below_limit limit n small = let t : ltb n limit ≡ true = grind arith in rw t refl

positive_some : (n : ℤ) (o : Option ℕ) → positive o ≡ Some n → (m : ℕ) × (o ≡ Some m) × (n ≡ pos m)
positive_some n None e = cc
positive_some n (Some m) e = (m, refl, cc)

same_signed : (m n : ℤ) → Some m ≡ Some n → m ≡ n
same_signed m n e = cc

negative_suc : (m : ℕ) → negative (Some (suc m)) ≡ Some (negsuc m)
negative_suc m = let some : suc m ≢ 0 = λ e. omega (arith, e) in rw (ne_eqb (suc m) 0 some) refl

negative_some : (n : ℤ) (o : Option ℕ) → negative o ≡ Some n → (m : ℕ) × (o ≡ Some (suc m)) × (n ≡ negsuc m)
negative_some n None e = cc
negative_some n (Some zero) e = cc
negative_some n (Some (suc m)) e = (m, refl, same_signed n (negsuc m) (sym e ∙ negative_suc m))

signed_plain : (text : Bytes) → ((more : Bytes) → text ≢ 45 ∷ more) → signed text ≡ positive (below (2 ^ 63) (natural text))
signed_plain [] missing = refl
signed_plain (b ∷ bs) missing = rw (ne_eqb b 45 (λ e. missing bs (ap (λ x. x ∷ bs) e))) refl

minus_unread : (more : Bytes) → natural (45 ∷ more) ≡ None
minus_unread [] = refl
minus_unread (c ∷ bs) = refl

no_minus : (n : ℕ) (more : Bytes) → n < 2 ^ 64 → decimal n ≢ 45 ∷ more
no_minus n more small e = let unread : Some n ≡ None = sym (natural-decimal n small) ∙ ap natural e ∙ minus_unread more in cc

-- ---- the laws

unsigned_read : (n : ℕ) (text : Bytes) → unsigned text ≡ Some n → (text ≡ decimal n) × (n < 2 ^ 64)
unsigned_read n text e =
    let b : (natural text ≡ Some n) × (n < 2 ^ 64) = below_some (2 ^ 64) n (natural text) e in
    (natural_spelled n text b.1 b.0, b.1)

unsigned_written : (n : ℕ) (text : Bytes) → text ≡ decimal n → n < 2 ^ 64 → unsigned text ≡ Some n
unsigned_written n text e small = ap unsigned e ∙ ap (below (2 ^ 64)) (natural-decimal n small) ∙ below_limit (2 ^ 64) n small

pub unsigned_decimals : (text : Bytes) (n : ℕ) → (unsigned text ≡ Some n) ↔ ((text ≡ decimal n) × (n < 2 ^ 64))
unsigned_decimals text n = (unsigned_read n text, λ h. unsigned_written n text h.0 h.1)

signed_read : (n : ℤ) (text : Bytes) → signed text ≡ Some n → (text ≡ signed_decimal n) × (fits n ≡ true)
signed_read n [] e = cc
signed_read n (b ∷ bs) e = elim (chosen (eqb b 45) _ _ _ e) [
  | inl h ↦
      let s : (m : ℕ) × (below (2 ^ 63 + 1) (natural bs) ≡ Some (suc m)) × (n ≡ negsuc m) = negative_some n (below (2 ^ 63 + 1) (natural bs)) h.1 in
      let l : (natural bs ≡ Some (suc s.0)) × (suc s.0 < 2 ^ 63 + 1) = below_some (2 ^ 63 + 1) (suc s.0) (natural bs) s.1 in
      let minus : b ≡ 45 = grind arith in
      let spelled : bs ≡ decimal (suc s.0) = natural_spelled (suc s.0) bs (omega arith) l.0 in
      let within : fits (negsuc s.0) ≡ true = grind arith in
      (ap (λ x. x ∷ bs) minus ∙ ap (λ x. 45 ∷ x) spelled ∙ ap signed_decimal (sym s.2), ap fits s.2 ∙ within)
  | inr h ↦
      let s : (m : ℕ) × (below (2 ^ 63) (natural (b ∷ bs)) ≡ Some m) × (n ≡ pos m) = positive_some n (below (2 ^ 63) (natural (b ∷ bs))) h.1 in
      let l : (natural (b ∷ bs) ≡ Some s.0) × (s.0 < 2 ^ 63) = below_some (2 ^ 63) s.0 (natural (b ∷ bs)) s.1 in
      let within : fits (pos s.0) ≡ true = grind arith in
      (natural_spelled s.0 (b ∷ bs) (omega arith) l.0 ∙ ap signed_decimal (sym s.2), ap fits s.2 ∙ within)
]

signed_written : (n : ℤ) (text : Bytes) → text ≡ signed_decimal n → fits n ≡ true → signed text ≡ Some n
signed_written (pos m) text e f =
    let small : m < 2 ^ 63 = grind arith in
    ap signed e ∙ signed_plain (decimal m) (λ more. no_minus m more (omega arith)) ∙ ap (λ o. positive (below (2 ^ 63) o)) (natural-decimal m (omega arith)) ∙ ap positive (below_limit (2 ^ 63) m small)
signed_written (negsuc m) text e f =
    let small : m < 2 ^ 63 = grind arith in
    ap signed e ∙ ap (λ o. negative (below (2 ^ 63 + 1) o)) (natural-decimal (suc m) (omega arith)) ∙ ap negative (below_limit (2 ^ 63 + 1) (suc m) (omega arith)) ∙ negative_suc m

pub signed_decimals : (text : Bytes) (n : ℤ) → (signed text ≡ Some n) ↔ ((text ≡ signed_decimal n) × (fits n ≡ true))
signed_decimals text n = (signed_read n text, λ h. signed_written n text h.0 h.1)
