-- Lengths and strings are read in one way, whatever follows them.
use Rattle.std.proofs.Common.{◌≡◌, ℕ, ◌+◌, ◌-◌, ◌*◌, ◌/◌, ◌%◌, ◌<◌, ◌≤◌, Bool, true, false, cond, [], ◌∷◌, ◌++◌, length, refl, sym, ap, ◌∙◌, arith, append_assoc}
use Rattle.std.specs.Prelude.{◌==◌, nat_lt}
use Rattle.std.specs.Int.{w8, w16, w32, w64, cast_signed, to_be_bytes, to_le_bytes, from_be_bytes, from_le_bytes}
use Rattle.std.specs.Fmt.{signed_decimal}
use Rattle.std.proofs.lemmas.Nat.{from_be_bytes-to_be_bytes_4, from_be_bytes-to_be_bytes_8, from_le_bytes-to_le_bytes_2, from_le_bytes-to_le_bytes_4}
use Rattle.df_model.specs.Values.{Bytes}
use Rattle.df_rdbcore.specs.Texts.{IsLength, IsText, NumberForm, mark, limit, width}

-- no form begins another with another reading, so what follows is told apart
abbrev pub OneForm : {A : Type 0} → (Bytes → A → Type 0) → Type 0
OneForm {A} P = (s t x y : Bytes) (a b : A) → P s a → P t b → s ++ x ≡ t ++ y → (a ≡ b) × (x ≡ y)

-- ---- lists

pub heads : (b c : ℕ) (s t : Bytes) → b ∷ s ≡ c ∷ t → (b ≡ c) × (s ≡ t)
heads b c s t e = let p : b ≡ c = cc in let q : s ≡ t = cc in (p, q)

pub append_same : (s t x y : Bytes) → length s ≡ length t → s ++ x ≡ t ++ y → (s ≡ t) × (x ≡ y)
append_same [] [] x y l e = (refl, e)
append_same [] (c ∷ t) x y l e = absurd (omega arith)
append_same (b ∷ s) [] x y l e = absurd (omega arith)
append_same (b ∷ s) (c ∷ t) x y l e =
    let h : (b ≡ c) × (s ++ x ≡ t ++ y) = heads b c (s ++ x) (t ++ y) e in
    let l' : length s ≡ length t = omega arith in
    let ih : (s ≡ t) × (x ≡ y) = append_same s t x y l' h.1 in
    let p : b ∷ s ≡ c ∷ t = cc in
    (p, ih.1)

-- ---- lengths

abbrev pub by_tests : Bool → Bool → Bool → ℕ
by_tests a b c = cond a 1 (cond b 2 (cond c 5 9))

-- how many bytes a length has, by its first
abbrev pub form_length : ℕ → ℕ
form_length b = by_tests (nat_lt b 64) (nat_lt b 128) (b == 128)

pub record Headed (bytes : Bytes) : Type 0 where
  pub first : ℕ
  pub behind : Bytes
  pub is : bytes ≡ first ∷ behind
  pub below : first < 130
  pub long : length bytes ≡ form_length first

one_long : (n : ℕ) → n < 64 → form_length n ≡ 1
one_long n h = let t : nat_lt n 64 ≡ true = grind arith in ap (λ z. by_tests z (nat_lt n 128) (n == 128)) t

second_test : (a b c : Bool) → a ≡ false → b ≡ true → by_tests a b c ≡ 2
second_test a b c p q = ap (λ z. by_tests z b c) p ∙ ap (λ z. by_tests false z c) q

two_long : (n : ℕ) → 64 ≤ n → n < 128 → form_length n ≡ 2
two_long n h k =
    let t : nat_lt n 64 ≡ false = grind arith in
    let u : nat_lt n 128 ≡ true = grind arith in
    second_test (nat_lt n 64) (nat_lt n 128) (n == 128) t u

pub headed : (bytes : Bytes) (n : ℕ) → IsLength bytes n → Headed bytes
headed bytes n (IsLength.Six h e) = record { first = n; behind = []; is = e; below = omega arith; long = ap length e ∙ sym (one_long n h) }
headed bytes n (IsLength.Fourteen h e) =
    let low : 64 ≤ 64 + n / 256 = omega arith in
    let high : 64 + n / 256 < 128 = omega arith in
    record { first = 64 + n / 256; behind = (n % 256) ∷ []; is = e; below = omega arith; long = ap length e ∙ sym (two_long (64 + n / 256) low high) }
headed bytes n (IsLength.ThirtyTwo h e) = record { first = 128; behind = to_be_bytes w32 n; is = e; below = omega arith; long = ap length e }
headed bytes n (IsLength.SixtyFour h e) = record { first = 129; behind = to_be_bytes w64 n; is = e; below = omega arith; long = ap length e }

-- the number that a length's bytes stand for
abbrev number_of : Bytes → ℕ
number_of [] = 0
number_of (b ∷ []) = b
number_of (b ∷ c ∷ []) = (b - 64) * 256 + c
number_of (b ∷ c ∷ d ∷ bs) = cond (length bs == 2) (from_be_bytes w32 (c ∷ d ∷ bs)) (from_be_bytes w64 (c ∷ d ∷ bs))

is_number : (bytes : Bytes) (n : ℕ) → IsLength bytes n → number_of bytes ≡ n
is_number bytes n (IsLength.Six h e) = ap number_of e
is_number bytes n (IsLength.Fourteen h e) = let back : (64 + n / 256 - 64) * 256 + n % 256 ≡ n = omega arith in ap number_of e ∙ back
is_number bytes n (IsLength.ThirtyTwo h e) = ap number_of e ∙ from_be_bytes-to_be_bytes_4 n h
is_number bytes n (IsLength.SixtyFour h e) = ap number_of e ∙ from_be_bytes-to_be_bytes_8 n h

pub length_one : OneForm IsLength
length_one s t x y n m p q e =
    let hs : Headed s = headed s n p in
    let ht : Headed t = headed t m q in
    let e' : hs.first ∷ hs.behind ++ x ≡ ht.first ∷ ht.behind ++ y = ap (λ z. z ++ x) (sym hs.is) ∙ e ∙ ap (λ z. z ++ y) ht.is in
    let same : hs.first ≡ ht.first = (heads hs.first ht.first (hs.behind ++ x) (ht.behind ++ y) e').0 in
    let long : length s ≡ length t = hs.long ∙ ap form_length same ∙ sym ht.long in
    let r : (s ≡ t) × (x ≡ y) = append_same s t x y long e in
    (sym (is_number s n p) ∙ ap number_of r.0 ∙ is_number t m q, r.1)

-- ---- strings

pub mark_high : (form : NumberForm) → 192 ≤ mark form
mark_high NumberForm.One = omega arith
mark_high NumberForm.Two = omega arith
mark_high NumberForm.Four = omega arith

pub record NumberSame (form form' : NumberForm) (n m : ℕ) (x y : Bytes) : Type 0 where
  pub value : cast_signed (width form) n ≡ cast_signed (width form') m
  pub behind : x ≡ y

number_same : (form form' : NumberForm) (n m : ℕ) (x y : Bytes) → n < limit form → m < limit form' → mark form ≡ mark form' →
    to_le_bytes (width form) n ++ x ≡ to_le_bytes (width form') m ++ y → NumberSame form form' n m x y
number_same NumberForm.One NumberForm.One n m x y h k e w =
    let r : (n % 256 ≡ m % 256) × (x ≡ y) = heads (n % 256) (m % 256) x y w in
    let same : n ≡ m = omega (arith, r.0) in
    record { value = ap (cast_signed w8) same; behind = r.1 }
number_same NumberForm.Two NumberForm.Two n m x y h k e w =
    let r : (to_le_bytes w16 n ≡ to_le_bytes w16 m) × (x ≡ y) = append_same (to_le_bytes w16 n) (to_le_bytes w16 m) x y refl w in
    let same : n ≡ m = sym (from_le_bytes-to_le_bytes_2 n h) ∙ ap (from_le_bytes w16) r.0 ∙ from_le_bytes-to_le_bytes_2 m k in
    record { value = ap (cast_signed w16) same; behind = r.1 }
number_same NumberForm.Four NumberForm.Four n m x y h k e w =
    let r : (to_le_bytes w32 n ≡ to_le_bytes w32 m) × (x ≡ y) = append_same (to_le_bytes w32 n) (to_le_bytes w32 m) x y refl w in
    let same : n ≡ m = sym (from_le_bytes-to_le_bytes_4 n h) ∙ ap (from_le_bytes w32) r.0 ∙ from_le_bytes-to_le_bytes_4 m k in
    record { value = ap (cast_signed w32) same; behind = r.1 }
number_same NumberForm.One NumberForm.Two n m x y h k e w = absurd (omega arith)
number_same NumberForm.One NumberForm.Four n m x y h k e w = absurd (omega arith)
number_same NumberForm.Two NumberForm.One n m x y h k e w = absurd (omega arith)
number_same NumberForm.Two NumberForm.Four n m x y h k e w = absurd (omega arith)
number_same NumberForm.Four NumberForm.One n m x y h k e w = absurd (omega arith)
number_same NumberForm.Four NumberForm.Two n m x y h k e w = absurd (omega arith)

-- a length is no number
apart : (head text rest x y : Bytes) (k : ℕ) (form : NumberForm) → IsLength head k → (head ++ text) ++ x ≡ mark form ∷ rest ++ y → ⊥
apart head text rest x y k form p e =
    let h : Headed head = headed head k p in
    let e' : h.first ∷ (h.behind ++ text) ++ x ≡ mark form ∷ rest ++ y = ap (λ z. (z ++ text) ++ x) (sym h.is) ∙ e in
    let same : h.first ≡ mark form = (heads h.first (mark form) ((h.behind ++ text) ++ x) (rest ++ y) e').0 in
    let high : 192 ≤ mark form = mark_high form in
    let low : h.first < 130 = h.below in
    omega arith

pub text_one : OneForm IsText
text_one s t x y a b (IsText.Plain head l w i) (IsText.Plain head' l' w' i') e =
    let e' : head ++ (a ++ x) ≡ head' ++ (b ++ y) = sym (append_assoc head a x) ∙ ap (λ z. z ++ x) (sym i) ∙ e ∙ ap (λ z. z ++ y) i' ∙ append_assoc head' b y in
    let r : (length a ≡ length b) × (a ++ x ≡ b ++ y) = length_one head head' (a ++ x) (b ++ y) (length a) (length b) l l' e' in
    append_same a b x y r.0 r.1
text_one s t x y a b (IsText.Plain head l w i) (IsText.Number form n f d i') e =
    absurd (apart head a (to_le_bytes (width form) n) x y (length a) form l (ap (λ z. z ++ x) (sym i) ∙ e ∙ ap (λ z. z ++ y) i'))
text_one s t x y a b (IsText.Number form n f d i) (IsText.Plain head l w i') e =
    absurd (apart head b (to_le_bytes (width form) n) y x (length b) form l (ap (λ z. z ++ y) (sym i') ∙ sym e ∙ ap (λ z. z ++ x) i))
text_one s t x y a b (IsText.Number form n f d i) (IsText.Number form' m f' d' i') e =
    let e' : mark form ∷ to_le_bytes (width form) n ++ x ≡ mark form' ∷ to_le_bytes (width form') m ++ y = ap (λ z. z ++ x) (sym i) ∙ e ∙ ap (λ z. z ++ y) i' in
    let h : (mark form ≡ mark form') × (to_le_bytes (width form) n ++ x ≡ to_le_bytes (width form') m ++ y) = heads (mark form) (mark form') (to_le_bytes (width form) n ++ x) (to_le_bytes (width form') m ++ y) e' in
    let r : NumberSame form form' n m x y = number_same form form' n m x y f f' h.0 h.1 in
    (d ∙ ap signed_decimal r.value ∙ sym d', r.behind)
