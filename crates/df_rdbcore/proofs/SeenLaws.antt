-- What the code sees at the front of bytes is what stands there.
use Rattle.std.proofs.Common.{◌≡◌, ℕ, ℤ, zero, suc, ◌+◌, ◌-◌, ◌%◌, ◌^◌, ◌<◌, ◌≤◌, inl, inr, [], ◌∷◌, ◌++◌, length, get_or, take, drop, sym, ap, subst, ◌∙◌, arith, append_assoc, length-append, take-add, take-append-drop}
use Rattle.std.specs.Int.{w8, w16, w32, cast_signed, to_le_bytes}
use Rattle.std.specs.Fmt.{signed_decimal}
use Rattle.std.proofs.lemmas.Grind.{common_steps}
use Rattle.df_model.specs.Values.{Bytes}
use Rattle.df_model.specs.Framing.{IsWord, MAX_WORD}
use Rattle.df_rdbcore.specs.Texts.{IsLength, IsText, NumberForm, mark, width}
use Rattle.df_rdbcore.specs.Seen.{NoneBegins, BeginsNoText, BeginsCompressed, BeginsTooLong, AwaitsLength, AwaitsText}
use Rattle.df_rdbcore.proofs.TextLaws.{mark_high, Headed, headed, length_one}

get_first : (bytes : Bytes) (b : ℕ) (bs : Bytes) → bytes ≡ b ∷ bs → get_or bytes 0 0 ≡ b
get_first bytes b bs e = ap (λ z. get_or z 0 0) e

-- the first byte of a length
low_first : (bytes form tail : Bytes) (n : ℕ) → IsLength form n → bytes ≡ form ++ tail → get_or bytes 0 0 < 130
low_first bytes form tail n p e =
    let h : Headed form = headed form n p in
    let first : get_or bytes 0 0 ≡ h.first = get_first bytes h.first (h.behind ++ tail) (e ∙ ap (λ z. z ++ tail) h.is) in
    subst (λ k. k < 130) (sym first) h.below

no_number : (bytes rest tail : Bytes) (form : NumberForm) → get_or bytes 0 0 < 130 → bytes ≡ (mark form ∷ rest) ++ tail → ⊥
no_number bytes rest tail form low e =
    let first : get_or bytes 0 0 ≡ mark form = get_first bytes (mark form) (rest ++ tail) e in
    let high : 192 ≤ mark form = mark_high form in
    omega arith

begins : (bytes : Bytes) → get_or bytes 0 0 < 130 → ¬ (BeginsNoText bytes)
begins [] low h = h
begins (b ∷ bs) low (inl h) = omega arith
begins (b ∷ bs) low (inr h) = omega arith

plain : (bytes : Bytes) → get_or bytes 0 0 < 130 → ¬ (BeginsCompressed bytes)
plain [] low h = h
plain (b ∷ bs) low h = omega arith

-- ---- strings behind a length

no_text : (bytes : Bytes) → get_or bytes 0 0 < 130 → NoneBegins IsLength bytes → NoneBegins IsText bytes
no_text bytes low none form text tail (IsText.Plain head l w i) e = none head (length text) (text ++ tail) l (e ∙ ap (λ z. z ++ tail) i ∙ append_assoc head text tail)
no_text bytes low none form text tail (IsText.Number f n k d i) e = no_number bytes (to_le_bytes (width f) n) tail f low (e ∙ ap (λ z. z ++ tail) i)

pub awaits_text : (bytes : Bytes) → get_or bytes 0 0 < 130 → AwaitsLength bytes → AwaitsText bytes
awaits_text bytes low a = record {
  none = no_text bytes low a.0;
  begins = begins bytes low;
  plain = plain bytes low;
  short = λ t. a.0 t.0 t.1 t.2 t.3 t.5;
}

pub too_long : (bytes : Bytes) (n used : ℕ) → IsLength (take used bytes) n → MAX_WORD < n → BeginsTooLong bytes
too_long bytes n used l big = (take used bytes, n, drop used bytes, l, big, sym (take-append-drop used bytes))

-- any length at the front is the one that was seen
same_length : (bytes form tail : Bytes) (n m used : ℕ) → IsLength (take used bytes) n → IsLength form m → bytes ≡ form ++ tail → (n ≡ m) × (drop used bytes ≡ tail)
same_length bytes form tail n m used l p e = length_one (take used bytes) form (drop used bytes) tail n m l p (take-append-drop used bytes ∙ e)

seen_low : (bytes : Bytes) (n used : ℕ) → IsLength (take used bytes) n → get_or bytes 0 0 < 130
seen_low bytes n used l = low_first bytes (take used bytes) (drop used bytes) n l (sym (take-append-drop used bytes))

no_whole : (bytes : Bytes) (n used : ℕ) → used ≤ length bytes → IsLength (take used bytes) n → length bytes - used < n → NoneBegins IsText bytes
no_whole bytes n used within l short form text tail (IsText.Plain head p w i) e =
    let s : (n ≡ length text) × (drop used bytes ≡ text ++ tail) = same_length bytes head (text ++ tail) n (length text) used l p (e ∙ ap (λ z. z ++ tail) i ∙ append_assoc head text tail) in
    let left : length (drop used bytes) ≡ length text + length tail = ap length s.1 ∙ length-append text tail in
    let many : length (drop used bytes) ≡ length bytes - used = grind (arith, common_steps) in
    let n_is : n ≡ length text = s.0 in
    omega arith
no_whole bytes n used within l short form text tail (IsText.Number f k h d i) e = no_number bytes (to_le_bytes (width f) k) tail f (seen_low bytes n used l) (e ∙ ap (λ z. z ++ tail) i)

not_too_long : (bytes : Bytes) (n used : ℕ) → IsLength (take used bytes) n → n ≤ MAX_WORD → ¬ (BeginsTooLong bytes)
not_too_long bytes n used l fits (form, m, tail, p, big, e) =
    let s : (n ≡ m) × (drop used bytes ≡ tail) = same_length bytes form tail n m used l p e in
    let same : n ≡ m = s.0 in
    omega arith

pub awaits_bytes : (bytes : Bytes) (n used : ℕ) → used ≤ length bytes → IsLength (take used bytes) n → n ≤ MAX_WORD → length bytes - used < n → AwaitsText bytes
awaits_bytes bytes n used within l fits short = record {
  none = no_whole bytes n used within l short;
  begins = begins bytes (seen_low bytes n used l);
  plain = plain bytes (seen_low bytes n used l);
  short = not_too_long bytes n used l fits;
}

pub plain_seen : (bytes : Bytes) (n used : ℕ) → used + n ≤ length bytes → IsLength (take used bytes) n → n ≤ MAX_WORD → IsText (take (used + n) bytes) (take n (drop used bytes))
plain_seen bytes n used within l fits =
    let long : length (take n (drop used bytes)) ≡ n = grind (arith, common_steps) in
    let word : IsWord (take n (drop used bytes)) = omega arith in
    let whole : take (used + n) bytes ≡ take used bytes ++ take n (drop used bytes) = take-add used n bytes in
    IsText.Plain (take used bytes) (subst (IsLength (take used bytes)) (sym long) l) word whole

-- ---- numbers

pub one_seen : (bytes : Bytes) (n : ℕ) (z : ℤ) → 2 ≤ length bytes → get_or bytes 0 0 ≡ mark NumberForm.One → n < 2 ^ 8 → z ≡ cast_signed w8 n → get_or bytes 1 0 ≡ n → IsText (take 2 bytes) (signed_decimal z)
one_seen [] n z long first fits is byte = absurd (omega arith)
one_seen (a ∷ []) n z long first fits is byte = absurd (omega arith)
one_seen (a ∷ b ∷ bs) n z long first fits is byte =
    let low : b ≡ n % 256 = omega arith in
    IsText.Number NumberForm.One n fits (ap signed_decimal is) (λ i. first i ∷ low i ∷ [])

pub two_seen : (bytes : Bytes) (n : ℕ) (z : ℤ) → 3 ≤ length bytes → get_or bytes 0 0 ≡ mark NumberForm.Two → n < 2 ^ 16 → z ≡ cast_signed w16 n →
    to_le_bytes w16 n ≡ get_or bytes 1 0 ∷ get_or bytes 2 0 ∷ [] → IsText (take 3 bytes) (signed_decimal z)
two_seen [] n z long first fits is low = absurd (omega arith)
two_seen (a ∷ []) n z long first fits is low = absurd (omega arith)
two_seen (a ∷ b ∷ []) n z long first fits is low = absurd (omega arith)
two_seen (a ∷ b ∷ c ∷ bs) n z long first fits is low = IsText.Number NumberForm.Two n fits (ap signed_decimal is) (λ i. first i ∷ sym low i)

pub four_seen : (bytes : Bytes) (n : ℕ) (z : ℤ) → 5 ≤ length bytes → get_or bytes 0 0 ≡ mark NumberForm.Four → n < 2 ^ 32 → z ≡ cast_signed w32 n →
    to_le_bytes w32 n ≡ get_or bytes 1 0 ∷ get_or bytes 2 0 ∷ get_or bytes 3 0 ∷ get_or bytes 4 0 ∷ [] → IsText (take 5 bytes) (signed_decimal z)
four_seen [] n z long first fits is low = absurd (omega arith)
four_seen (a ∷ []) n z long first fits is low = absurd (omega arith)
four_seen (a ∷ b ∷ []) n z long first fits is low = absurd (omega arith)
four_seen (a ∷ b ∷ c ∷ []) n z long first fits is low = absurd (omega arith)
four_seen (a ∷ b ∷ c ∷ d ∷ []) n z long first fits is low = absurd (omega arith)
four_seen (a ∷ b ∷ c ∷ d ∷ e ∷ bs) n z long first fits is low = IsText.Number NumberForm.Four n fits (ap signed_decimal is) (λ i. first i ∷ sym low i)

pub two_small : (a b : ℕ) → a < 256 → b < 256 → (i : ℕ) → get_or (a ∷ b ∷ []) i 0 < 256
two_small a b p q zero = p
two_small a b p q (suc zero) = q
two_small a b p q (suc (suc i)) = omega arith

pub four_small : (a b c d : ℕ) → a < 256 → b < 256 → c < 256 → d < 256 → (i : ℕ) → get_or (a ∷ b ∷ c ∷ d ∷ []) i 0 < 256
four_small a b c d p q r s zero = p
four_small a b c d p q r s (suc zero) = q
four_small a b c d p q r s (suc (suc zero)) = r
four_small a b c d p q r s (suc (suc (suc zero))) = s
four_small a b c d p q r s (suc (suc (suc (suc i)))) = omega arith
