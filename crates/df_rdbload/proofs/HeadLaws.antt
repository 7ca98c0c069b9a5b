-- A fixed text, read byte by byte, and the digits of a version.
use Rattle.std.proofs.Common.{◌≡◌, ℕ, zero, suc, ◌+◌, ◌/◌, ◌%◌, ◌<◌, ◌≤◌, inl, inr, Bool, true, false, [], ◌∷◌, ◌++◌, length, get_or, take, drop, refl, sym, ap, subst, ◌∙◌, arith, append-nil, length-append, take-append-drop, drop-cons}
use Rattle.std.specs.Prelude.{◌⊎◌, codes}
use Rattle.std.proofs.lemmas.List.{take_more, length-take}
use Rattle.df_model.specs.Values.{Bytes}
use Rattle.df_rdbcore.specs.Files.{head}
use Rattle.df_rdbcore.specs.declared.fault.LoadFault.{LoadFault}
use Rattle.df_rdbcore.specs.declared.fault.LoadFault.TheVariants as faults
use Rattle.df_rdbload.specs.FileStops.{Agrees, IsVersion, digits, HeadStops}
use Rattle.df_rdbload.specs.Sources.{Stage, ByteStops, IsByte}
use Rattle.df_rdbload.specs.Entries.{IsLiteral, LiteralStops, VersionRead, VersionStops, IsLast, HeadRead}
use Rattle.df_rdbload.proofs.Steps.{Lifts}

-- ---- bytes that agree as far as both go

agrees_none : (text : Bytes) → Agrees text []
agrees_none [] = tt
agrees_none (x ∷ text) = tt

agrees_shorter : (text form more : Bytes) → Agrees text (form ++ more) → Agrees text form
agrees_shorter [] form more a = tt
agrees_shorter (x ∷ text) [] more a = tt
agrees_shorter (x ∷ text) (b ∷ form) more a = (a.0, agrees_shorter text form more a.1)

agrees_front : (text more form : Bytes) → Agrees (text ++ more) form → Agrees text form
agrees_front [] more form a = tt
agrees_front (x ∷ text) more [] a = tt
agrees_front (x ∷ text) more (b ∷ form) a = (a.0, agrees_front text more form a.1)

agrees_within : (front text form : Bytes) → Agrees text form → Agrees (front ++ text) (front ++ form)
agrees_within [] text form a = a
agrees_within (x ∷ front) text form a = (refl, agrees_within front text form a)

agrees_behind : (front text form : Bytes) → Agrees (front ++ text) (front ++ form) → Agrees text form
agrees_behind [] text form a = a
agrees_behind (x ∷ front) text form a = agrees_behind front text form a.1

-- bytes that end within the text agree with a longer one
agrees_longer : (text more rest : Bytes) → length rest < length text → Agrees text rest → Agrees (text ++ more) rest
agrees_longer [] more rest short a = absurd (omega arith)
agrees_longer (x ∷ text) more [] short a = tt
agrees_longer (x ∷ text) more (b ∷ rest) short a = (a.0, agrees_longer text more rest (omega arith) a.1)

agrees_itself : (text more : Bytes) → Agrees text (text ++ more)
agrees_itself [] more = tt
agrees_itself (x ∷ text) more = (refl, agrees_itself text more)

-- ---- a fixed text

abbrev pub IsFront : Bytes → Bytes → ℕ → Type 0
IsFront text form i = form ≡ take i text

pub take_whole : (n : ℕ) (bytes : Bytes) → length bytes ≤ n → take n bytes ≡ bytes
take_whole zero [] h = refl
take_whole zero (b ∷ bytes) h = absurd (omega arith)
take_whole (suc n) [] h = refl
take_whole (suc n) (b ∷ bytes) h = ap (λ z. b ∷ z) (take_whole n bytes (omega arith))

pub literal_on : (text form more : Bytes) (i b : ℕ) → i < length text → b ≡ get_or text i 0 → form ≡ take i text → more ≡ b ∷ [] → form ++ more ≡ take (i + 1) text
literal_on text form more i b lt is p q = ap (λ z. z ++ more) p ∙ ap (λ z. take i text ++ z) (q ∙ ap (λ z. z ∷ []) is) ∙ sym (take_more text i 0 lt)

pub literal_other : (text form more : Bytes) (i b : ℕ) → i < length text → (b ≡ get_or text i 0 → ⊥) → form ≡ take i text → more ≡ b ∷ [] → Agrees text (form ++ more) → ⊥
literal_other text form more i b lt other p q a =
    let whole : text ≡ take i text ++ (get_or text i 0 ∷ drop (suc i) text) = sym (take-append-drop i text) ∙ ap (λ z. take i text ++ z) (drop-cons text i 0 lt) in
    let there : form ++ more ≡ take i text ++ (b ∷ []) = ap (λ z. z ++ more) p ∙ ap (λ z. take i text ++ z) q in
    let first : Agrees (take i text ++ (get_or text i 0 ∷ drop (suc i) text)) (take i text ++ (b ∷ [])) = subst (λ z. Agrees z (take i text ++ (b ∷ []))) whole (subst (Agrees text) there a) in
    other (sym (agrees_behind (take i text) (get_or text i 0 ∷ drop (suc i) text) (b ∷ []) first).0)

pub literal_whole : (text form : Bytes) (i : ℕ) → length text ≤ i → form ≡ take i text → form ≡ text
literal_whole text form i le p = p ∙ take_whole i text le

pub literal_stops : (text : Bytes) (i : ℕ) (old : Stage) → i < length text → Lifts (IsFront text) i ByteStops (LiteralStops text) old
literal_stops text i old lt size at rest form behind fault place p whole h =
    let all : rest ≡ take i text = whole ∙ ap (λ z. form ++ z) h.0 ∙ append-nil form ∙ p in
    let agrees : Agrees text (take i text) = subst (λ z. Agrees z (take i text)) (take-append-drop i text) (subst (Agrees (take i text ++ drop i text)) (append-nil (take i text)) (agrees_within (take i text) (drop i text) [] (agrees_none (drop i text)))) in
    let long = length-take i text in
    let all_long = ap length all in (
      subst (Agrees text) (sym all) agrees,
      omega (arith, long, all_long),
      h.1,
    )

-- ---- the version

abbrev pub zeros : Bytes
zeros = 48 ∷ 48 ∷ []

five : IsVersion 5
five = (omega arith, omega arith)

ten : IsVersion 10
ten = (omega arith, omega arith)

pub zeros_stop : (size at : ℕ) (rest : Bytes) (fault : LoadFault) → LiteralStops zeros size at rest fault → VersionStops size at rest fault
zeros_stop size at rest fault h = (5, five, agrees_longer zeros (48 ∷ 53 ∷ []) rest h.1 h.0, let short = h.1 in omega arith, h.2)

pub zeros_other : (form : Bytes) → IsLiteral zeros form false → VersionRead form false
zeros_other form isnt version is a = isnt (agrees_front zeros ((48 + version / 10) ∷ (48 + version % 10) ∷ []) form a)

abbrev pub AreTens : ℕ → Bytes → ℕ → Type 0
AreTens tens form u = form ≡ 48 ∷ 48 ∷ tens ∷ []

pub tens_on : (tens : ℕ) (form more : Bytes) → IsLiteral zeros form true → IsByte more tens → form ++ more ≡ 48 ∷ 48 ∷ tens ∷ []
tens_on tens form more p q = ap (λ z. z ++ more) p ∙ ap (λ z. zeros ++ z) q

pub tens_stop : (old : Stage) → Lifts (IsLiteral zeros) true ByteStops VersionStops old
tens_stop old size at rest form behind fault place p whole h =
    let all : rest ≡ zeros = whole ∙ ap (λ z. form ++ z) h.0 ∙ append-nil form ∙ p in
    let long = ap length all in
    (5, five, subst (Agrees (digits 5)) (sym all) (refl, (refl, tt)), omega (arith, long), h.1)

low_digit : (k : ℕ) → k < 2 → (k ≡ 0) ⊎ (k ≡ 1)
low_digit zero h = inl refl
low_digit (suc zero) h = inr refl
low_digit (suc (suc k)) h = absurd (omega arith)

small : (v : ℕ) → v ≤ 12 → (v / 10 ≡ 0) ⊎ (v / 10 ≡ 1)
small v high = low_digit (v / 10) (omega arith)

pub tens_other : (tens : ℕ) (form more : Bytes) → (tens ≡ 48 → ⊥) → (tens ≡ 49 → ⊥) → IsLiteral zeros form true → IsByte more tens → VersionRead (form ++ more) false
tens_other tens form more no0 no1 p q version is a =
    let there : Agrees (digits version) (48 ∷ 48 ∷ tens ∷ []) = subst (Agrees (digits version)) (tens_on tens form more p q) a in
    let same : 48 + version / 10 ≡ tens = there.1.1.0 in
    let low = is.0 in
    let high = is.1 in
    elim (small version high) [ inl zero_tens ↦ no0 (sym same ∙ ap (λ z. 48 + z) zero_tens) | inr one_ten ↦ no1 (sym same ∙ ap (λ z. 48 + z) one_ten) ]

pub ones_stop : (tens : ℕ) (old : Stage) → (tens ≡ 48) ⊎ (tens ≡ 49) → Lifts (AreTens tens) tens ByteStops VersionStops old
ones_stop tens old which size at rest form behind fault place p whole h =
    let all : rest ≡ 48 ∷ 48 ∷ tens ∷ [] = whole ∙ ap (λ z. form ++ z) h.0 ∙ append-nil form ∙ p in
    let long = ap length all in
    let short : length rest < 4 = omega (arith, long) in
    elim which [
      | inl zero_tens ↦ (5, five, subst (Agrees (digits 5)) (sym all) (refl, (refl, (sym zero_tens, tt))), short, h.1)
      | inr one_ten ↦ (10, ten, subst (Agrees (digits 10)) (sym all) (refl, (refl, (sym one_ten, tt))), short, h.1)
    ]

pub version_read : (tens ones : ℕ) (read : Bool) (form more : Bytes) → IsLast tens ones read → AreTens tens form tens → IsByte more ones → VersionRead (form ++ more) read
version_read tens ones true form more (version, is, p, q) f m = (version, is, ap (λ z. z ++ more) f ∙ ap (λ z. 48 ∷ 48 ∷ tens ∷ z) m ∙ ap (λ z. 48 ∷ 48 ∷ z ∷ ones ∷ []) p ∙ ap (λ z. 48 ∷ 48 ∷ (48 + version / 10) ∷ z ∷ []) q)
version_read tens ones false form more isnt f m = λ version is a.
    let there : Agrees (digits version) (48 ∷ 48 ∷ tens ∷ ones ∷ []) = subst (Agrees (digits version)) (ap (λ z. z ++ more) f ∙ ap (λ z. 48 ∷ 48 ∷ tens ∷ z) m) a in
    isnt version is (sym there.1.1.0) (sym there.1.1.1.0)

-- ---- magic and version

abbrev pub magic : Bytes
magic = codes "REDIS"

pub magic_stops : (size at : ℕ) (rest : Bytes) (fault : LoadFault) → LiteralStops magic size at rest fault → HeadStops size at rest fault
magic_stops size at rest fault h = HeadStops.Cut 5 five (agrees_longer magic (digits 5) rest h.1 h.0) (let short = h.1 in omega arith) h.2

pub magic_other : (size at : ℕ) (rest form behind : Bytes) → IsLiteral magic form false → rest ≡ form ++ behind → HeadStops size at rest faults.BadMagic
magic_other size at rest form behind isnt whole = HeadStops.Magic (λ a. isnt (agrees_shorter magic form behind (subst (Agrees magic) whole a))) refl

pub version_stops : (old : Stage) → Lifts (IsLiteral magic) true VersionStops HeadStops old
version_stops old size at rest form behind fault place p whole h =
    let all : rest ≡ magic ++ behind = whole ∙ ap (λ z. z ++ behind) p in
    let long = ap length all in
    let both = length-append magic behind in
    let short = h.3 in
    HeadStops.Cut h.0 h.1 (subst (Agrees (head h.0)) (sym all) (agrees_within magic (digits h.0) behind h.2)) (omega (arith, long, both, short)) h.4

pub version_other : (size at : ℕ) (rest form behind : Bytes) → form ≡ magic → (more after : Bytes) → VersionRead more false → behind ≡ more ++ after → rest ≡ form ++ behind → HeadStops size at rest faults.BadVersion
version_other size at rest form behind p more after isnt e whole =
    let all : rest ≡ magic ++ behind = whole ∙ ap (λ z. z ++ behind) p in
    HeadStops.Version (subst (Agrees magic) (sym all) (agrees_itself magic behind))
    (λ version is a. isnt version is (agrees_shorter (digits version) more after (subst (Agrees (digits version)) e (agrees_behind magic (digits version) behind (subst (Agrees (head version)) all a))))) refl

abbrev pub MagicVersion : Bytes → Bool → Type 0
MagicVersion form read = (front : Bytes) × (more : Bytes) × (front ≡ magic) × VersionRead more read × (form ≡ front ++ more)

pub head_read : (form more : Bytes) → IsLiteral magic form true → VersionRead more true → HeadRead (form ++ more) tt
head_read form more p v = (v.0, v.1, ap (λ z. z ++ more) p ∙ ap (λ z. magic ++ z) v.2)
