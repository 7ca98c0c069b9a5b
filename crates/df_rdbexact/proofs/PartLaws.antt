-- Where a whole part stands reading doesn't stop, and where it stops it does so with one fault.
use Rattle.std.proofs.Common.{◌≡◌, ℕ, ◌+◌, ◌<◌, ◌≤◌, inl, inr, List, [], ◌∷◌, ◌++◌, length, refl, sym, ap, subst, ◌∙◌, arith}
use Rattle.std.specs.Prelude.{◌⊎◌, Option, Some}
use Rattle.std.proofs.lemmas.Bool.{false≢true}
use Rattle.df_model.specs.Values.{Bytes}
use Rattle.df_rdbcore.specs.Texts.{IsLength, IsText}
use Rattle.df_rdbcore.specs.Parts.{Both, Entry, IsValue, IsPart}
use Rattle.df_rdbcore.specs.Reading.{place_of}
use Rattle.df_rdbcore.specs.declared.fault.LoadFault.{LoadFault}
use Rattle.df_rdbcore.proofs.TextLaws.{heads, length_one, text_one}
use Rattle.df_rdbcore.proofs.PartLaws.{kind_low}
use Rattle.df_rdbload.specs.Stops.{TextStops, LengthStops, BothStops, IsIn, ValueStops}
use Rattle.df_rdbload.specs.FileStops.{HoldsKey, IsUnread, IsMark, DatabaseStops, PassedStops, EntryStops, PartStops}
use Rattle.df_rdbexact.proofs.StopLaws.{Excludes, OneFault, same_front, moved, in_front, length_excludes, length_fault, text_excludes, text_fault, both_excludes, both_fault, repeated, value_excludes, value_fault}

-- ---- first bytes

key_low : (b : ℕ) → HoldsKey b → b ≤ 4
key_low b (inl e) = omega (arith, e)
key_low b (inr (inl e)) = omega (arith, e)
key_low b (inr (inr (inl e))) = omega (arith, e)
key_low b (inr (inr (inr e))) = omega (arith, e)

key_read : (b : ℕ) → HoldsKey b → IsUnread b → ⊥
key_read b (inl e) u = false≢true (subst IsUnread e u)
key_read b (inr (inl e)) u = false≢true (subst IsUnread e u)
key_read b (inr (inr (inl e))) u = false≢true (subst IsUnread e u)
key_read b (inr (inr (inr e))) u = false≢true (subst IsUnread e u)

mark_read : (b : ℕ) → IsMark b → IsUnread b → ⊥
mark_read b (inl e) u = false≢true (subst IsUnread e u)
mark_read b (inr (inl e)) u = false≢true (subst IsUnread e u)
mark_read b (inr (inr (inl e))) u = false≢true (subst IsUnread e u)
mark_read b (inr (inr (inr e))) u = false≢true (subst IsUnread e u)

mark_high : (b : ℕ) → IsMark b → 250 ≤ b
mark_high b (inl e) = omega (arith, e)
mark_high b (inr (inl e)) = omega (arith, e)
mark_high b (inr (inr (inl e))) = omega (arith, e)
mark_high b (inr (inr (inr e))) = omega (arith, e)

no_mark_key : (b : ℕ) → IsMark b → HoldsKey b → ⊥
no_mark_key b m h = let high = mark_high b m in let low = key_low b h in omega (arith, high, low)

-- ---- parts that hold no key

database_excludes : (begin size at : ℕ) (rest form tail : Bytes) (fault : LoadFault) → IsLength form 0 → rest ≡ form ++ tail → DatabaseStops begin size at rest fault → ⊥
database_excludes begin size at rest form tail fault p e (DatabaseStops.Number l) = length_excludes size at rest form tail 0 fault p e l
database_excludes begin size at rest form tail fault p e (DatabaseStops.Other front behind n q i not0 f) = not0 (sym (length_one form front tail behind 0 n p q (sym e ∙ i)).0)

database_fault : (begin : ℕ) → OneFault (DatabaseStops begin)
database_fault begin size at rest f g (DatabaseStops.Number l) (DatabaseStops.Number k) = length_fault size at rest f g l k
database_fault begin size at rest f g (DatabaseStops.Number l) (DatabaseStops.Other form behind n p i not0 q) = absurd (length_excludes size at rest form behind n f p i l)
database_fault begin size at rest f g (DatabaseStops.Other form behind n p i not0 q) (DatabaseStops.Number l) = absurd (length_excludes size at rest form behind n g p i l)
database_fault begin size at rest f g (DatabaseStops.Other form behind n p i not0 q) (DatabaseStops.Other form' behind' n' p' i' not0' q') = q ∙ sym q'

fields_exclude : Excludes (Both IsText IsText) (BothStops IsText TextStops TextStops)
fields_exclude = both_excludes IsText IsText TextStops TextStops text_one text_excludes text_excludes

sizes_exclude : Excludes (Both IsLength IsLength) (BothStops IsLength LengthStops LengthStops)
sizes_exclude = both_excludes IsLength IsLength LengthStops LengthStops length_one length_excludes length_excludes

key_not_passed : (first begin size at : ℕ) (rest : Bytes) (fault : LoadFault) → HoldsKey first → PassedStops first begin size at rest fault → ⊥
key_not_passed first begin size at rest fault h (PassedStops.Auxiliary q b) = no_mark_key first (inl q) h
key_not_passed first begin size at rest fault h (PassedStops.Sizes q b) = no_mark_key first (inr (inl q)) h
key_not_passed first begin size at rest fault h (PassedStops.Database q b) = no_mark_key first (inr (inr (inl q))) h
key_not_passed first begin size at rest fault h (PassedStops.Unread u f) = key_read first h u
key_not_passed first begin size at rest fault h (PassedStops.Unknown k u m f) = k h

-- of the first bytes that hold no key, where none is told from its first byte alone
passed_as : (first begin size at : ℕ) (rest : Bytes) (fault : LoadFault) → IsMark first → PassedStops first begin size at rest fault
    → ((first ≡ 250) × BothStops IsText TextStops TextStops size at rest fault) ⊎ (((first ≡ 251) × BothStops IsLength LengthStops LengthStops size at rest fault) ⊎ ((first ≡ 254) × DatabaseStops begin size at rest fault))
passed_as first begin size at rest fault m (PassedStops.Auxiliary q b) = inl (q, b)
passed_as first begin size at rest fault m (PassedStops.Sizes q b) = inr (inl (q, b))
passed_as first begin size at rest fault m (PassedStops.Database q b) = inr (inr (q, b))
passed_as first begin size at rest fault m (PassedStops.Unread u f) = absurd (mark_read first m u)
passed_as first begin size at rest fault m (PassedStops.Unknown k u n f) = absurd (n m)

passed_fault : (first begin : ℕ) → OneFault (PassedStops first begin)
passed_fault first begin size at rest f g (PassedStops.Auxiliary p b) (PassedStops.Auxiliary q c) = both_fault IsText IsText TextStops TextStops text_one text_excludes text_fault text_fault size at rest f g b c
passed_fault first begin size at rest f g (PassedStops.Auxiliary p b) (PassedStops.Sizes q c) = absurd (omega (arith, p, q))
passed_fault first begin size at rest f g (PassedStops.Auxiliary p b) (PassedStops.Database q c) = absurd (omega (arith, p, q))
passed_fault first begin size at rest f g (PassedStops.Auxiliary p b) (PassedStops.Unread u q) = absurd (mark_read first (inl p) u)
passed_fault first begin size at rest f g (PassedStops.Auxiliary p b) (PassedStops.Unknown k u m q) = absurd (m (inl p))
passed_fault first begin size at rest f g (PassedStops.Sizes p b) (PassedStops.Auxiliary q c) = absurd (omega (arith, p, q))
passed_fault first begin size at rest f g (PassedStops.Sizes p b) (PassedStops.Sizes q c) = both_fault IsLength IsLength LengthStops LengthStops length_one length_excludes length_fault length_fault size at rest f g b c
passed_fault first begin size at rest f g (PassedStops.Sizes p b) (PassedStops.Database q c) = absurd (omega (arith, p, q))
passed_fault first begin size at rest f g (PassedStops.Sizes p b) (PassedStops.Unread u q) = absurd (mark_read first (inr (inl p)) u)
passed_fault first begin size at rest f g (PassedStops.Sizes p b) (PassedStops.Unknown k u m q) = absurd (m (inr (inl p)))
passed_fault first begin size at rest f g (PassedStops.Database p b) (PassedStops.Auxiliary q c) = absurd (omega (arith, p, q))
passed_fault first begin size at rest f g (PassedStops.Database p b) (PassedStops.Sizes q c) = absurd (omega (arith, p, q))
passed_fault first begin size at rest f g (PassedStops.Database p b) (PassedStops.Database q c) = database_fault begin size at rest f g b c
passed_fault first begin size at rest f g (PassedStops.Database p b) (PassedStops.Unread u q) = absurd (mark_read first (inr (inr (inl p))) u)
passed_fault first begin size at rest f g (PassedStops.Database p b) (PassedStops.Unknown k u m q) = absurd (m (inr (inr (inl p))))
passed_fault first begin size at rest f g (PassedStops.Unread u p) (PassedStops.Auxiliary q c) = absurd (mark_read first (inl q) u)
passed_fault first begin size at rest f g (PassedStops.Unread u p) (PassedStops.Sizes q c) = absurd (mark_read first (inr (inl q)) u)
passed_fault first begin size at rest f g (PassedStops.Unread u p) (PassedStops.Database q c) = absurd (mark_read first (inr (inr (inl q))) u)
passed_fault first begin size at rest f g (PassedStops.Unread u p) (PassedStops.Unread v q) = p ∙ sym q
passed_fault first begin size at rest f g (PassedStops.Unread u p) (PassedStops.Unknown k v m q) = absurd (v u)
passed_fault first begin size at rest f g (PassedStops.Unknown k u m p) (PassedStops.Auxiliary q c) = absurd (m (inl q))
passed_fault first begin size at rest f g (PassedStops.Unknown k u m p) (PassedStops.Sizes q c) = absurd (m (inr (inl q)))
passed_fault first begin size at rest f g (PassedStops.Unknown k u m p) (PassedStops.Database q c) = absurd (m (inr (inr (inl q))))
passed_fault first begin size at rest f g (PassedStops.Unknown k u m p) (PassedStops.Unread v q) = absurd (u v)
passed_fault first begin size at rest f g (PassedStops.Unknown k u m p) (PassedStops.Unknown k' u' m' q) = p ∙ sym q

-- ---- keys and what they hold

entry_excludes : (keys : List Bytes) (kind begin size at : ℕ) (rest form tail : Bytes) (entry : Entry) (fault : LoadFault) → Both IsText (IsValue kind) form entry → (IsIn entry.0 keys → ⊥) → rest ≡ form ++ tail → EntryStops keys kind begin size at rest fault → ⊥
entry_excludes keys kind begin size at rest form tail entry fault p new e (EntryStops.Key t) = text_excludes size at rest p.first (p.rest ++ tail) entry.0 fault p.first_is (in_front rest form p.first p.rest tail e p.whole) t
entry_excludes keys kind begin size at rest form tail entry fault p new e (EntryStops.Again r f) = new (repeated keys rest p.first (p.rest ++ tail) entry.0 p.first_is (in_front rest form p.first p.rest tail e p.whole) r)
entry_excludes keys kind begin size at rest form tail entry fault p new e (EntryStops.Held front behind key q new' i v) =
    let r : (entry.0 ≡ key) × (p.rest ++ tail ≡ behind) = text_one p.first front (p.rest ++ tail) behind entry.0 key p.first_is q (sym (in_front rest form p.first p.rest tail e p.whole) ∙ i) in
    value_excludes kind begin size (at + length front) behind p.rest tail entry.1 fault p.rest_is (sym r.1) v

entry_fault : (keys : List Bytes) (kind begin : ℕ) → OneFault (EntryStops keys kind begin)
entry_fault keys kind begin size at rest f g (EntryStops.Key t) (EntryStops.Key u) = text_fault size at rest f g t u
entry_fault keys kind begin size at rest f g (EntryStops.Key t) (EntryStops.Again r q) = absurd (text_excludes size at rest r.form r.behind r.text f r.form_is r.whole t)
entry_fault keys kind begin size at rest f g (EntryStops.Key t) (EntryStops.Held front behind key q new i v) = absurd (text_excludes size at rest front behind key f q i t)
entry_fault keys kind begin size at rest f g (EntryStops.Again r p) (EntryStops.Key t) = absurd (text_excludes size at rest r.form r.behind r.text g r.form_is r.whole t)
entry_fault keys kind begin size at rest f g (EntryStops.Again r p) (EntryStops.Again s q) = p ∙ sym q
entry_fault keys kind begin size at rest f g (EntryStops.Again r p) (EntryStops.Held front behind key q new i v) = absurd (new (repeated keys rest front behind key q i r))
entry_fault keys kind begin size at rest f g (EntryStops.Held front behind key q new i v) (EntryStops.Key t) = absurd (text_excludes size at rest front behind key g q i t)
entry_fault keys kind begin size at rest f g (EntryStops.Held front behind key q new i v) (EntryStops.Again r p) = absurd (new (repeated keys rest front behind key q i r))
entry_fault keys kind begin size at rest f g (EntryStops.Held front behind key p new i v) (EntryStops.Held front' behind' key' q new' j w) =
    let r : (key ≡ key') × (behind ≡ behind') = text_one front front' behind behind' key key' p q (sym i ∙ j) in
    let far : length front ≡ length front' = same_front front front' behind behind' (sym i ∙ j) r.1 in
    value_fault kind begin size (at + length front') behind' f g (moved (ValueStops kind begin) size at (length front) (length front') behind behind' f far r.1 v) w

-- ---- parts

no_front : (b : ℕ) (bytes rest : Bytes) → rest ≡ b ∷ bytes → rest ≡ [] → ⊥
no_front b bytes rest e none = let p = ap length e in let q = ap length none in omega (arith, p, q)

-- what a stop is behind a part's first byte
abbrev Behind : List Bytes → ℕ → ℕ → ℕ → Bytes → LoadFault → Type 0
Behind keys first size at more fault = (HoldsKey first × EntryStops keys first (place_of at) size (at + 1) more fault) ⊎ PassedStops first (place_of at) size (at + 1) more fault

behind_first : (keys : List Bytes) (first size at : ℕ) (more rest : Bytes) (fault : LoadFault) → rest ≡ first ∷ more → PartStops keys size at rest fault → Behind keys first size at more fault
behind_first keys first size at more rest fault e (PartStops.Cut none f) = absurd (no_front first more rest e none)
behind_first keys first size at more rest fault e (PartStops.Holds kind behind h i s) =
    let same : (kind ≡ first) × (behind ≡ more) = heads kind first behind more (sym i ∙ e) in
    inl (subst HoldsKey same.0 h, subst (λ z. EntryStops keys first (place_of at) size (at + 1) z fault) same.1 (subst (λ k. EntryStops keys k (place_of at) size (at + 1) behind fault) same.0 s))
behind_first keys first size at more rest fault e (PartStops.Passed kind behind i s) =
    let same : (kind ≡ first) × (behind ≡ more) = heads kind first behind more (sym i ∙ e) in
    inr (subst (λ z. PassedStops first (place_of at) size (at + 1) z fault) same.1 (subst (λ k. PassedStops k (place_of at) size (at + 1) behind fault) same.0 s))

behind_fault : (keys : List Bytes) (first size at : ℕ) (more : Bytes) (f g : LoadFault) → Behind keys first size at more f → Behind keys first size at more g → f ≡ g
behind_fault keys first size at more f g (inl s) (inl t) = entry_fault keys first (place_of at) size (at + 1) more f g s.1 t.1
behind_fault keys first size at more f g (inl s) (inr t) = absurd (key_not_passed first (place_of at) size (at + 1) more g s.0 t)
behind_fault keys first size at more f g (inr s) (inl t) = absurd (key_not_passed first (place_of at) size (at + 1) more f t.0 s)
behind_fault keys first size at more f g (inr s) (inr t) = passed_fault first (place_of at) size (at + 1) more f g s t

pub part_fault : (keys : List Bytes) → OneFault (PartStops keys)
part_fault keys size at rest f g (PartStops.Cut none p) (PartStops.Cut none' q) = p ∙ sym q
part_fault keys size at rest f g (PartStops.Cut none p) (PartStops.Holds kind more h i s) = absurd (no_front kind more rest i none)
part_fault keys size at rest f g (PartStops.Cut none p) (PartStops.Passed kind more i s) = absurd (no_front kind more rest i none)
part_fault keys size at rest f g (PartStops.Holds kind more h i s) t = behind_fault keys kind size at more f g (inl (h, s)) (behind_first keys kind size at more rest g i t)
part_fault keys size at rest f g (PartStops.Passed kind more i s) t = behind_fault keys kind size at more f g (inr s) (behind_first keys kind size at more rest g i t)

value_kind : (kind : ℕ) (bytes : Bytes) (entry : Entry) → IsValue kind bytes entry.1 → HoldsKey kind
value_kind kind bytes entry (IsValue.Str text k c v) = inl k
value_kind kind bytes entry (IsValue.Elements texts k c n v) = inr (inl k)
value_kind kind bytes entry (IsValue.Set texts k c n o v) = inr (inr (inl k))
value_kind kind bytes entry (IsValue.Hash pairs k c n o v) = inr (inr (inr k))

-- a whole part, whose key is none of these
pub part_excludes : (keys : List Bytes) (size at : ℕ) (rest form tail : Bytes) (a : Option Entry) (fault : LoadFault) → IsPart form a → ((entry : Entry) → a ≡ Some entry → IsIn entry.0 keys → ⊥) → rest ≡ form ++ tail → PartStops keys size at rest fault → ⊥
part_excludes keys size at rest form tail a fault (IsPart.Auxiliary more said p i n) new e s = elim (behind_first keys 250 size at (more ++ tail) rest fault (e ∙ ap (λ z. z ++ tail) i) s) [
  | inl h ↦ no_mark_key 250 (inl refl) h.0
  | inr t ↦ elim (passed_as 250 (place_of at) size (at + 1) (more ++ tail) fault (inl refl) t) [
    | inl b ↦ fields_exclude size (at + 1) (more ++ tail) more tail said fault p refl b.1
    | inr (inl b) ↦ let q = b.0 in omega (arith, q)
    | inr (inr b) ↦ let q = b.0 in omega (arith, q)
  ]
]
part_excludes keys size at rest form tail a fault (IsPart.Sizes more said p i n) new e s = elim (behind_first keys 251 size at (more ++ tail) rest fault (e ∙ ap (λ z. z ++ tail) i) s) [
  | inl h ↦ no_mark_key 251 (inr (inl refl)) h.0
  | inr t ↦ elim (passed_as 251 (place_of at) size (at + 1) (more ++ tail) fault (inr (inl refl)) t) [
    | inl b ↦ let q = b.0 in omega (arith, q)
    | inr (inl b) ↦ sizes_exclude size (at + 1) (more ++ tail) more tail said fault p refl b.1
    | inr (inr b) ↦ let q = b.0 in omega (arith, q)
  ]
]
part_excludes keys size at rest form tail a fault (IsPart.Database more p i n) new e s = elim (behind_first keys 254 size at (more ++ tail) rest fault (e ∙ ap (λ z. z ++ tail) i) s) [
  | inl h ↦ no_mark_key 254 (inr (inr (inl refl))) h.0
  | inr t ↦ elim (passed_as 254 (place_of at) size (at + 1) (more ++ tail) fault (inr (inr (inl refl))) t) [
    | inl b ↦ let q = b.0 in omega (arith, q)
    | inr (inl b) ↦ let q = b.0 in omega (arith, q)
    | inr (inr b) ↦ database_excludes (place_of at) size (at + 1) (more ++ tail) more tail fault p refl b.1
  ]
]
part_excludes keys size at rest form tail a fault (IsPart.Holds kind more entry p i n) new e s = elim (behind_first keys kind size at (more ++ tail) rest fault (e ∙ ap (λ z. z ++ tail) i) s) [
  | inl h ↦ entry_excludes keys kind (place_of at) size (at + 1) (more ++ tail) more tail entry fault p (new entry n) refl h.1
  | inr t ↦ key_not_passed kind (place_of at) size (at + 1) (more ++ tail) fault (value_kind kind p.rest entry p.rest_is) t
]

-- the byte FF begins no part, and is no fault where one is needed
pub end_excludes : (keys : List Bytes) (size at : ℕ) (rest more : Bytes) (fault : LoadFault) → rest ≡ 255 ∷ more → PartStops keys size at rest fault → ⊥
end_excludes keys size at rest more fault e s = elim (behind_first keys 255 size at more rest fault e s) [
  | inl h ↦ no_mark_key 255 (inr (inr (inr refl))) h.0
  | inr t ↦ elim (passed_as 255 (place_of at) size (at + 1) more fault (inr (inr (inr refl))) t) [
    | inl b ↦ let q = b.0 in omega (arith, q)
    | inr (inl b) ↦ let q = b.0 in omega (arith, q)
    | inr (inr b) ↦ let q = b.0 in omega (arith, q)
  ]
]

part_low : (form : Bytes) (a : Option Entry) → IsPart form a → (b : ℕ) × (bs : Bytes) × (form ≡ b ∷ bs) × (b < 255)
part_low form a (IsPart.Auxiliary more said p i n) = (250, more, i, omega arith)
part_low form a (IsPart.Sizes more said p i n) = (251, more, i, omega arith)
part_low form a (IsPart.Database more p i n) = (254, more, i, omega arith)
part_low form a (IsPart.Holds kind more entry p i n) =
    let low : kind ≤ 4 = kind_low kind p.rest entry.1 p.rest_is in
    (kind, more, i, omega (arith, low))

pub part_no_end : (rest form tail more : Bytes) (a : Option Entry) → IsPart form a → rest ≡ form ++ tail → rest ≡ 255 ∷ more → ⊥
part_no_end rest form tail more a p e z =
    let h : (b : ℕ) × (bs : Bytes) × (form ≡ b ∷ bs) × (b < 255) = part_low form a p in
    let same : (h.0 ≡ 255) × (h.1 ++ tail ≡ more) = heads h.0 255 (h.1 ++ tail) more (ap (λ y. y ++ tail) (sym h.2) ∙ sym e ∙ z) in
    let is = same.0 in
    let low = h.3 in
    omega (arith, is, low)
