-- Where a whole form stands reading doesn't stop, and where it stops it does so with one fault: up to values.
use Rattle.std.proofs.Common.{◌≡◌, ◌≢◌, ℕ, ◌+◌, ◌<◌, ◌≤◌, inl, inr, List, [], ◌∷◌, ◌++◌, length, refl, sym, ap, subst, ◌∙◌, arith, append_assoc, length-append}
use Rattle.std.specs.Prelude.{◌⊎◌}
use Rattle.std.specs.Int.{to_le_bytes}
use Rattle.std.specs.List.{AllByRecursion}
use Rattle.std.proofs.lemmas.Bool.{cases_order}
use Rattle.df_model.specs.Values.{Bytes}
use Rattle.df_model.specs.Framing.{MAX_WORD}
use Rattle.df_rdbcore.specs.Texts.{IsLength, IsText, NumberForm, mark, width}
use Rattle.df_rdbcore.specs.Parts.{Both, InTurn, Counted, IsValue, NoneTwice, Pair, firsts}
use Rattle.df_rdbcore.specs.Seen.{BeginsNoLength, BeginsNoText, BeginsCompressed, BeginsTooLong}
use Rattle.df_rdbcore.specs.declared.fault.LoadFault.{LoadFault}
use Rattle.df_rdbcore.proofs.TextLaws.{OneForm, Headed, headed, length_one, text_one}
use Rattle.df_rdbcore.proofs.PartLaws.{both_one, in_turn_one}
use Rattle.df_rdbload.specs.Stops.{Stops, LengthStops, TextStops, BothStops, Midway, CountStops, ElementsStop, IsIn, Repeats, ElementStops, MemberStops, PairStops, Any, ValueStops}

-- where a whole form stands, reading doesn't stop
abbrev pub Excludes : {A : Type 0} → (Bytes → A → Type 0) → Stops → Type 0
Excludes {A} P S = (size at : ℕ) (rest form tail : Bytes) (a : A) (fault : LoadFault) → P form a → rest ≡ form ++ tail → S size at rest fault → ⊥

abbrev pub OneFault : Stops → Type 0
OneFault S = (size at : ℕ) (rest : Bytes) (f g : LoadFault) → S size at rest f → S size at rest g → f ≡ g

-- ---- lists

pub same_front : (s t x y : Bytes) → s ++ x ≡ t ++ y → x ≡ y → length s ≡ length t
same_front s t x y e same =
    let left = length-append s x in
    let right = length-append t y in
    let all = ap length e in
    let behind = ap length same in
    omega (arith, left, right, all, behind)

pub moved : (T : Stops) (size at n m : ℕ) (x y : Bytes) (fault : LoadFault) → n ≡ m → x ≡ y → T size (at + n) x fault → T size (at + m) y fault
moved T size at n m x y fault p q t = subst (λ z. T size (at + m) z fault) q (subst (λ k. T size (at + k) x fault) p t)

-- a whole front of a whole
pub in_front : (rest form first more tail : Bytes) → rest ≡ form ++ tail → form ≡ first ++ more → rest ≡ first ++ (more ++ tail)
in_front rest form first more tail e w = e ∙ ap (λ z. z ++ tail) w ∙ append_assoc first more tail

-- ---- lengths

starts_low : (rest form tail : Bytes) (n : ℕ) → IsLength form n → rest ≡ form ++ tail → BeginsNoLength rest → ⊥
starts_low rest form tail n p e b =
    let h : Headed form = headed form n p in
    let high : 130 ≤ h.first = subst BeginsNoLength (e ∙ ap (λ z. z ++ tail) h.is) b in
    let low : h.first < 130 = h.below in
    omega arith

pub length_excludes : Excludes IsLength LengthStops
length_excludes size at rest form tail n fault p e (LengthStops.Cut w f) = w.0 form n tail p e
length_excludes size at rest form tail n fault p e (LengthStops.Bad b f) = starts_low rest form tail n p e b

pub length_fault : OneFault LengthStops
length_fault size at rest f g (LengthStops.Cut w p) (LengthStops.Cut v q) = p ∙ sym q
length_fault size at rest f g (LengthStops.Cut w p) (LengthStops.Bad b q) = absurd (w.1 b)
length_fault size at rest f g (LengthStops.Bad b p) (LengthStops.Cut w q) = absurd (w.1 b)
length_fault size at rest f g (LengthStops.Bad b p) (LengthStops.Bad c q) = p ∙ sym q

-- ---- strings

-- the first byte of a string that may be read
record Lettered (bytes : Bytes) : Type 0 where
  first : ℕ
  behind : Bytes
  is : bytes ≡ first ∷ behind
  within : (first < 130) ⊎ ((192 ≤ first) × (first < 195))

mark_within : (form : NumberForm) → (192 ≤ mark form) × (mark form < 195)
mark_within NumberForm.One = (omega arith, omega arith)
mark_within NumberForm.Two = (omega arith, omega arith)
mark_within NumberForm.Four = (omega arith, omega arith)

lettered : (bytes text : Bytes) → IsText bytes text → Lettered bytes
lettered bytes text (IsText.Plain head l w i) =
    let h : Headed head = headed head (length text) l in
    record { first = h.first; behind = h.behind ++ text; is = i ∙ ap (λ z. z ++ text) h.is; within = inl h.below }
lettered bytes text (IsText.Number form n k d i) = record { first = mark form; behind = to_le_bytes (width form) n; is = i; within = inr (mark_within form) }

no_text : (b : ℕ) (bs : Bytes) → (b < 130) ⊎ ((192 ≤ b) × (b < 195)) → BeginsNoText (b ∷ bs) → ⊥
no_text b bs (inl low) (inl h) = let k = h.0 in omega (arith, low, k)
no_text b bs (inl low) (inr h) = omega (arith, low, h)
no_text b bs (inr m) (inl h) = let k = h.1 in let l = m.0 in omega (arith, k, l)
no_text b bs (inr m) (inr h) = let l = m.1 in omega (arith, h, l)

no_packed : (b : ℕ) (bs : Bytes) → (b < 130) ⊎ ((192 ≤ b) × (b < 195)) → BeginsCompressed (b ∷ bs) → ⊥
no_packed b bs (inl low) h = omega (arith, low, h)
no_packed b bs (inr m) h = let l = m.1 in omega (arith, h, l)

fits : (rest form tail text : Bytes) → IsText form text → rest ≡ form ++ tail → BeginsTooLong rest → ⊥
fits rest form tail text (IsText.Plain head l w i) e (long, n, after, q, big, e') =
    let r : (n ≡ length text) × (after ≡ text ++ tail) = length_one long head after (text ++ tail) n (length text) q l (sym e' ∙ in_front rest form head text tail e i) in
    let same : n ≡ length text = r.0 in
    let word : length text ≤ MAX_WORD = w in
    omega (arith, same, word, big)
fits rest form tail text (IsText.Number f n k d i) e (long, m, after, q, big, e') =
    starts_low rest long after m q e' (subst BeginsNoLength (sym (e ∙ ap (λ z. z ++ tail) i)) (let high = (mark_within f).0 in omega (arith, high)))

pub text_excludes : Excludes IsText TextStops
text_excludes size at rest form tail a fault p e (TextStops.Cut w f) = w.none form a tail p e
text_excludes size at rest form tail a fault p e (TextStops.Bad (inl b) f) =
    let h : Lettered form = lettered form a p in
    no_text h.first (h.behind ++ tail) h.within (subst BeginsNoText (e ∙ ap (λ z. z ++ tail) h.is) b)
text_excludes size at rest form tail a fault p e (TextStops.Bad (inr long) f) = fits rest form tail a p e long
text_excludes size at rest form tail a fault p e (TextStops.Compressed c f) =
    let h : Lettered form = lettered form a p in
    no_packed h.first (h.behind ++ tail) h.within (subst BeginsCompressed (e ∙ ap (λ z. z ++ tail) h.is) c)

bad_or_packed : (rest : Bytes) → BeginsNoText rest ⊎ BeginsTooLong rest → BeginsCompressed rest → ⊥
bad_or_packed [] (inl h) c = h
bad_or_packed (b ∷ rest) (inl (inl h)) c = let k = h.1 in omega (arith, c, k)
bad_or_packed (b ∷ rest) (inl (inr h)) c = omega (arith, c, h)
bad_or_packed rest (inr (form, n, tail, p, big, e)) c =
    let h : Headed form = headed form n p in
    let is : h.first ≡ 195 = subst BeginsCompressed (e ∙ ap (λ z. z ++ tail) h.is) c in
    let low : h.first < 130 = h.below in
    omega (arith, is, low)

pub text_fault : OneFault TextStops
text_fault size at rest f g (TextStops.Cut w p) (TextStops.Cut v q) = p ∙ sym q
text_fault size at rest f g (TextStops.Cut w p) (TextStops.Bad (inl b) q) = absurd (w.begins b)
text_fault size at rest f g (TextStops.Cut w p) (TextStops.Bad (inr b) q) = absurd (w.short b)
text_fault size at rest f g (TextStops.Cut w p) (TextStops.Compressed c q) = absurd (w.plain c)
text_fault size at rest f g (TextStops.Bad (inl b) p) (TextStops.Cut w q) = absurd (w.begins b)
text_fault size at rest f g (TextStops.Bad (inr b) p) (TextStops.Cut w q) = absurd (w.short b)
text_fault size at rest f g (TextStops.Bad b p) (TextStops.Bad c q) = p ∙ sym q
text_fault size at rest f g (TextStops.Bad b p) (TextStops.Compressed c q) = absurd (bad_or_packed rest b c)
text_fault size at rest f g (TextStops.Compressed c p) (TextStops.Cut w q) = absurd (w.plain c)
text_fault size at rest f g (TextStops.Compressed c p) (TextStops.Bad b q) = absurd (bad_or_packed rest b c)
text_fault size at rest f g (TextStops.Compressed c p) (TextStops.Compressed d q) = p ∙ sym q

-- ---- one behind another

module _ {A B : Type 0} (P : Bytes → A → Type 0) (Q : Bytes → B → Type 0) (S T : Stops) (one : OneForm P) (exS : Excludes P S) where
  pub both_excludes : Excludes Q T → Excludes (Both P Q) (BothStops P S T)
  both_excludes exT size at rest form tail a fault p e (BothStops.First s) = exS size at rest p.first (p.rest ++ tail) a.0 fault p.first_is (in_front rest form p.first p.rest tail e p.whole) s
  both_excludes exT size at rest form tail a fault p e (BothStops.Other front behind b q i t) =
      let r : (a.0 ≡ b) × (p.rest ++ tail ≡ behind) = one p.first front (p.rest ++ tail) behind a.0 b p.first_is q (sym (in_front rest form p.first p.rest tail e p.whole) ∙ i) in
      exT size (at + length front) behind p.rest tail a.1 fault p.rest_is (sym r.1) t

  pub both_fault : OneFault S → OneFault T → OneFault (BothStops P S T)
  both_fault oneS oneT size at rest f g (BothStops.First s) (BothStops.First s') = oneS size at rest f g s s'
  both_fault oneS oneT size at rest f g (BothStops.First s) (BothStops.Other front behind b q i t) = absurd (exS size at rest front behind b f q i s)
  both_fault oneS oneT size at rest f g (BothStops.Other front behind b q i t) (BothStops.First s) = absurd (exS size at rest front behind b g q i s)
  both_fault oneS oneT size at rest f g (BothStops.Other front behind a p i t) (BothStops.Other front' behind' b q j t') =
      let r : (a ≡ b) × (behind ≡ behind') = one front front' behind behind' a b p q (sym i ∙ j) in
      let long : length front ≡ length front' = same_front front front' behind behind' (sym i ∙ j) r.1 in
      oneT size (at + length front') behind' f g (moved T size at (length front) (length front') behind behind' f long r.1 t) t'

-- ---- so many in turn

-- what one list has and the other, which is read from the same bytes, hasn't
pub record Further {A : Type 0} (P : Bytes → A → Type 0) (us vs : List A) (behind : Bytes) : Type 0 where
  pub next : A
  pub others : List A
  pub form : Bytes
  pub tail : Bytes
  pub is : P form next
  pub whole : behind ≡ form ++ tail
  pub longer : vs ≡ us ++ next ∷ others

pub further : {A : Type 0} (P : Bytes → A → Type 0) → OneForm P → (s t x y : Bytes) (us vs : List A) → length us < length vs → InTurn P s us → InTurn P t vs → s ++ x ≡ t ++ y → Further P us vs x
further P one s t x y us [] lt p q e = absurd (omega arith)
further P one s t x y [] (v ∷ vs) lt p (first, rest, q, qs, j) e = record {
  next = v;
  others = vs;
  form = first;
  tail = rest ++ y;
  is = q;
  whole = ap (λ z. z ++ x) (sym p) ∙ in_front (s ++ x) t first rest y e j;
  longer = refl;
}
further P one s t x y (u ∷ us) (v ∷ vs) lt (first, rest, p, ps, i) (first', rest', q, qs, j) e =
    let r : (u ≡ v) × (rest ++ x ≡ rest' ++ y) = one first first' (rest ++ x) (rest' ++ y) u v p q (sym (in_front (s ++ x) s first rest x refl i) ∙ in_front (s ++ x) t first' rest' y e j) in
    let lt' : length us < length vs = omega arith in
    let ih : Further P us vs x = further P one rest rest' x y us vs lt' ps qs r.1 in
    record { next = ih.next; others = ih.others; form = ih.form; tail = ih.tail; is = ih.is; whole = ih.whole; longer = λ k. sym r.0 k ∷ ih.longer k }

-- a whole next element excludes a stop behind those before it
abbrev pub NextExcludes : {A : Type 0} → (Bytes → A → Type 0) → (List A → Type 0) → (List A → Stops) → Type 0
NextExcludes {A} P Fine Next =
    (us : List A) (a : A) (others : List A) (size at : ℕ) (rest form tail : Bytes) (fault : LoadFault) → P form a → rest ≡ form ++ tail → Fine (us ++ a ∷ others) → Next us size at rest fault → ⊥

module _ {A : Type 0} (P : Bytes → A → Type 0) (Fine : List A → Type 0) (Next : List A → Stops) (one : OneForm P) (ex : NextExcludes P Fine Next) where
  -- none stops before the last of a longer list
  shorter : (s t x y : Bytes) (us vs : List A) (size at : ℕ) (fault : LoadFault) → length us < length vs → InTurn P s us → InTurn P t vs → Fine vs → s ++ x ≡ t ++ y → Next us size at x fault → ⊥
  shorter s t x y us vs size at fault lt p q fine e stop =
      let f : Further P us vs x = further P one s t x y us vs lt p q e in
      ex us f.next f.others size at x f.form f.tail fault f.is f.whole (subst Fine f.longer fine) stop

  midway_excludes : (count size at : ℕ) (rest form tail : Bytes) (xs : List A) (fault : LoadFault) → InTurn P form xs → length xs ≡ count → Fine xs → rest ≡ form ++ tail → Midway P Fine Next count size at rest fault → ⊥
  midway_excludes count size at rest form tail xs fault p long fine e m =
      let few : length m.read < count = m.few in
      let lt : length m.read < length xs = omega (arith, few, long) in
      shorter m.front form m.behind tail m.read xs size (at + length m.front) fault lt m.read_are p fine (sym m.whole ∙ e) m.stops

  midway_fault : ((us : List A) → OneFault (Next us)) → (count : ℕ) → OneFault (Midway P Fine Next count)
  midway_fault each count size at rest f g m n = elim (cases_order (length m.read) (length n.read)) [
    | inl long ↦
        let r : (m.read ≡ n.read) × (m.behind ≡ n.behind) = in_turn_one P one m.front n.front m.behind n.behind m.read n.read long m.read_are n.read_are (sym m.whole ∙ n.whole) in
        let far : length m.front ≡ length n.front = same_front m.front n.front m.behind n.behind (sym m.whole ∙ n.whole) r.1 in
        let there : Next n.read size (at + length m.front) m.behind f = subst (λ z. Next z size (at + length m.front) m.behind f) r.0 m.stops in
        each n.read size (at + length n.front) n.behind f g (moved (Next n.read) size at (length m.front) (length n.front) m.behind n.behind f far r.1 there) n.stops
    | inr (inl lt) ↦ absurd (shorter m.front n.front m.behind n.behind m.read n.read size (at + length m.front) f lt m.read_are n.read_are n.fine (sym m.whole ∙ n.whole) m.stops)
    | inr (inr lt) ↦ absurd (shorter n.front m.front n.behind m.behind n.read m.read size (at + length n.front) g lt n.read_are m.read_are m.fine (sym n.whole ∙ m.whole) n.stops)
  ]

  -- ---- collections

  pub elements_exclude : (begin size at : ℕ) (rest form tail : Bytes) (xs : List A) (fault : LoadFault) → Counted P form xs → 0 < length xs → Fine xs → rest ≡ form ++ tail → ElementsStop P Fine Next begin size at rest fault → ⊥
  elements_exclude begin size at rest form tail xs fault c some fine e (ElementsStop.Count (CountStops.Count l)) =
      length_excludes size at rest c.first (c.rest ++ tail) (length xs) fault c.first_is (in_front rest form c.first c.rest tail e c.whole) l
  elements_exclude begin size at rest form tail xs fault c some fine e (ElementsStop.Count (CountStops.Empty front behind z i f)) =
      let r : (length xs ≡ 0) × (c.rest ++ tail ≡ behind) = length_one c.first front (c.rest ++ tail) behind (length xs) 0 c.first_is z (sym (in_front rest form c.first c.rest tail e c.whole) ∙ i) in
      let none = r.0 in
      omega (arith, none, some)
  elements_exclude begin size at rest form tail xs fault c some fine e (ElementsStop.Element front behind count l i m) =
      let r : (length xs ≡ count) × (c.rest ++ tail ≡ behind) = length_one c.first front (c.rest ++ tail) behind (length xs) count c.first_is l (sym (in_front rest form c.first c.rest tail e c.whole) ∙ i) in
      midway_excludes count size (at + length front) behind c.rest tail xs fault c.rest_is r.0 fine (sym r.1) m

  count_or_element : (begin size at : ℕ) (rest front behind : Bytes) (count : ℕ) (f g : LoadFault) → CountStops begin size at rest f → IsLength front count → rest ≡ front ++ behind → Midway P Fine Next count size (at + length front) behind g → ⊥
  count_or_element begin size at rest front behind count f g (CountStops.Count l) p i m = length_excludes size at rest front behind count f p i l
  count_or_element begin size at rest front behind count f g (CountStops.Empty front' behind' z j k) p i m =
      let r : (count ≡ 0) × (behind ≡ behind') = length_one front front' behind behind' count 0 p z (sym i ∙ j) in
      let none = r.0 in
      let few = m.few in
      omega (arith, none, few)

  pub elements_fault : ((us : List A) → OneFault (Next us)) → (begin : ℕ) → OneFault (ElementsStop P Fine Next begin)
  elements_fault each begin size at rest f g (ElementsStop.Count (CountStops.Count l)) (ElementsStop.Count (CountStops.Count k)) = length_fault size at rest f g l k
  elements_fault each begin size at rest f g (ElementsStop.Count (CountStops.Count l)) (ElementsStop.Count (CountStops.Empty front behind z i q)) = absurd (length_excludes size at rest front behind 0 f z i l)
  elements_fault each begin size at rest f g (ElementsStop.Count (CountStops.Empty front behind z i p)) (ElementsStop.Count (CountStops.Count k)) = absurd (length_excludes size at rest front behind 0 g z i k)
  elements_fault each begin size at rest f g (ElementsStop.Count (CountStops.Empty front behind z i p)) (ElementsStop.Count (CountStops.Empty front' behind' z' j q)) = p ∙ sym q
  elements_fault each begin size at rest f g (ElementsStop.Count c) (ElementsStop.Element front behind count l i m) = absurd (count_or_element begin size at rest front behind count f g c l i m)
  elements_fault each begin size at rest f g (ElementsStop.Element front behind count l i m) (ElementsStop.Count c) = absurd (count_or_element begin size at rest front behind count g f c l i m)
  elements_fault each begin size at rest f g (ElementsStop.Element front behind count l i m) (ElementsStop.Element front' behind' count' l' j n) =
      let r : (count ≡ count') × (behind ≡ behind') = length_one front front' behind behind' count count' l l' (sym i ∙ j) in
      let far : length front ≡ length front' = same_front front front' behind behind' (sym i ∙ j) r.1 in
      let there : Midway P Fine Next count' size (at + length front) behind f = subst (λ z. Midway P Fine Next z size (at + length front) behind f) r.0 m in
      midway_fault each count' size (at + length front') behind' f g (moved (Midway P Fine Next count') size at (length front) (length front') behind behind' f far r.1 there) n

-- ---- what may not stand twice

apart_at : (u : Bytes) (us : List Bytes) (a : Bytes) (others : List Bytes) → AllByRecursion (λ y. u ≢ y) (us ++ a ∷ others) → u ≢ a
apart_at u [] a others h = h.0
apart_at u (v ∷ us) a others h = apart_at u us a others h.1

pub not_before : (us : List Bytes) (a : Bytes) (others : List Bytes) → NoneTwice (us ++ a ∷ others) → IsIn a us → ⊥
not_before [] a others once h = h
not_before (u ∷ us) a others once (inl same) = apart_at u us a others once.0 (sym same)
not_before (u ∷ us) a others once (inr h) = not_before us a others once.1 h

pub firsts_append : {X : Type 0} (us : List (Bytes × X)) (a : Bytes × X) (others : List (Bytes × X)) → firsts (us ++ a ∷ others) ≡ firsts us ++ a.0 ∷ firsts others
firsts_append [] a others = refl
firsts_append (u ∷ us) a others = ap (λ z. u.0 ∷ z) (firsts_append us a others)

-- a whole string that was read before
pub repeated : (read : List Bytes) (rest form tail text : Bytes) → IsText form text → rest ≡ form ++ tail → Repeats read rest → IsIn text read
repeated read rest form tail text p e r =
    let same : (r.text ≡ text) × (r.behind ≡ tail) = text_one r.form form r.behind tail r.text text r.form_is p (sym r.whole ∙ e) in
    subst (λ z. IsIn z read) same.0 r.known

element_excludes : NextExcludes IsText Any ElementStops
element_excludes us a others size at rest form tail fault p e fine t = text_excludes size at rest form tail a fault p e t

member_excludes : (begin : ℕ) → NextExcludes IsText NoneTwice (MemberStops begin)
member_excludes begin us a others size at rest form tail fault p e fine (MemberStops.Text t) = text_excludes size at rest form tail a fault p e t
member_excludes begin us a others size at rest form tail fault p e fine (MemberStops.Again r f) = not_before us a others fine (repeated us rest form tail a p e r)

member_fault : (begin : ℕ) (us : List Bytes) → OneFault (MemberStops begin us)
member_fault begin us size at rest f g (MemberStops.Text t) (MemberStops.Text u) = text_fault size at rest f g t u
member_fault begin us size at rest f g (MemberStops.Text t) (MemberStops.Again r q) = absurd (text_excludes size at rest r.form r.behind r.text f r.form_is r.whole t)
member_fault begin us size at rest f g (MemberStops.Again r p) (MemberStops.Text t) = absurd (text_excludes size at rest r.form r.behind r.text g r.form_is r.whole t)
member_fault begin us size at rest f g (MemberStops.Again r p) (MemberStops.Again s q) = p ∙ sym q

abbrev pub OncePairs : List Pair → Type 0
OncePairs read = NoneTwice (firsts read)

pair_excludes : (begin : ℕ) → NextExcludes (Both IsText IsText) OncePairs (PairStops begin)
pair_excludes begin us a others size at rest form tail fault p e fine (PairStops.Field t) = text_excludes size at rest p.first (p.rest ++ tail) a.0 fault p.first_is (in_front rest form p.first p.rest tail e p.whole) t
pair_excludes begin us a others size at rest form tail fault p e fine (PairStops.Again r f) =
    not_before (firsts us) a.0 (firsts others) (subst NoneTwice (firsts_append us a others) fine) (repeated (firsts us) rest p.first (p.rest ++ tail) a.0 p.first_is (in_front rest form p.first p.rest tail e p.whole) r)
pair_excludes begin us a others size at rest form tail fault p e fine (PairStops.Held front behind field q new i t) =
    let r : (a.0 ≡ field) × (p.rest ++ tail ≡ behind) = text_one p.first front (p.rest ++ tail) behind a.0 field p.first_is q (sym (in_front rest form p.first p.rest tail e p.whole) ∙ i) in
    text_excludes size (at + length front) behind p.rest tail a.1 fault p.rest_is (sym r.1) t

pair_fault : (begin : ℕ) (us : List Pair) → OneFault (PairStops begin us)
pair_fault begin us size at rest f g (PairStops.Field t) (PairStops.Field u) = text_fault size at rest f g t u
pair_fault begin us size at rest f g (PairStops.Field t) (PairStops.Again r q) = absurd (text_excludes size at rest r.form r.behind r.text f r.form_is r.whole t)
pair_fault begin us size at rest f g (PairStops.Field t) (PairStops.Held front behind field q new i u) = absurd (text_excludes size at rest front behind field f q i t)
pair_fault begin us size at rest f g (PairStops.Again r p) (PairStops.Field t) = absurd (text_excludes size at rest r.form r.behind r.text g r.form_is r.whole t)
pair_fault begin us size at rest f g (PairStops.Again r p) (PairStops.Again s q) = p ∙ sym q
pair_fault begin us size at rest f g (PairStops.Again r p) (PairStops.Held front behind field q new i u) = absurd (new (repeated (firsts us) rest front behind field q i r))
pair_fault begin us size at rest f g (PairStops.Held front behind field q new i u) (PairStops.Field t) = absurd (text_excludes size at rest front behind field g q i t)
pair_fault begin us size at rest f g (PairStops.Held front behind field q new i u) (PairStops.Again r p) = absurd (new (repeated (firsts us) rest front behind field q i r))
pair_fault begin us size at rest f g (PairStops.Held front behind field p new i t) (PairStops.Held front' behind' field' q new' j u) =
    let r : (field ≡ field') × (behind ≡ behind') = text_one front front' behind behind' field field' p q (sym i ∙ j) in
    let far : length front ≡ length front' = same_front front front' behind behind' (sym i ∙ j) r.1 in
    text_fault size (at + length front') behind' f g (moved TextStops size at (length front) (length front') behind behind' f far r.1 t) u

-- ---- values

pair_one : OneForm (Both IsText IsText)
pair_one = both_one IsText IsText text_one text_one

pub value_excludes : (kind begin : ℕ) → Excludes (IsValue kind) (ValueStops kind begin)
value_excludes kind begin size at rest form tail a fault (IsValue.Str text k c v) e (ValueStops.Str l s) = text_excludes size at rest form tail text fault c e s
value_excludes kind begin size at rest form tail a fault (IsValue.Str text k c v) e (ValueStops.Elements l s) = omega (arith, k, l)
value_excludes kind begin size at rest form tail a fault (IsValue.Str text k c v) e (ValueStops.Set l s) = omega (arith, k, l)
value_excludes kind begin size at rest form tail a fault (IsValue.Str text k c v) e (ValueStops.Hash l s) = omega (arith, k, l)
value_excludes kind begin size at rest form tail a fault (IsValue.Elements texts k c n v) e (ValueStops.Str l s) = omega (arith, k, l)
value_excludes kind begin size at rest form tail a fault (IsValue.Elements texts k c n v) e (ValueStops.Elements l s) =
    elements_exclude IsText Any ElementStops text_one element_excludes begin size at rest form tail texts fault c n tt e s
value_excludes kind begin size at rest form tail a fault (IsValue.Elements texts k c n v) e (ValueStops.Set l s) = omega (arith, k, l)
value_excludes kind begin size at rest form tail a fault (IsValue.Elements texts k c n v) e (ValueStops.Hash l s) = omega (arith, k, l)
value_excludes kind begin size at rest form tail a fault (IsValue.Set texts k c n o v) e (ValueStops.Str l s) = omega (arith, k, l)
value_excludes kind begin size at rest form tail a fault (IsValue.Set texts k c n o v) e (ValueStops.Elements l s) = omega (arith, k, l)
value_excludes kind begin size at rest form tail a fault (IsValue.Set texts k c n o v) e (ValueStops.Set l s) =
    elements_exclude IsText NoneTwice (MemberStops begin) text_one (member_excludes begin) begin size at rest form tail texts fault c n o e s
value_excludes kind begin size at rest form tail a fault (IsValue.Set texts k c n o v) e (ValueStops.Hash l s) = omega (arith, k, l)
value_excludes kind begin size at rest form tail a fault (IsValue.Hash pairs k c n o v) e (ValueStops.Str l s) = omega (arith, k, l)
value_excludes kind begin size at rest form tail a fault (IsValue.Hash pairs k c n o v) e (ValueStops.Elements l s) = omega (arith, k, l)
value_excludes kind begin size at rest form tail a fault (IsValue.Hash pairs k c n o v) e (ValueStops.Set l s) = omega (arith, k, l)
value_excludes kind begin size at rest form tail a fault (IsValue.Hash pairs k c n o v) e (ValueStops.Hash l s) =
    elements_exclude (Both IsText IsText) OncePairs (PairStops begin) pair_one (pair_excludes begin) begin size at rest form tail pairs fault c n o e s

pub value_fault : (kind begin : ℕ) → OneFault (ValueStops kind begin)
value_fault kind begin size at rest f g (ValueStops.Str k s) (ValueStops.Str l t) = text_fault size at rest f g s t
value_fault kind begin size at rest f g (ValueStops.Str k s) (ValueStops.Elements l t) = absurd (omega (arith, k, l))
value_fault kind begin size at rest f g (ValueStops.Str k s) (ValueStops.Set l t) = absurd (omega (arith, k, l))
value_fault kind begin size at rest f g (ValueStops.Str k s) (ValueStops.Hash l t) = absurd (omega (arith, k, l))
value_fault kind begin size at rest f g (ValueStops.Elements k s) (ValueStops.Str l t) = absurd (omega (arith, k, l))
value_fault kind begin size at rest f g (ValueStops.Elements k s) (ValueStops.Elements l t) =
    elements_fault IsText Any ElementStops text_one element_excludes (λ us. text_fault) begin size at rest f g s t
value_fault kind begin size at rest f g (ValueStops.Elements k s) (ValueStops.Set l t) = absurd (omega (arith, k, l))
value_fault kind begin size at rest f g (ValueStops.Elements k s) (ValueStops.Hash l t) = absurd (omega (arith, k, l))
value_fault kind begin size at rest f g (ValueStops.Set k s) (ValueStops.Str l t) = absurd (omega (arith, k, l))
value_fault kind begin size at rest f g (ValueStops.Set k s) (ValueStops.Elements l t) = absurd (omega (arith, k, l))
value_fault kind begin size at rest f g (ValueStops.Set k s) (ValueStops.Set l t) =
    elements_fault IsText NoneTwice (MemberStops begin) text_one (member_excludes begin) (member_fault begin) begin size at rest f g s t
value_fault kind begin size at rest f g (ValueStops.Set k s) (ValueStops.Hash l t) = absurd (omega (arith, k, l))
value_fault kind begin size at rest f g (ValueStops.Hash k s) (ValueStops.Str l t) = absurd (omega (arith, k, l))
value_fault kind begin size at rest f g (ValueStops.Hash k s) (ValueStops.Elements l t) = absurd (omega (arith, k, l))
value_fault kind begin size at rest f g (ValueStops.Hash k s) (ValueStops.Set l t) = absurd (omega (arith, k, l))
value_fault kind begin size at rest f g (ValueStops.Hash k s) (ValueStops.Hash l t) =
    elements_fault (Both IsText IsText) OncePairs (PairStops begin) pair_one (pair_excludes begin) (pair_fault begin) begin size at rest f g s t
