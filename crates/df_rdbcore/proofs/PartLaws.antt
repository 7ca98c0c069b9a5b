-- Values and parts are read in one way, whatever follows them.
use Rattle.std.proofs.Common.{◌≡◌, ℕ, ◌≤◌, List, [], ◌∷◌, ◌++◌, length, Option, Some, refl, sym, ap, subst, ◌∙◌, arith, append_assoc}
use Rattle.df_model.specs.Values.{Bytes, Value}
use Rattle.df_rdbcore.specs.Texts.{IsLength, IsText}
use Rattle.df_rdbcore.specs.Parts.{Both, InTurn, Counted, Entry, IsValue, IsPart, members_of, fields_of}
use Rattle.df_rdbcore.proofs.TextLaws.{OneForm, heads, length_one, text_one}

pub both_one : {A B : Type 0} (P : Bytes → A → Type 0) (Q : Bytes → B → Type 0) → OneForm P → OneForm Q → OneForm (Both P Q)
both_one P Q one two s t x y a b p q e =
    let e' : p.first ++ (p.rest ++ x) ≡ q.first ++ (q.rest ++ y) =
    sym (append_assoc p.first p.rest x) ∙ ap (λ z. z ++ x) (sym p.whole) ∙ e ∙ ap (λ z. z ++ y) q.whole ∙ append_assoc q.first q.rest y in
    let r : (a.0 ≡ b.0) × (p.rest ++ x ≡ q.rest ++ y) = one p.first q.first (p.rest ++ x) (q.rest ++ y) a.0 b.0 p.first_is q.first_is e' in
    let l : (a.1 ≡ b.1) × (x ≡ y) = two p.rest q.rest x y a.1 b.1 p.rest_is q.rest_is r.1 in
    ((λ i. (r.0 i, l.0 i)), l.1)

pub in_turn_one : {A : Type 0} (P : Bytes → A → Type 0) → OneForm P → (s t x y : Bytes) (us vs : List A) → length us ≡ length vs → InTurn P s us → InTurn P t vs → s ++ x ≡ t ++ y → (us ≡ vs) × (x ≡ y)
in_turn_one P one s t x y [] [] l p q e = (refl, ap (λ z. z ++ x) (sym p) ∙ e ∙ ap (λ z. z ++ y) q)
in_turn_one P one s t x y [] (b ∷ vs) l p q e = absurd (omega arith)
in_turn_one P one s t x y (a ∷ us) [] l p q e = absurd (omega arith)
in_turn_one P one s t x y (a ∷ us) (b ∷ vs) l (first, rest, p, ps, i) (first', rest', q, qs, j) e =
    let e' : first ++ (rest ++ x) ≡ first' ++ (rest' ++ y) = sym (append_assoc first rest x) ∙ ap (λ z. z ++ x) (sym i) ∙ e ∙ ap (λ z. z ++ y) j ∙ append_assoc first' rest' y in
    let r : (a ≡ b) × (rest ++ x ≡ rest' ++ y) = one first first' (rest ++ x) (rest' ++ y) a b p q e' in
    let l' : length us ≡ length vs = omega arith in
    let ih : (us ≡ vs) × (x ≡ y) = in_turn_one P one rest rest' x y us vs l' ps qs r.1 in
    ((λ k. r.0 k ∷ ih.0 k), ih.1)

pub counted_one : {A : Type 0} (P : Bytes → A → Type 0) → OneForm P → (s t x y : Bytes) (us vs : List A) → Counted P s us → Counted P t vs → s ++ x ≡ t ++ y → (us ≡ vs) × (x ≡ y)
counted_one P one s t x y us vs p q e =
    let e' : p.first ++ (p.rest ++ x) ≡ q.first ++ (q.rest ++ y) =
    sym (append_assoc p.first p.rest x) ∙ ap (λ z. z ++ x) (sym p.whole) ∙ e ∙ ap (λ z. z ++ y) q.whole ∙ append_assoc q.first q.rest y in
    let r : (length us ≡ length vs) × (p.rest ++ x ≡ q.rest ++ y) = length_one p.first q.first (p.rest ++ x) (q.rest ++ y) (length us) (length vs) p.first_is q.first_is e' in
    in_turn_one P one p.rest q.rest x y us vs r.0 p.rest_is q.rest_is r.1

-- ---- values

pub kind_low : (kind : ℕ) (bytes : Bytes) (value : Value) → IsValue kind bytes value → kind ≤ 4
kind_low kind bytes value (IsValue.Str text k c v) = omega arith
kind_low kind bytes value (IsValue.Elements texts k c n v) = omega arith
kind_low kind bytes value (IsValue.Set texts k c n o v) = omega arith
kind_low kind bytes value (IsValue.Hash pairs k c n o v) = omega arith

pub value_one : (kind : ℕ) → OneForm (IsValue kind)
value_one kind s t x y a b (IsValue.Str text k c v) (IsValue.Str text' k' c' v') e =
    let r : (text ≡ text') × (x ≡ y) = text_one s t x y text text' c c' e in (v ∙ ap Value.Str r.0 ∙ sym v', r.1)
value_one kind s t x y a b (IsValue.Str text k c v) (IsValue.Elements texts' k' c' n' v') e = absurd (omega arith)
value_one kind s t x y a b (IsValue.Str text k c v) (IsValue.Set texts' k' c' n' o' v') e = absurd (omega arith)
value_one kind s t x y a b (IsValue.Str text k c v) (IsValue.Hash pairs' k' c' n' o' v') e = absurd (omega arith)
value_one kind s t x y a b (IsValue.Elements texts k c n v) (IsValue.Str text' k' c' v') e = absurd (omega arith)
value_one kind s t x y a b (IsValue.Elements texts k c n v) (IsValue.Elements texts' k' c' n' v') e =
    let r : (texts ≡ texts') × (x ≡ y) = counted_one IsText text_one s t x y texts texts' c c' e in (v ∙ ap Value.Elements r.0 ∙ sym v', r.1)
value_one kind s t x y a b (IsValue.Elements texts k c n v) (IsValue.Set texts' k' c' n' o' v') e = absurd (omega arith)
value_one kind s t x y a b (IsValue.Elements texts k c n v) (IsValue.Hash pairs' k' c' n' o' v') e = absurd (omega arith)
value_one kind s t x y a b (IsValue.Set texts k c n o v) (IsValue.Str text' k' c' v') e = absurd (omega arith)
value_one kind s t x y a b (IsValue.Set texts k c n o v) (IsValue.Elements texts' k' c' n' v') e = absurd (omega arith)
value_one kind s t x y a b (IsValue.Set texts k c n o v) (IsValue.Set texts' k' c' n' o' v') e =
    let r : (texts ≡ texts') × (x ≡ y) = counted_one IsText text_one s t x y texts texts' c c' e in (v ∙ ap (λ z. Value.Set (members_of z)) r.0 ∙ sym v', r.1)
value_one kind s t x y a b (IsValue.Set texts k c n o v) (IsValue.Hash pairs' k' c' n' o' v') e = absurd (omega arith)
value_one kind s t x y a b (IsValue.Hash pairs k c n o v) (IsValue.Str text' k' c' v') e = absurd (omega arith)
value_one kind s t x y a b (IsValue.Hash pairs k c n o v) (IsValue.Elements texts' k' c' n' v') e = absurd (omega arith)
value_one kind s t x y a b (IsValue.Hash pairs k c n o v) (IsValue.Set texts' k' c' n' o' v') e = absurd (omega arith)
value_one kind s t x y a b (IsValue.Hash pairs k c n o v) (IsValue.Hash pairs' k' c' n' o' v') e =
    let r : (pairs ≡ pairs') × (x ≡ y) = counted_one (Both IsText IsText) (both_one IsText IsText text_one text_one) s t x y pairs pairs' c c' e in (v ∙ ap (λ z. Value.Hash (fields_of z)) r.0 ∙ sym v', r.1)

-- ---- parts

held_one : (kind kind' : ℕ) (s t x y : Bytes) (entry entry' : Entry) (a b : Option Entry) → kind ≡ kind' → Both IsText (IsValue kind) s entry → Both IsText (IsValue kind') t entry' →
    s ++ x ≡ t ++ y → a ≡ Some entry → b ≡ Some entry' → (a ≡ b) × (x ≡ y)
held_one kind kind' s t x y entry entry' a b k p q e n n' =
    let q' : Both IsText (IsValue kind) t entry' = subst (λ z. Both IsText (IsValue z) t entry') (sym k) q in
    let r : (entry ≡ entry') × (x ≡ y) = both_one IsText (IsValue kind) text_one (value_one kind) s t x y entry entry' p q' e in
    (n ∙ ap Some r.0 ∙ sym n', r.1)

pub part_one : OneForm IsPart
part_one s t x y a b (IsPart.Auxiliary rest said p i n) (IsPart.Auxiliary rest' said' p' i' n') e =
    let h : (250 ≡ 250) × (rest ++ x ≡ rest' ++ y) = heads 250 250 (rest ++ x) (rest' ++ y) (ap (λ z. z ++ x) (sym i) ∙ e ∙ ap (λ z. z ++ y) i') in
    (n ∙ sym n', (both_one IsText IsText text_one text_one rest rest' x y said said' p p' h.1).1)
part_one s t x y a b (IsPart.Auxiliary rest said p i n) (IsPart.Sizes rest' said' p' i' n') e =
    let h : (250 ≡ 251) × (rest ++ x ≡ rest' ++ y) = heads 250 251 (rest ++ x) (rest' ++ y) (ap (λ z. z ++ x) (sym i) ∙ e ∙ ap (λ z. z ++ y) i') in
    absurd (omega (arith, h.0))
part_one s t x y a b (IsPart.Auxiliary rest said p i n) (IsPart.Database rest' p' i' n') e =
    let h : (250 ≡ 254) × (rest ++ x ≡ rest' ++ y) = heads 250 254 (rest ++ x) (rest' ++ y) (ap (λ z. z ++ x) (sym i) ∙ e ∙ ap (λ z. z ++ y) i') in
    absurd (omega (arith, h.0))
part_one s t x y a b (IsPart.Auxiliary rest said p i n) (IsPart.Holds kind' rest' entry' p' i' n') e =
    let h : (250 ≡ kind') × (rest ++ x ≡ rest' ++ y) = heads 250 kind' (rest ++ x) (rest' ++ y) (ap (λ z. z ++ x) (sym i) ∙ e ∙ ap (λ z. z ++ y) i') in
    let low : kind' ≤ 4 = kind_low kind' p'.rest entry'.1 p'.rest_is in absurd (omega (arith, h.0))
part_one s t x y a b (IsPart.Sizes rest said p i n) (IsPart.Auxiliary rest' said' p' i' n') e =
    let h : (251 ≡ 250) × (rest ++ x ≡ rest' ++ y) = heads 251 250 (rest ++ x) (rest' ++ y) (ap (λ z. z ++ x) (sym i) ∙ e ∙ ap (λ z. z ++ y) i') in
    absurd (omega (arith, h.0))
part_one s t x y a b (IsPart.Sizes rest said p i n) (IsPart.Sizes rest' said' p' i' n') e =
    let h : (251 ≡ 251) × (rest ++ x ≡ rest' ++ y) = heads 251 251 (rest ++ x) (rest' ++ y) (ap (λ z. z ++ x) (sym i) ∙ e ∙ ap (λ z. z ++ y) i') in
    (n ∙ sym n', (both_one IsLength IsLength length_one length_one rest rest' x y said said' p p' h.1).1)
part_one s t x y a b (IsPart.Sizes rest said p i n) (IsPart.Database rest' p' i' n') e =
    let h : (251 ≡ 254) × (rest ++ x ≡ rest' ++ y) = heads 251 254 (rest ++ x) (rest' ++ y) (ap (λ z. z ++ x) (sym i) ∙ e ∙ ap (λ z. z ++ y) i') in
    absurd (omega (arith, h.0))
part_one s t x y a b (IsPart.Sizes rest said p i n) (IsPart.Holds kind' rest' entry' p' i' n') e =
    let h : (251 ≡ kind') × (rest ++ x ≡ rest' ++ y) = heads 251 kind' (rest ++ x) (rest' ++ y) (ap (λ z. z ++ x) (sym i) ∙ e ∙ ap (λ z. z ++ y) i') in
    let low : kind' ≤ 4 = kind_low kind' p'.rest entry'.1 p'.rest_is in absurd (omega (arith, h.0))
part_one s t x y a b (IsPart.Database rest p i n) (IsPart.Auxiliary rest' said' p' i' n') e =
    let h : (254 ≡ 250) × (rest ++ x ≡ rest' ++ y) = heads 254 250 (rest ++ x) (rest' ++ y) (ap (λ z. z ++ x) (sym i) ∙ e ∙ ap (λ z. z ++ y) i') in
    absurd (omega (arith, h.0))
part_one s t x y a b (IsPart.Database rest p i n) (IsPart.Sizes rest' said' p' i' n') e =
    let h : (254 ≡ 251) × (rest ++ x ≡ rest' ++ y) = heads 254 251 (rest ++ x) (rest' ++ y) (ap (λ z. z ++ x) (sym i) ∙ e ∙ ap (λ z. z ++ y) i') in
    absurd (omega (arith, h.0))
part_one s t x y a b (IsPart.Database rest p i n) (IsPart.Database rest' p' i' n') e =
    let h : (254 ≡ 254) × (rest ++ x ≡ rest' ++ y) = heads 254 254 (rest ++ x) (rest' ++ y) (ap (λ z. z ++ x) (sym i) ∙ e ∙ ap (λ z. z ++ y) i') in
    (n ∙ sym n', (length_one rest rest' x y 0 0 p p' h.1).1)
part_one s t x y a b (IsPart.Database rest p i n) (IsPart.Holds kind' rest' entry' p' i' n') e =
    let h : (254 ≡ kind') × (rest ++ x ≡ rest' ++ y) = heads 254 kind' (rest ++ x) (rest' ++ y) (ap (λ z. z ++ x) (sym i) ∙ e ∙ ap (λ z. z ++ y) i') in
    let low : kind' ≤ 4 = kind_low kind' p'.rest entry'.1 p'.rest_is in absurd (omega (arith, h.0))
part_one s t x y a b (IsPart.Holds kind rest entry p i n) (IsPart.Auxiliary rest' said' p' i' n') e =
    let h : (kind ≡ 250) × (rest ++ x ≡ rest' ++ y) = heads kind 250 (rest ++ x) (rest' ++ y) (ap (λ z. z ++ x) (sym i) ∙ e ∙ ap (λ z. z ++ y) i') in
    let low : kind ≤ 4 = kind_low kind p.rest entry.1 p.rest_is in absurd (omega (arith, h.0))
part_one s t x y a b (IsPart.Holds kind rest entry p i n) (IsPart.Sizes rest' said' p' i' n') e =
    let h : (kind ≡ 251) × (rest ++ x ≡ rest' ++ y) = heads kind 251 (rest ++ x) (rest' ++ y) (ap (λ z. z ++ x) (sym i) ∙ e ∙ ap (λ z. z ++ y) i') in
    let low : kind ≤ 4 = kind_low kind p.rest entry.1 p.rest_is in absurd (omega (arith, h.0))
part_one s t x y a b (IsPart.Holds kind rest entry p i n) (IsPart.Database rest' p' i' n') e =
    let h : (kind ≡ 254) × (rest ++ x ≡ rest' ++ y) = heads kind 254 (rest ++ x) (rest' ++ y) (ap (λ z. z ++ x) (sym i) ∙ e ∙ ap (λ z. z ++ y) i') in
    let low : kind ≤ 4 = kind_low kind p.rest entry.1 p.rest_is in absurd (omega (arith, h.0))
part_one s t x y a b (IsPart.Holds kind rest entry p i n) (IsPart.Holds kind' rest' entry' p' i' n') e =
    let h : (kind ≡ kind') × (rest ++ x ≡ rest' ++ y) = heads kind kind' (rest ++ x) (rest' ++ y) (ap (λ z. z ++ x) (sym i) ∙ e ∙ ap (λ z. z ++ y) i') in
    held_one kind kind' rest rest' x y entry entry' a b h.0 p p' h.1 n n'
