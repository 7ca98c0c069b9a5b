-- What the first bytes of a pattern, and of a class in it, are read as: a law for each case.
use Rattle.std.proofs.Common.{◌≡◌, ℕ, List, [], ◌∷◌, refl, sym, ap, ◌∙◌, Bool, true, false, not, ◌&&◌, eqb, ◌≢◌, ◌⊎◌, inl, inr}
use Rattle.std.proofs.lemmas.Bool.{ne_eqb}
use Rattle.std.proofs.lemmas.Bool.Decides.{eqb_tells}
use Rattle.df_model.specs.Values.{Bytes}
use Rattle.df_model.specs.Patterns.{Part, Place, Range, parts, parts_from, range, last_part}
use Rattle.df_text.specs.Runs.{Ran, ran}

tells : (b : Bool) → (b ≡ true) ⊎ (b ≡ false)
tells true = inl refl
tells false = inr refl

same_eqb : (a b : ℕ) → a ≡ b → eqb a b ≡ true
same_eqb a b e = elim (eqb_tells a b) [ inl y ↦ y.0 | inr y ↦ absurd (y.1 e) ]

-- ---- in a class

end_of : (n : Bool) (rs : List Range) (rest : Bytes) → parts_from (Place.Inside n rs) (93 ∷ rest) ≡ Part.Class n rs ∷ parts rest
end_of n rs [] = refl
end_of n rs (c ∷ []) = refl
end_of n rs (c ∷ d ∷ bs) = refl

-- `]` ends the class
pub item_end : (n : Bool) (rs : List Range) (b : ℕ) (bytes rest : Bytes) → bytes ≡ b ∷ rest → b ≡ 93 → parts_from (Place.Inside n rs) bytes ≡ Part.Class n rs ∷ parts rest
item_end n rs b bytes rest e h = let f : bytes ≡ 93 ∷ rest = e ∙ ap (λ x. x ∷ rest) h in rw f (end_of n rs rest)

escaped_of : (n : Bool) (rs : List Range) (x : ℕ) (rest : Bytes) → parts_from (Place.Inside n rs) (92 ∷ x ∷ rest) ≡ parts_from (Place.Inside n (range x x ∷ rs)) rest
escaped_of n rs x [] = refl
escaped_of n rs x (d ∷ bs) = refl

-- `\` and a byte are that byte
pub item_escaped : (n : Bool) (rs : List Range) (b x : ℕ) (bytes more rest : Bytes) → bytes ≡ b ∷ more → b ≡ 92 → more ≡ x ∷ rest → parts_from (Place.Inside n rs) bytes ≡ parts_from (Place.Inside n (range x x ∷ rs)) rest
item_escaped n rs b x bytes more rest e h g = let f : bytes ≡ 92 ∷ x ∷ rest = e ∙ ap (λ y. y ∷ more) h ∙ ap (λ y. 92 ∷ y) g in rw f (escaped_of n rs x rest)

-- a byte, `-` and a byte other than `]` are a range
pub item_range : (n : Bool) (rs : List Range) (b to : ℕ) (bytes more rest : Bytes) → bytes ≡ b ∷ more → b ≢ 93 → b ≢ 92 → more ≡ 45 ∷ to ∷ rest → eqb to 93 ≡ false
    → parts_from (Place.Inside n rs) bytes ≡ parts_from (Place.Inside n (range b to ∷ rs)) rest
item_range n rs b to bytes more rest e h k g t = rw (e, g, ne_eqb b 93 h, ne_eqb b 92 k, t) refl

byte_of : (n : Bool) (rs : List Range) (b : ℕ) (more : Bytes) → eqb b 93 ≡ false → eqb b 92 ≡ false → ((to : ℕ) (rest : Bytes) → more ≡ 45 ∷ to ∷ rest → eqb to 93 ≡ true)
    → parts_from (Place.Inside n rs) (b ∷ more) ≡ parts_from (Place.Inside n (range b b ∷ rs)) more
byte_of n rs b [] h k missing = rw (h, parts_from) refl
byte_of n rs b (c ∷ []) h k missing = rw (h, k, parts_from) refl
byte_of n rs b (c ∷ d ∷ bs) h k missing = elim (eqb_tells c 45) [
  | inl y ↦ rw (h, k, parts_from, y.0, missing d bs (ap (λ x. x ∷ d ∷ bs) y.1)) refl
  | inr y ↦ rw (h, k, parts_from, y.0) refl
]

-- any other byte is an item alone
pub item_byte : (n : Bool) (rs : List Range) (b : ℕ) (bytes more : Bytes) → bytes ≡ b ∷ more → b ≢ 93 → b ≢ 92 → ((to : ℕ) (rest : Bytes) → more ≡ 45 ∷ to ∷ rest → eqb to 93 ≡ true)
    → parts_from (Place.Inside n rs) bytes ≡ parts_from (Place.Inside n (range b b ∷ rs)) more
item_byte n rs b bytes more e h k missing = rw e (byte_of n rs b more (ne_eqb b 93 h) (ne_eqb b 92 k) missing)

-- ---- outside

pub star_first : (rest : Bytes) → parts (42 ∷ rest) ≡ Part.Star ∷ parts rest
star_first [] = refl
star_first (c ∷ bs) = refl

pub any_first : (rest : Bytes) → parts (63 ∷ rest) ≡ Part.Any ∷ parts rest
any_first [] = refl
any_first (c ∷ bs) = refl

-- `[` begins a class that isn't negated where no `^` follows
pub class_first : (rest : Bytes) → ((more : Bytes) → rest ≢ 94 ∷ more) → parts (91 ∷ rest) ≡ parts_from (Place.Inside false []) rest
class_first [] missing = refl
class_first (c ∷ bs) missing = rw (ne_eqb c 94 (λ e. missing bs (ap (λ x. x ∷ bs) e)), parts_from) refl

-- a byte with no meaning of its own stands for itself, and so does `\` at the end
pub one_first : (b : ℕ) (rest : Bytes) → b ≢ 42 → b ≢ 63 → b ≢ 91 → (b ≢ 92) ⊎ (rest ≡ []) → parts (b ∷ rest) ≡ Part.One b ∷ parts rest
one_first b [] s a c e = rw (parts_from, last_part, ne_eqb b 42 s, ne_eqb b 63 a, ne_eqb b 91 c) refl
one_first b (x ∷ bs) s a c (inl e) = rw (parts_from, ne_eqb b 42 s, ne_eqb b 63 a, ne_eqb b 92 e, ne_eqb b 91 c) refl
one_first b (x ∷ bs) s a c (inr e) = cc

-- ---- runs

-- `?` takes any byte
pub past_any : (b byte : ℕ) (rest bs : Bytes) → b ≡ 63 → ran (parts (b ∷ rest)) (byte ∷ bs) ≡ ran (parts rest) bs
past_any b byte rest bs e = let f : parts (b ∷ rest) ≡ Part.Any ∷ parts rest = ap (λ x. parts (x ∷ rest)) e ∙ any_first rest in ap (λ ps. ran ps (byte ∷ bs)) f

-- a byte takes its like and no other
pub past_one : (b byte : ℕ) (rest bs : Bytes) → b ≢ 42 → b ≢ 63 → b ≢ 91 → (b ≢ 92) ⊎ (rest ≡ []) → b ≡ byte → ran (parts (b ∷ rest)) (byte ∷ bs) ≡ ran (parts rest) bs
past_one b byte rest bs s a c e h = rw (one_first b rest s a c e, same_eqb byte b (sym h)) refl

pub fails_one : (b byte : ℕ) (rest bs : Bytes) → b ≢ 42 → b ≢ 63 → b ≢ 91 → (b ≢ 92) ⊎ (rest ≡ []) → b ≢ byte → ran (parts (b ∷ rest)) (byte ∷ bs) ≡ Ran.Failed
fails_one b byte rest bs s a c e h = rw (one_first b rest s a c e, ne_eqb byte b (λ x. h (sym x))) refl

-- so does a byte behind `\`
pub past_escaped : (b one byte : ℕ) (rest more bs : Bytes) → b ≡ 92 → rest ≡ one ∷ more → one ≡ byte → ran (parts (b ∷ rest)) (byte ∷ bs) ≡ ran (parts more) bs
past_escaped b one byte rest more bs e f h =
    let g : (b ∷ rest) ≡ 92 ∷ one ∷ more = ap (λ x. x ∷ rest) e ∙ ap (λ x. 92 ∷ x) f in
    ap (λ p. ran (parts p) (byte ∷ bs)) g ∙ rw (same_eqb byte one (sym h)) refl

pub fails_escaped : (b one byte : ℕ) (rest more bs : Bytes) → b ≡ 92 → rest ≡ one ∷ more → one ≢ byte → ran (parts (b ∷ rest)) (byte ∷ bs) ≡ Ran.Failed
fails_escaped b one byte rest more bs e f h =
    let g : (b ∷ rest) ≡ 92 ∷ one ∷ more = ap (λ x. x ∷ rest) e ∙ ap (λ x. 92 ∷ x) f in
    ap (λ p. ran (parts p) (byte ∷ bs)) g ∙ rw (ne_eqb byte one (λ x. h (sym x))) refl

-- a class wants a byte
class_fails : (n : Bool) (rs : List Range) (bs : Bytes) → ran (parts_from (Place.Inside n rs) bs) [] ≡ Ran.Failed
class_fails n rs [] = refl
class_fails n rs (b ∷ []) = elim (eqb_tells b 93) [ inl y ↦ rw (ran, parts_from, y.0) refl | inr y ↦ rw (ran, parts_from, y.0) refl ]
class_fails n rs (b ∷ c ∷ []) = elim (eqb_tells b 93) [
  | inl y ↦ rw (ran, parts_from, y.0) refl
  | inr y ↦ elim (eqb_tells b 92) [ inl z ↦ rw (ran, parts_from, y.0, z.0) refl | inr z ↦ rw (ran, parts_from, y.0, z.0) (class_fails n (range b b ∷ rs) (c ∷ [])) ]
]
class_fails n rs (b ∷ c ∷ d ∷ bs) = elim (eqb_tells b 93) [
  | inl y ↦ rw (ran, parts_from, y.0) refl
  | inr y ↦ elim (eqb_tells b 92) [
    | inl z ↦ rw (ran, parts_from, y.0, z.0) (class_fails n (range c c ∷ rs) (d ∷ bs))
    | inr z ↦ elim (tells (eqb c 45 && not (eqb d 93))) [
      | inl t ↦ rw (ran, parts_from, y.0, z.0, t) (class_fails n (range b d ∷ rs) bs)
      | inr t ↦ rw (ran, parts_from, y.0, z.0, t) (class_fails n (range b b ∷ rs) (c ∷ d ∷ bs))
    ]
  ]
]

-- a part that is no star wants a byte
pub fails_empty : (b : ℕ) (rest : Bytes) → b ≢ 42 → ran (parts (b ∷ rest)) [] ≡ Ran.Failed
fails_empty b [] s = elim (eqb_tells b 63) [
  | inl y ↦ rw (ran, parts_from, last_part, ne_eqb b 42 s, y.0) refl
  | inr y ↦ elim (eqb_tells b 91) [ inl z ↦ rw (ran, parts_from, last_part, ne_eqb b 42 s, y.0, z.0) refl | inr z ↦ rw (ran, parts_from, last_part, ne_eqb b 42 s, y.0, z.0) refl ]
]
fails_empty b (c ∷ bs) s = elim (eqb_tells b 63) [
  | inl y ↦ rw (ran, parts_from, ne_eqb b 42 s, y.0) refl
  | inr y ↦ elim (eqb_tells b 92) [
    | inl z ↦ rw (ran, parts_from, ne_eqb b 42 s, y.0, z.0) refl
    | inr z ↦ elim (eqb_tells b 91) [
      | inr w ↦ rw (ran, parts_from, ne_eqb b 42 s, y.0, z.0, w.0) refl
      | inl w ↦ elim (eqb_tells c 94) [
        | inl v ↦ rw (ran, parts_from, ne_eqb b 42 s, y.0, z.0, w.0, v.0) (class_fails true [] bs)
        | inr v ↦ rw (ran, parts_from, ne_eqb b 42 s, y.0, z.0, w.0, v.0) (class_fails false [] (c ∷ bs))
      ]
    ]
  ]
]

-- a run stops at a star
pub at_star_first : (b : ℕ) (pattern rest text : Bytes) → pattern ≡ b ∷ rest → b ≡ 42 → ran (parts pattern) text ≡ Ran.AtStar (parts rest) text
at_star_first b pattern rest text e h = let f : pattern ≡ 42 ∷ rest = e ∙ ap (λ x. x ∷ rest) h in rw (f, star_first rest) refl
