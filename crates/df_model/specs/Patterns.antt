-- Patterns of keys: how one is read as a list of parts, and which texts match these.
use Rattle.std.specs.Prelude.{ℕ, min, max, List, [], ◌∷◌, Bool, true, false, not, ◌&&◌, ◌||◌, eqb, leb}
use Rattle.df_model.specs.Values.{Bytes}

-- a range of bytes, both ends in, in either order; one byte is a range too
pub record Range : Type 0 where
  pub from : ℕ
  pub to : ℕ

pub data Part : Type 0 where
  Star : Part
  Any : Part
  One : ℕ → Part
  -- whether it is negated, and its ranges
  Class : Bool → List Range → Part

-- where the reading stands: outside, or in a class, negated or not, after these ranges
pub data Place : Type 0 where
  Outside : Place
  Inside : Bool → List Range → Place

abbrev pub range : ℕ → ℕ → Range
range from to = record { from = from; to = to }

-- the part of one byte alone
abbrev pub last_part : ℕ → Part
last_part b = elim (eqb b 42) [ true ↦ Part.Star | false ↦ elim (eqb b 63) [ true ↦ Part.Any | false ↦ elim (eqb b 91) [ true ↦ Part.Class false [] | false ↦ Part.One b ] ] ]

abbrev pub parts_from : Place → Bytes → List Part
parts_from Place.Outside [] = []
parts_from Place.Outside (b ∷ []) = last_part b ∷ []
parts_from Place.Outside (b ∷ c ∷ bs) =
    elim (eqb b 42) [
      | true ↦ Part.Star ∷ parts_from Place.Outside (c ∷ bs)
      | false ↦ elim (eqb b 63) [
        | true ↦ Part.Any ∷ parts_from Place.Outside (c ∷ bs)
        | false ↦ elim (eqb b 92) [
          | true ↦ Part.One c ∷ parts_from Place.Outside bs
          | false ↦ elim (eqb b 91) [
            | true ↦
                elim (eqb c 94) [
                  | true ↦ parts_from (Place.Inside true []) bs
                  | false ↦ parts_from (Place.Inside false []) (c ∷ bs)
                ]
            | false ↦ Part.One b ∷ parts_from Place.Outside (c ∷ bs)
          ]
        ]
      ]
    ]
parts_from (Place.Inside negated ranges) [] = Part.Class negated ranges ∷ []
parts_from (Place.Inside negated ranges) (b ∷ []) =
    elim (eqb b 93) [
      | true ↦ Part.Class negated ranges ∷ []
      | false ↦ Part.Class negated (range b b ∷ ranges) ∷ []
    ]
parts_from (Place.Inside negated ranges) (b ∷ c ∷ []) =
    elim (eqb b 93) [
      | true ↦ Part.Class negated ranges ∷ parts_from Place.Outside (c ∷ [])
      | false ↦ elim (eqb b 92) [
        | true ↦ Part.Class negated (range c c ∷ ranges) ∷ []
        | false ↦ parts_from (Place.Inside negated (range b b ∷ ranges)) (c ∷ [])
      ]
    ]
parts_from (Place.Inside negated ranges) (b ∷ c ∷ d ∷ bs) =
    elim (eqb b 93) [
      | true ↦ Part.Class negated ranges ∷ parts_from Place.Outside (c ∷ d ∷ bs)
      | false ↦ elim (eqb b 92) [
        | true ↦ parts_from (Place.Inside negated (range c c ∷ ranges)) (d ∷ bs)
        | false ↦ elim (eqb c 45 && not (eqb d 93)) [
          | true ↦ parts_from (Place.Inside negated (range b d ∷ ranges)) bs
          | false ↦ parts_from (Place.Inside negated (range b b ∷ ranges)) (c ∷ d ∷ bs)
        ]
      ]
    ]

-- the parts of a pattern
abbrev pub parts : Bytes → List Part
parts pattern = parts_from Place.Outside pattern

abbrev pub in_range : Range → ℕ → Bool
in_range r b = leb (min r.from r.to) b && leb b (max r.from r.to)

abbrev pub in_ranges : List Range → ℕ → Bool
in_ranges [] b = false
in_ranges (r ∷ rs) b = in_range r b || in_ranges rs b

-- whether a part takes this byte
abbrev pub takes : Part → ℕ → Bool
takes Part.Star b = false
takes Part.Any b = true
takes (Part.One x) b = eqb b x
takes (Part.Class true ranges) b = not (in_ranges ranges b)
takes (Part.Class false ranges) b = in_ranges ranges b

-- a test of some suffix of the text
abbrev pub some_suffix : (Bytes → Bool) → Bytes → Bool
some_suffix test [] = test []
some_suffix test (b ∷ bs) = test (b ∷ bs) || some_suffix test bs

abbrev pub matches : List Part → Bytes → Bool
matches [] [] = true
matches [] (b ∷ bs) = false
matches (Part.Star ∷ ps) text = some_suffix (matches ps) text
matches (Part.Any ∷ ps) [] = false
matches (Part.Any ∷ ps) (b ∷ bs) = matches ps bs
matches (Part.One x ∷ ps) [] = false
matches (Part.One x ∷ ps) (b ∷ bs) = takes (Part.One x) b && matches ps bs
matches (Part.Class negated ranges ∷ ps) [] = false
matches (Part.Class negated ranges ∷ ps) (b ∷ bs) = takes (Part.Class negated ranges) b && matches ps bs

abbrev pub is_match : Bytes → Bytes → Bool
is_match pattern text = matches (parts pattern) text
