-- The steps of reading a class.
use Rattle.std.specs.Prelude.{◌≡◌, ◌≢◌, ℕ, List, [], ◌∷◌, Bool, true, false, Option, Some, None, ◌<◌, ◌≤◌, length, eqb}
use Rattle.std.specs.Borrow.{Bor}
use Rattle.df_model.specs.Values.{Bytes}
use Rattle.df_model.specs.Patterns.{Part, Place, Range, parts, parts_from, range}
use Rattle.df_text.specs.declared.class.Item.{Item}
use Rattle.df_text.specs.declared.class.Item.TheVariants as item

-- the first byte and the rest, or no byte
abbrev pub IsSplit : Bytes → Option (ℕ × Bor Bytes) → Type 0
IsSplit bytes None = bytes ≡ []
IsSplit bytes (Some p) = bytes ≡ p.0 ∷ p.1.now

-- `^`, and then the rest
abbrev pub IsPastCaret : Bytes → Option (Bor Bytes) → Type 0
IsPastCaret bytes None = (more : Bytes) → bytes ≢ 94 ∷ more
IsPastCaret bytes (Some rest) = bytes ≡ 94 ∷ rest.now

-- `-` and a byte that isn't `]`, and then the rest
abbrev pub IsRangeEnd : Bytes → Option (ℕ × Bor Bytes) → Type 0
IsRangeEnd bytes None = (to : ℕ) (rest : Bytes) → bytes ≡ 45 ∷ to ∷ rest → eqb to 93 ≡ true
IsRangeEnd bytes (Some p) = (bytes ≡ 45 ∷ p.0 ∷ p.1.now) × (eqb p.0 93 ≡ false)

-- a class with these ranges so far ends here, or has this range too
abbrev pub IsItem : Bool → List Range → Bytes → Item → Type 0
IsItem negated ranges bytes (item.End rest) = parts_from (Place.Inside negated ranges) bytes ≡ Part.Class negated ranges ∷ parts rest.now
IsItem negated ranges bytes (item.Range from to rest) = parts_from (Place.Inside negated ranges) bytes ≡ parts_from (Place.Inside negated (range from to ∷ ranges)) rest.now

-- a range takes a byte at least
abbrev pub IsShorterItem : Bytes → Item → Type 0
IsShorterItem bytes (item.End rest) = length rest.now ≤ length bytes
IsShorterItem bytes (item.Range from to rest) = length rest.now < length bytes
