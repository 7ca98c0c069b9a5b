-- The parts of a file between its head and its end.
use Rattle.std.specs.Prelude.{◌≡◌, ◌≢◌, ℕ, ◌<◌, List, [], ◌∷◌, ◌++◌, map, length, Option, Some, None}
use Rattle.std.specs.Ordering.{nat_cmp}
use Rattle.std.specs.Cmp.Lexicographic.{slice_cmp}
use Rattle.std.specs.FinMap.{from_entries}
use Rattle.std.specs.List.{AllByRecursion}
use Rattle.df_model.specs.Values.{Bytes, Value, Fields, Members}
use Rattle.df_rdbcore.specs.Texts.{IsLength, IsText}

-- ---- one behind another

-- what the first part of the bytes is read as, and the rest
pub record Both {A B : Type 0} (P : Bytes → A → Type 0) (Q : Bytes → B → Type 0) (bytes : Bytes) (read : A × B) : Type 0 where
  pub first : Bytes
  pub rest : Bytes
  pub first_is : P first read.0
  pub rest_is : Q rest read.1
  pub whole : bytes ≡ first ++ rest

-- one after another, as many as are in the list
abbrev pub InTurn : {A : Type 0} → (Bytes → A → Type 0) → Bytes → List A → Type 0
InTurn {A} P bytes [] = bytes ≡ []
InTurn {A} P bytes (x ∷ xs) = (first : Bytes) × (rest : Bytes) × P first x × InTurn P rest xs × (bytes ≡ first ++ rest)

-- a count, and as many
abbrev pub Counted : {A : Type 0} → (Bytes → A → Type 0) → Bytes → List A → Type 0
Counted {A} P bytes xs = Both IsLength (InTurn P) bytes (length xs, xs)

-- ---- values

abbrev pub Pair : Type 0
Pair = Bytes × Bytes

abbrev pub firsts : {X : Type 0} → List (Bytes × X) → List Bytes
firsts {X} pairs = map (λ p. p.0) pairs

abbrev pub NoneTwice : List Bytes → Type 0
NoneTwice [] = Unit {0}
NoneTwice (x ∷ xs) = AllByRecursion (λ y. x ≢ y) xs × NoneTwice xs

abbrev pub members_of : List Bytes → Members
members_of texts = from_entries {R = slice_cmp nat_cmp} (map (λ text. (text, tt)) texts)

abbrev pub fields_of : List Pair → Fields
fields_of pairs = from_entries {R = slice_cmp nat_cmp} pairs

-- what stands behind a key, by the part's first byte; no collection is empty, and no member or field stands twice
pub data IsValue (kind : ℕ) (bytes : Bytes) (value : Value) : Type 0 where
  Str : (text : Bytes) → kind ≡ 0 → IsText bytes text → value ≡ Value.Str text → IsValue kind bytes value
  Elements : (texts : List Bytes) → kind ≡ 1 → Counted IsText bytes texts → 0 < length texts → value ≡ Value.Elements texts → IsValue kind bytes value
  Set : (texts : List Bytes) → kind ≡ 2 → Counted IsText bytes texts → 0 < length texts → NoneTwice texts → value ≡ Value.Set (members_of texts) → IsValue kind bytes value
  Hash : (pairs : List Pair) → kind ≡ 4 → Counted (Both IsText IsText) bytes pairs → 0 < length pairs → NoneTwice (firsts pairs) → value ≡ Value.Hash (fields_of pairs) → IsValue kind bytes value

-- ---- parts

-- a key and what it holds
abbrev pub Entry : Type 0
Entry = Bytes × Value

-- a part by its first byte, with the entry that it adds
pub data IsPart (bytes : Bytes) (added : Option Entry) : Type 0 where
  -- FA, an auxiliary field: two strings, passed over
  Auxiliary : (rest : Bytes) (said : Pair) → Both IsText IsText rest said → bytes ≡ 0xFA ∷ rest → added ≡ None → IsPart bytes added
  -- FB, hints on sizes: two lengths, passed over
  Sizes : (rest : Bytes) (said : ℕ × ℕ) → Both IsLength IsLength rest said → bytes ≡ 0xFB ∷ rest → added ≡ None → IsPart bytes added
  -- FE: the number of the database that follows, which is 0
  Database : (rest : Bytes) → IsLength rest 0 → bytes ≡ 0xFE ∷ rest → added ≡ None → IsPart bytes added
  -- a key and its value
  Holds : (kind : ℕ) (rest : Bytes) (entry : Entry) → Both IsText (IsValue kind) rest entry → bytes ≡ kind ∷ rest → added ≡ Some entry → IsPart bytes added
