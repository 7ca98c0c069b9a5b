-- Where reading stops: the first thing, in the order of reading, that is no part of a file, however the file goes on.
use Rattle.std.specs.Prelude.{◌≡◌, ◌⊎◌, ℕ, ◌+◌, ◌<◌, List, [], ◌∷◌, ◌++◌, length}
use Rattle.df_model.specs.Values.{Bytes}
use Rattle.df_rdbcore.specs.Texts.{IsLength, IsText}
use Rattle.df_rdbcore.specs.Parts.{Both, InTurn, NoneTwice, Pair, firsts}
use Rattle.df_rdbcore.specs.Seen.{AwaitsLength, AwaitsText, BeginsNoLength, BeginsNoText, BeginsCompressed, BeginsTooLong}
use Rattle.df_rdbcore.specs.Reading.{place_of}
use Rattle.df_rdbcore.specs.declared.fault.LoadFault.{LoadFault}
use Rattle.df_rdbcore.specs.declared.fault.LoadFault.TheVariants as faults
use Rattle.df_rdbcore.specs.declared.fault.PartFault.TheVariants as part
use Rattle.df_rdbcore.specs.declared.fault.Twice.TheVariants as twice

-- reading the bytes that stand from this place on, of a file of this size, stops with this fault
abbrev pub Stops : Type 1
Stops = (size at : ℕ) → Bytes → LoadFault → Type 0

-- the file ends before what is needed is whole
abbrev pub Ends : ℕ → LoadFault → Type 0
Ends size fault = fault ≡ faults.Truncated (place_of size)

-- where a length is needed
pub data LengthStops (size at : ℕ) (rest : Bytes) (fault : LoadFault) : Type 0 where
  Cut : AwaitsLength rest → Ends size fault → LengthStops size at rest fault
  Bad : BeginsNoLength rest → fault ≡ faults.BadLength (place_of at) → LengthStops size at rest fault

-- where a string is needed
pub data TextStops (size at : ℕ) (rest : Bytes) (fault : LoadFault) : Type 0 where
  Cut : AwaitsText rest → Ends size fault → TextStops size at rest fault
  Bad : BeginsNoText rest ⊎ BeginsTooLong rest → fault ≡ faults.BadLength (place_of at) → TextStops size at rest fault
  Compressed : BeginsCompressed rest → fault ≡ faults.Unsupported 0xC3 (place_of at) → TextStops size at rest fault

-- where one is needed and then another: at the first, or, that one being whole, at the other
pub data BothStops {A : Type 0} (P : Bytes → A → Type 0) (S T : Stops) (size at : ℕ) (rest : Bytes) (fault : LoadFault) : Type 0 where
  First : S size at rest fault → BothStops P S T size at rest fault
  Other : (front behind : Bytes) (a : A) → P front a → rest ≡ front ++ behind → T size (at + length front) behind fault → BothStops P S T size at rest fault

-- where so many are needed: those before it are whole and none of them stops, and fewer than are needed
pub record Midway {A : Type 0} (P : Bytes → A → Type 0) (Fine : List A → Type 0) (Next : List A → Stops) (count size at : ℕ) (rest : Bytes) (fault : LoadFault) : Type 0 where
  pub read : List A
  pub front : Bytes
  pub behind : Bytes
  pub read_are : InTurn P front read
  pub fine : Fine read
  pub few : length read < count
  pub whole : rest ≡ front ++ behind
  pub stops : Next read size (at + length front) behind fault

-- where the count of a collection is needed, whose part begins at this place: there, or at a count of 0
pub data CountStops (begin size at : ℕ) (rest : Bytes) (fault : LoadFault) : Type 0 where
  Count : LengthStops size at rest fault → CountStops begin size at rest fault
  Empty : (front behind : Bytes) → IsLength front 0 → rest ≡ front ++ behind → fault ≡ faults.BadPart part.Empty begin → CountStops begin size at rest fault

-- where a collection is needed: at its count, or at one of its elements
pub data ElementsStop {A : Type 0} (P : Bytes → A → Type 0) (Fine : List A → Type 0) (Next : List A → Stops) (begin size at : ℕ) (rest : Bytes) (fault : LoadFault) : Type 0 where
  Count : CountStops begin size at rest fault → ElementsStop P Fine Next begin size at rest fault
  Element : (front behind : Bytes) (count : ℕ) → IsLength front count → rest ≡ front ++ behind → Midway P Fine Next count size (at + length front) behind fault → ElementsStop P Fine Next begin size at rest fault

-- one of the texts
abbrev pub IsIn : Bytes → List Bytes → Type 0
IsIn text [] = ⊥
IsIn text (x ∷ texts) = (text ≡ x) ⊎ IsIn text texts

-- a whole string stands there that was read before
pub record Repeats (read : List Bytes) (rest : Bytes) : Type 0 where
  pub form : Bytes
  pub behind : Bytes
  pub text : Bytes
  pub form_is : IsText form text
  pub whole : rest ≡ form ++ behind
  pub known : IsIn text read

-- where an element of a list is needed
abbrev pub ElementStops : List Bytes → Stops
ElementStops read = TextStops

-- where a member is needed: a member that was there makes its part faulty, which begins at this place
pub data MemberStops (begin : ℕ) (read : List Bytes) (size at : ℕ) (rest : Bytes) (fault : LoadFault) : Type 0 where
  Text : TextStops size at rest fault → MemberStops begin read size at rest fault
  Again : Repeats read rest → fault ≡ faults.Duplicate twice.Member begin → MemberStops begin read size at rest fault

-- where a field and its value are needed: a field that was there is told before its value is read
pub data PairStops (begin : ℕ) (read : List Pair) (size at : ℕ) (rest : Bytes) (fault : LoadFault) : Type 0 where
  Field : TextStops size at rest fault → PairStops begin read size at rest fault
  Again : Repeats (firsts read) rest → fault ≡ faults.Duplicate twice.Field begin → PairStops begin read size at rest fault
  Held : (form behind field : Bytes) → IsText form field → (IsIn field (firsts read) → ⊥) → rest ≡ form ++ behind → TextStops size (at + length form) behind fault → PairStops begin read size at rest fault

-- a list may have an element twice
abbrev pub Any : List Bytes → Type 0
Any read = Unit {0}

-- where the value behind a key is needed, of a part with this first byte that begins at this place
pub data ValueStops (kind begin size at : ℕ) (rest : Bytes) (fault : LoadFault) : Type 0 where
  Str : kind ≡ 0 → TextStops size at rest fault → ValueStops kind begin size at rest fault
  Elements : kind ≡ 1 → ElementsStop IsText Any ElementStops begin size at rest fault → ValueStops kind begin size at rest fault
  Set : kind ≡ 2 → ElementsStop IsText NoneTwice (MemberStops begin) begin size at rest fault → ValueStops kind begin size at rest fault
  Hash : kind ≡ 4 → ElementsStop (Both IsText IsText) (λ read. NoneTwice (firsts read)) (PairStops begin) begin size at rest fault → ValueStops kind begin size at rest fault
