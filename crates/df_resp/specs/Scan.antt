-- Reading from the front of bytes, as functions on lists.
use Rattle.std.specs.Prelude.{ℕ, ◌==◌, nat_lt, if◌then◌else◌, [], ◌∷◌, length, take, drop}
use Rattle.df_model.specs.Values.{Bytes}
use Rattle.df_model.specs.declared.session.BadKind.{BadKind}

-- what reading came to
pub data Scan (A : Type 0) : Type 0 where
  -- the bytes begin something and don't end it
  More : Scan A
  -- whatever follows, nothing is read: the bytes from the first bad one on, and what was expected in its place
  Bad : Bytes → BadKind → Scan A
  -- what was read, and the bytes behind it
  Whole : A → Bytes → Scan A

-- one behind another
abbrev pub and_then : {A B : Type 0} → Scan A → (A → Bytes → Scan B) → Scan B
and_then Scan.More next = Scan.More
and_then (Scan.Bad bad kind) next = Scan.Bad bad kind
and_then (Scan.Whole a rest) next = next a rest

-- a fixed text
abbrev pub fixed : BadKind → Bytes → Bytes → Scan (Unit {0})
fixed kind [] bytes = Scan.Whole tt bytes
fixed kind (x ∷ xs) [] = Scan.More
fixed kind (x ∷ xs) (b ∷ bytes) = if b == x then fixed kind xs bytes else Scan.Bad (b ∷ bytes) kind

-- so many bytes, whichever they are
abbrev pub some_bytes : ℕ → Bytes → Scan Bytes
some_bytes n bytes = if nat_lt (length bytes) n then Scan.More else Scan.Whole (take n bytes) (drop n bytes)
