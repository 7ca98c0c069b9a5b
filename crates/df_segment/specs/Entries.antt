-- Entries as contracts see them, and what stands in a list of them under a key.
use Rattle.std.specs.Prelude.{ℕ, zero, suc, ◌/◌, ◌%◌, ◌^◌, List, [], ◌∷◌, Bool, false, eqb}
use Rattle.std.specs.List.{filter}
use Rattle.std.specs.Str.{bytes_eq}
use Rattle.df_model.specs.Values.{Bytes}
use Rattle.df_model.specs.Hash.{fnv64}
use Rattle.df_segment.specs.declared.entry.Entry.{Entry}

-- the byte of a key's hash that is kept beside its entry
abbrev pub tag_of : Bytes → ℕ
tag_of key = fnv64 key % 256

-- whether this bit of the key's hash is 1
abbrev pub goes : ℕ → Bytes → Bool
goes bit key = eqb (fnv64 key / 2 ^ bit % 2) 1

-- whether this bit of a number is 1
abbrev pub flag_at : ℕ → ℕ → Bool
flag_at flags i = eqb (flags / 2 ^ i % 2) 1

-- an entry with its flag: a staged one isn't visible yet
pub record Slot (V : Type 0) : Type 0 where
  pub key : Bytes
  pub value : V
  pub staged : Bool

module _ {V : Type 0} where
  abbrev pub slot_of : Bool → Entry V → Slot V
  slot_of staged e = record { key = e.key; value = e.value; staged = staged }

  abbrev pub entry_of : Slot V → Entry V
  entry_of e = record { key = e.key; value = e.value }

  -- entries with the flags of their places
  abbrev pub slots : (ℕ → Bool) → List (Entry V) → List (Slot V)
  slots staged [] = []
  slots staged (e ∷ es) = slot_of (staged 0) e ∷ slots (λ i. staged (suc i)) es

  abbrev pub has_key : Bytes → Slot V → Bool
  has_key key e = bytes_eq e.key key

  -- the entries of a key, visible or staged
  abbrev pub found : Bytes → List (Slot V) → List (Slot V)
  found key es = filter (has_key key) es

  -- a list with one element changed
  abbrev pub alter : (Slot V → Slot V) → ℕ → List (Slot V) → List (Slot V)
  alter f i [] = []
  alter f zero (e ∷ es) = f e ∷ es
  alter f (suc i) (e ∷ es) = e ∷ alter f i es

  -- the entry as a visible one
  abbrev pub shown : Slot V → Slot V
  shown e = record e { staged = false }

  -- the entry with this value
  abbrev pub with_value : V → Slot V → Slot V
  with_value value e = record e { value = value }
