-- Which files spell which keyspace.
use Rattle.std.specs.Prelude.{◌≡◌, ℕ, ◌+◌, ◌/◌, ◌%◌, ◌≤◌, ◌⊎◌, List, [], ◌∷◌, ◌++◌, codes, Option}
use Rattle.std.specs.Int.{w64, to_le_bytes}
use Rattle.std.specs.List.{filter_map}
use Rattle.std.specs.Ordering.{nat_cmp}
use Rattle.std.specs.Cmp.Lexicographic.{slice_cmp}
use Rattle.std.specs.FinMap.{from_entries}
use Rattle.df_model.specs.Values.{Bytes}
use Rattle.df_model.specs.Keyspace.{Keyspace}
use Rattle.df_rdbcore.specs.Crc.{crc}
use Rattle.df_rdbcore.specs.Parts.{Entry, InTurn, IsPart, NoneTwice, firsts}

-- the magic, and the version as four digits
abbrev pub head : ℕ → Bytes
head version = codes "REDIS" ++ 48 ∷ 48 ∷ (48 + version / 10) ∷ (48 + version % 10) ∷ []

-- head, parts and the byte FF: what the sum is taken over
abbrev pub summed : ℕ → Bytes → Bytes
summed version body = head version ++ body ++ 0xFF ∷ []

abbrev pub keyspace_of : List Entry → Keyspace
keyspace_of entries = from_entries {R = slice_cmp nat_cmp} entries

-- the bytes are a file with these entries, in this order
pub record IsFile (bytes : Bytes) (entries : List Entry) : Type 0 where
  pub version : ℕ
  pub from_5 : 5 ≤ version
  pub to_12 : version ≤ 12
  pub body : Bytes
  pub parts : List (Option Entry)
  pub parts_are : InTurn IsPart body parts
  pub entries_are : entries ≡ filter_map (λ added. added) parts
  -- a sum of 0 says that none was made
  pub sum : ℕ
  pub sum_is : (sum ≡ 0) ⊎ (sum ≡ crc (summed version body))
  pub whole : bytes ≡ summed version body ++ to_le_bytes w64 sum

-- the bytes are a file with the entries of this keyspace, in any order, and no key stands twice
pub record Spells (bytes : Bytes) (K : Keyspace) : Type 0 where
  pub entries : List Entry
  pub is_file : IsFile bytes entries
  pub once : NoneTwice (firsts entries)
  pub keyspace : K ≡ keyspace_of entries
