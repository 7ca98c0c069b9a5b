-- Values: what a key of the keyspace holds.
use Rattle.std.specs.Prelude.{◌≡◌, ℕ, List, refl, ◌⊎◌}
use mathlib.Core.Logic.{inl, inr}
use Rattle.std.specs.Ordering.{nat_cmp}
use Rattle.std.specs.Cmp.Lexicographic.{slice_cmp}
use Rattle.std.specs.FinMap.{FinMap}
use Rattle.std.specs.FinMap as map
use Rattle.std.specs.FinSet as set
use Rattle.std.specs.Coded.{Coded, code_by, coded⊎, coded_ℕ, coded_list}

abbrev pub Bytes : Type 0
Bytes = List ℕ

-- a finite map from fields to what they hold, in byte order of the fields
abbrev pub Fields : Type 0
Fields = FinMap (slice_cmp nat_cmp) Bytes

-- a finite set, as a finite map to nothing: std's finite set doesn't tell in which order its items come
abbrev pub Members : Type 0
Members = FinMap (slice_cmp nat_cmp) (Unit {0})

pub data Value : Type 0 where
  Str : Bytes → Value
  Elements : List Bytes → Value
  Hash : Fields → Value
  Set : Members → Value

-- ---- a code, so that a struct's model may have a keyspace as its value

abbrev Four : Type 0
Four = Bytes ⊎ (List Bytes ⊎ (Fields ⊎ Members))

abbrev to_four : Value → Four
to_four (Value.Str bytes) = inl bytes
to_four (Value.Elements elements) = inr (inl elements)
to_four (Value.Hash fields) = inr (inr (inl fields))
to_four (Value.Set members) = inr (inr (inr members))

abbrev of_four : Four → Value
of_four (inl bytes) = Value.Str bytes
of_four (inr (inl elements)) = Value.Elements elements
of_four (inr (inr (inl fields))) = Value.Hash fields
of_four (inr (inr (inr members))) = Value.Set members

pub four_back : (value : Value) → of_four (to_four value) ≡ value
four_back (Value.Str bytes) = refl
four_back (Value.Elements elements) = refl
four_back (Value.Hash fields) = refl
four_back (Value.Set members) = refl

abbrev pub coded_bytes : Coded Bytes
coded_bytes = coded_list coded_ℕ

abbrev pub coded_members : Coded Members
coded_members = set.code coded_bytes

abbrev pub coded_value : Coded Value
coded_value = code_by Four (coded⊎ coded_bytes (coded⊎ (coded_list coded_bytes) (coded⊎ (map.code coded_bytes coded_bytes) coded_members))) to_four of_four four_back
