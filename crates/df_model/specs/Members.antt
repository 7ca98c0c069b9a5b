-- Finite sets of byte strings.
use Rattle.std.specs.Prelude.{ℕ, Bool, not, List, [], ◌∷◌}
use Rattle.std.specs.FinMap as map
use Rattle.df_model.specs.Values.{Bytes, Members}

abbrev pub empty : Members
empty = map.empty

abbrev pub contains : Members → Bytes → Bool
contains s m = map.contains_key s m

abbrev pub insert : Members → Bytes → Members
insert s m = map.insert s m tt

abbrev pub remove : Members → Bytes → Members
remove s m = map.remove s m

abbrev pub len : Members → ℕ
len s = map.len s

-- in byte order
abbrev pub items : Members → List Bytes
items s = map.keys s

abbrev pub with_all : List Bytes → Members → Members
with_all [] s = s
with_all (m ∷ ms) s = with_all ms (insert s m)

abbrev pub union : Members → Members → Members
union s t = with_all (items t) s

abbrev pub intersection : Members → Members → Members
intersection s t = map.retain_keys s (contains t)

abbrev pub difference : Members → Members → Members
difference s t = map.retain_keys s (λ m. not (contains t m))
