-- What is made of a list of keys hangs on what is given at its keys.
use Rattle.std.proofs.Common.{◌≡◌, Bool, true, false, cond, List, [], ◌∷◌, map, refl, subst}
use Rattle.std.specs.Prelude.{◌||◌}
use Rattle.std.proofs.lemmas.Bool.{false≢true}
use Rattle.df_model.specs.Values.{Bytes}
use Rattle.df_model.specs.Words.{same}
use Rattle.df_model.specs.Keyspace.{Keyspace}
use Rattle.df_model.specs.Access.{among}
use Rattle.df_model.proofs.WholeLaws.{Alike, first_among, later_among}
use Rattle.df_footprints.proofs.ModesLaws.{same_key}
use Rattle.df_core.specs.Altered.{altered, same_held}

-- functions that are the same at what is among a list give the same along it
pub map_alike : {X : Type 0} (f g : Bytes → X) (keys : List Bytes) →
    ((key : Bytes) → among keys key ≡ true → f key ≡ g key) → map f keys ≡ map g keys
map_alike f g [] h = refl
map_alike f g (key ∷ keys) h =
    λ i. h key (first_among key keys) i ∷ map_alike f g keys (λ q n. h q (later_among key q keys n)) i

-- and functions that give the same along a list are the same at what is among it
pub alike_map : {X : Type 0} (f g : Bytes → X) (keys : List Bytes) → map f keys ≡ map g keys → (key : Bytes) →
    among keys key ≡ true → f key ≡ g key
alike_map f g [] e key h = absurd (false≢true h)
alike_map {X} f g (k ∷ keys) e key h = go (same k key) refl h (alike_map f g keys (behind e) key)
  where
    first : f k ∷ map f keys ≡ g k ∷ map g keys → f k ≡ g k
    first e = cc

    behind : f k ∷ map f keys ≡ g k ∷ map g keys → map f keys ≡ map g keys
    behind e = cc

    go : (b : Bool) → same k key ≡ b → (b || among keys key) ≡ true → (among keys key ≡ true → f key ≡ g key) → f key ≡ g key
    go true is _ rest = subst (λ q. f q ≡ g q) (same_key k key is) (first e)
    go false is more rest = rest more

-- the changes between two keyspaces hang on what the keys hold in them
pub altered_alike : (K K' L L' : Keyspace) (keys : List Bytes) → Alike keys K L → Alike keys K' L' →
    altered K K' keys ≡ altered L L' keys
altered_alike K K' L L' [] f g = refl
altered_alike K K' L L' (key ∷ keys) f g =
    let p = f key (first_among key keys) in
    let q = g key (first_among key keys) in
    let r = altered_alike K K' L L' keys (λ x h. f x (later_among key x keys h)) (λ x h. g x (later_among key x keys h)) in
    λ i. cond (same_held (p i) (q i)) (r i) ((key, q i) ∷ r i)
