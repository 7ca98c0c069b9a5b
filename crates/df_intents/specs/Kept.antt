-- What always holds of the intents of a shard.
use Rattle.std.specs.Prelude.{◌≡◌, ℕ, None, List, [], ◌∷◌, length, nat_eq}
use Rattle.std.specs.Map.{lookup}
use Rattle.df_model.specs.declared.keys.Keys.{Keys}
use Rattle.df_intents.specs.Holders.{Holder, keys_of}
use Rattle.df_intents.specs.Counting.{held}
use Rattle.df_intents.specs.Index.{Counts}
use Rattle.df_intents.specs.declared.index.Index.{Index}

-- no number holds twice
abbrev pub Once : List Holder → Type 0
Once [] = Unit {0}
Once (h ∷ hs) = (keys_of h.number hs ≡ None) × Once hs

-- the map tells for each number what it holds
abbrev pub Tells : List (ℕ × Keys) → List Holder → Type 0
Tells entries hs = (number : ℕ) → lookup (nat_eq number) entries ≡ keys_of number hs

-- the map and the index tell what these holders hold
pub record Kept (entries : List (ℕ × Keys)) (index : Index) (hs : List Holder) : Type 0 where
  pub once : Once hs
  pub known : Tells entries hs
  pub many : length entries ≡ length hs
  pub counted : Counts index (held hs)
