-- A shard shows and stages its own keys, and no others.
use Rattle.std.specs.Prelude.{◌≡◌, ℕ, Option}
use Rattle.df_model.specs.Values.{Bytes, Value}
use Rattle.df_model.specs.Hash.{shard_of}
use Rattle.df_log.specs.Parts.{Part, own_keys}
use Rattle.df_book.specs.Weights.{Each}

-- all that is seen on the shard, and all that is staged there, is of its own keys
pub record OwnPart (shards s : ℕ) (x : Part) : Type 0 where
  pub visible : own_keys shards s x.visible ≡ x.visible
  pub staged : (n : ℕ) → Each (λ (c : Bytes × Option Value). shard_of c.0 shards ≡ s) (x.staged n)
