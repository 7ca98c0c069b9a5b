-- A small model, so that the laws are known to be met by something: counters on two shards, and calls that add to one.
use Rattle.std.specs.Prelude.{◌≡◌, ◌≢◌, ℕ, ◌+◌, ◌%◌, true, Some, None, [], ◌∷◌, eqb, if◌then◌else◌}
use Rattle.df_order.specs.Puts.{put}
use Rattle.df_order.specs.Model.{Model}

-- adds to the counter of this key
pub record Add : Type 0 where
  pub key : ℕ
  pub amount : ℕ

-- an Add that ran, and the count that it came to
pub record Added : Type 0 where
  pub number : ℕ
  pub add : Add
  pub count : ℕ

-- a key's shard
abbrev pub place : ℕ → ℕ
place k = k % 2

-- the entry is the call, on the shard of its key
pub record IsOf (s : ℕ) (c : Add) (e : Added) : Type 0 where
  pub same : e.add ≡ c
  pub placed : place c.key ≡ s

abbrev pub counters : Model
counters = record {
  Call = Add;
  Keys = ℕ;
  Entry = Added;
  State = ℕ → ℕ;
  shards = 2;
  number = λ e. e.number;
  hop = λ e. 0;
  footprint = λ c s. if eqb (place c.key) s then Some c.key else None;
  meets = eqb;
  effect = λ e x. put e.add.key (x e.add.key + e.add.amount) x;
  Tells = λ s c e x. IsOf s c e × (e.count ≡ x c.key + c.amount);
  Good = λ s c n x. Unit {0};
  Next = λ c es s e. IsOf s c e × ((t : ℕ) → es t ≡ []);
  quick = λ c. true;
  Slot = Unit {0};
  slot = λ n x. tt;
  bare = tt;
  Reply = ℕ;
  Space = ℕ → ℕ;
  joined = λ xs k. xs (place k) k;
  Gives = λ c es r. (e : Added) × (es (place c.key) ≡ e ∷ []) × ((t : ℕ) → t ≢ place c.key → es t ≡ []) × (e.count ≡ r);
  Marks = Unit {0};
  marks = λ c es. tt;
  Allowed = λ c m r K L. (r ≡ K c.key + c.amount) × (L ≡ put c.key (K c.key + c.amount) K);
}
