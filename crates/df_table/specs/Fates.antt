-- A command of one key that was run on the value which the key holds.
use Rattle.std.specs.Prelude.{◌≡◌, Some, None}
use Rattle.df_model.specs.Values.{Bytes, Value}
use Rattle.df_model.specs.Keyspace.{Keyspace, held, with_held}
use Rattle.df_model.specs.Outcomes.{KeyRow, Outcome, outcome, settled}
use Rattle.df_model.specs.Replies.{encoding_of}
use Rattle.df_table.specs.declared.one.Fate.{Fate}
use Rattle.df_table.specs.declared.one.Fate.TheVariants.{Missing, Stays, Goes}

-- the value is what the row leaves; or the row leaves none, and the value is as it was until its key is removed
abbrev pub IsLeft : Fate → Outcome → Value → Value → Type 0
IsLeft Missing outcome old new = ⊥
IsLeft Stays outcome old new = settled outcome.1 (Some old) ≡ Some new
IsLeft Goes outcome old new = (settled outcome.1 (Some old) ≡ None) × (new ≡ old)

pub record Ran (fate : Fate) (outcome : Outcome) (old new : Value) (bytes : Bytes) : Type 0 where
  pub left : IsLeft fate outcome old new
  pub says : bytes ≡ encoding_of outcome.0

-- the same, seen from the keyspace
abbrev pub IsLeftAt : Fate → Outcome → Bytes → Keyspace → Keyspace → Type 0
IsLeftAt Missing outcome key K after = ⊥
IsLeftAt Stays outcome key K after = after ≡ with_held K key (settled outcome.1 (held K key))
IsLeftAt Goes outcome key K after = (settled outcome.1 (held K key) ≡ None) × (after ≡ K)

pub record RanAt (fate : Fate) (row : KeyRow) (key : Bytes) (K after : Keyspace) (bytes : Bytes) : Type 0 where
  pub left : IsLeftAt fate (outcome row (held K key)) key K after
  pub says : bytes ≡ encoding_of (outcome row (held K key)).0

-- where the key isn't there, nothing was done and the command stays
abbrev pub RanWhere : Fate → KeyRow → KeyRow → Bytes → Keyspace → Keyspace → Bytes → Type 0
RanWhere Missing row left key K after bytes = (held K key ≡ None) × (after ≡ K) × (left ≡ row)
RanWhere Stays row left key K after bytes = RanAt Stays row key K after bytes
RanWhere Goes row left key K after bytes = RanAt Goes row key K after bytes
