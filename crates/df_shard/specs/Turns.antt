-- When a call has its turn on a shard.
use Rattle.std.specs.Prelude.{◌≡◌, ◌⊎◌, ℕ, ◌<◌, ◌≤◌, true, false, Some, None}
use Rattle.df_model.specs.declared.command.Call.{Call}
use Rattle.df_model.specs.declared.keys.Keys.{Keys}
use Rattle.df_footprints.specs.Footprints.{footprint_of, only_key}
use Rattle.df_intents.specs.Holders.{is_free}
use Rattle.df_txqueue.specs.Places.{is_queued}
use Rattle.df_hops.specs.declared.answer.Why.{Why}
use Rattle.df_hops.specs.declared.answer.Why.TheVariants.{Refused, NoMemory}
use Rattle.df_shard.specs.declared.asked.Turn.{Turn}
use Rattle.df_shard.specs.declared.asked.Turn.TheVariants.{Now, Never, Later}
use Rattle.df_shard.specs.Holds.{View, tail_of}

-- ---- a call and those that wait

-- nothing of its number or above ran, and it doesn't wait here
abbrev pub MayStart : View → ℕ → Type 0
MayStart x n = (x.ran < n) × (is_queued n x.places ≡ false)

-- who asks for these keys comes too late: they are held, and a greater number waits
abbrev pub ComesLate : View → ℕ → Keys → Type 0
ComesLate x n keys = MayStart x n × (is_free keys x.holders ≡ false) × (n < tail_of x.places)

-- ---- by what a call asks for here

-- nobody holds it
abbrev pub IsFree : View → Call → Type 0
IsFree x call = (keys : Keys) → footprint_of x.shards call x.index ≡ Some keys → is_free keys x.holders ≡ true

-- somebody holds some of it
abbrev pub IsHeld : View → Call → Type 0
IsHeld x call = (keys : Keys) × (footprint_of x.shards call x.index ≡ Some keys) × (is_free keys x.holders ≡ false)

-- it comes too late
abbrev pub IsBehind : View → ℕ → Call → Type 0
IsBehind x n call = (keys : Keys) × (footprint_of x.shards call x.index ≡ Some keys) × ComesLate x n keys

-- it has to wait, behind all that wait
pub record IsLast (x : View) (n : ℕ) (call : Call) (keys : Keys) : Type 0 where
  pub start : MayStart x n
  pub asks : footprint_of x.shards call x.index ≡ Some keys
  pub held : is_free keys x.holders ≡ false
  pub last : tail_of x.places ≤ n

-- ---- a Quick

-- refused by the greatest number that ran, or by the greatest that waits
abbrev pub IsRefused : View → ℕ → Call → ℕ → Type 0
IsRefused x n call limit = ((n ≤ x.ran) × (limit ≡ x.ran)) ⊎ (IsBehind x n call × (limit ≡ tail_of x.places))

-- where a command of one key has to be refused, no memory is asked for
abbrev pub IsPassed : View → ℕ → Call → Why → Type 0
IsPassed x n call (Refused limit) = IsRefused x n call limit
IsPassed x n call NoMemory = (x.ran < n) × (IsBehind x n call → only_key call ≡ None)

abbrev pub HasTurn : View → ℕ → Call → Turn → Type 0
HasTurn x n call Now = MayStart x n × IsFree x call
HasTurn x n call (Never why) = IsPassed x n call why
HasTurn x n call (Later keys) = IsLast x n call keys
