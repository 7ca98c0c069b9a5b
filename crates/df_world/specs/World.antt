-- All shards and all calls at one moment.
use Rattle.std.specs.Prelude.{◌≡◌, ℕ, Bool, List}
use Rattle.df_order.specs.Puts.{put}
use Rattle.df_order.specs.Model.{Model, Whole}
use Rattle.df_order.specs.Histories.{entries}
use Rattle.df_order.specs.Shards.{Shard, empty}

-- how far a call is on a shard
pub data Phase : Type 0 where
  -- nothing of it came to the shard
  Fresh : Phase
  -- it waits there; true where it came by a Quick
  Taken : Bool → Phase
  -- it was refused, or found no memory
  Out : Phase
  -- it waited and left without a hop
  Cancelled : Phase
  -- all its hops ran, and it waits no more
  Done : Phase

-- it waits
abbrev pub IsTaken : Phase → Type 0
IsTaken Fresh = ⊥
IsTaken (Taken q) = Unit {0}
IsTaken Out = ⊥
IsTaken Cancelled = ⊥
IsTaken Done = ⊥

-- it waits, or is done
abbrev pub IsActive : Phase → Type 0
IsActive Fresh = ⊥
IsActive (Taken q) = Unit {0}
IsActive Out = ⊥
IsActive Cancelled = ⊥
IsActive Done = Unit {0}

pub record World (M : Model) : Type 0 where
  -- the number that the next call draws; those from 1 to below it were drawn
  pub counter : ℕ
  -- of each number that was drawn: its call, who drew it, and the greatest number that its caller had seen
  pub call : ℕ → M.Call
  pub caller : ℕ → ℕ
  pub floor : ℕ → ℕ
  pub shard : ℕ → Shard M
  -- by shard, then by number
  pub phase : ℕ → ℕ → Phase

abbrev pub logs : (M : Model) → World M → ℕ → List M.Entry
logs M w s = (w.shard s).log

-- all hops of a call ran, or it names no shard
abbrev pub Finished : (M : Model) → World M → ℕ → Type 0
Finished M w n = Whole M (w.call n) (entries M (logs M w) n)

-- one shard is changed, and how far one number is there
abbrev pub moved : (M : Model) → ℕ → ℕ → Phase → Shard M → World M → World M
moved M s n p x w = record w { shard = put s x w.shard; phase = put s (put n p (w.phase s)) w.phase }

-- nothing is staged on a shard, so what is staged is any call's to write
pub record Unstaged (M : Model) (s : ℕ) (x : M.State) : Type 0 where
  pub bare : (n : ℕ) → M.slot n x ≡ M.bare
  pub good : (n : ℕ) (c : M.Call) → M.Good s c n x

-- The world at first: the shards' first states, and nothing else. The call is that of the numbers that weren't drawn.
abbrev pub first : (M : Model) → M.Call → (ℕ → M.State) → World M
first M c start = record {
  counter = 1;
  call = λ n. c;
  caller = λ n. 0;
  floor = λ n. 0;
  shard = λ s. empty M (start s);
  phase = λ s n. Fresh;
}
