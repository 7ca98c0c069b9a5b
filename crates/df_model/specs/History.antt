-- The list of calls with their replies: what makes it legal, and what makes it ordered.
use Rattle.std.specs.Prelude.{◌≡◌, ℕ, ◌<◌, ◌≤◌, List, [], ◌∷◌, Bool}
use Rattle.std.specs.List.{AllByRecursion}
use Rattle.df_model.specs.Keyspace.{Keyspace}
use Rattle.df_model.specs.Calls.{Allowed}
use Rattle.df_model.specs.declared.command.Call.{Call}
use Rattle.df_model.specs.declared.reply.Reply.{Reply}

-- a call that was run: its session and number, which of its commands are kept, the greatest number that its caller
-- had seen when the number was drawn, and the reply
pub record Item : Type 0 where
  pub session : ℕ
  pub number : ℕ
  pub call : Call
  pub marks : List Bool
  pub floor : ℕ
  pub reply : Reply

-- the items in their order lead from one keyspace to the other
abbrev pub Leads : Keyspace → List Item → Keyspace → Type 0
Leads K [] after = after ≡ K
Leads K (item ∷ items) after =
    (middle : Keyspace) × Allowed item.call item.marks K item.reply middle × Leads middle items after

-- one thread that takes the items in order from this keyspace may give these replies
abbrev pub IsLegal : Keyspace → List Item → Type 0
IsLegal K items = (after : Keyspace) × Leads K items after

-- each number is above the one before it and above its own floor
abbrev pub RisesFrom : ℕ → List Item → Type 0
RisesFrom last [] = Unit {0}
RisesFrom last (item ∷ items) = (last < item.number) × (item.floor < item.number) × RisesFrom item.number items

-- ---- order

-- the later items of the session have a floor that isn't below this number
abbrev pub HasSeen : ℕ → ℕ → List Item → Type 0
HasSeen session number items = AllByRecursion (λ (i : Item). i.session ≡ session → number ≤ i.floor) items

-- a session had seen each earlier item of its own whose call left something to see
abbrev pub SeesItsOwn : (Call → Type 0) → List Item → Type 0
SeesItsOwn Leaves [] = Unit {0}
SeesItsOwn Leaves (i ∷ items) = (Leaves i.call → HasSeen i.session i.number items) × SeesItsOwn Leaves items

-- `Leaves` tells which calls leave something to see: where calls are split over shards, those that name a shard
pub record IsOrdered (Leaves : Call → Type 0) (items : List Item) : Type 0 where
  pub rises : RisesFrom 0 items
  pub sees_its_own : SeesItsOwn Leaves items

-- each call leaves something to see
abbrev pub each_call : Call → Type 0
each_call call = Unit {0}
