-- The one history: the calls that were executed, in the order of their numbers, and what one thread does with them.
use Rattle.std.specs.Prelude.{
  ◌≡◌,
  ℕ,
  zero,
  suc,
  ◌<◌,
  ◌≤◌,
  Bool,
  true,
  false,
  List,
  [],
  ◌∷◌,
  ◌||◌,
  not,
}
use Rattle.df_order.specs.Lists.{Has, Chain, cons_if}
use Rattle.df_order.specs.Model.{Model, names_none, own, upto, replay, FitAll, TellAll, IsInOrder}

-- ---- histories

-- one call that was executed
pub record Item (M : Model) : Type 0 where
  pub number : ℕ
  pub call : M.Call
  pub marks : M.Marks
  pub reply : M.Reply

-- one thread that takes the calls in turn from this keyspace may give these replies
abbrev pub Legal : (M : Model) → M.Space → List (Item M) → Type 0
Legal M space [] = Unit {0}
Legal M space (i ∷ rest) = (after : M.Space) × M.Allowed i.call i.marks i.reply space after × Legal M after rest

-- and may so come to the second keyspace
abbrev pub LegalTo : (M : Model) → M.Space → List (Item M) → M.Space → Type 0
LegalTo M space [] last = space ≡ last
LegalTo M space (i ∷ rest) last =
    (after : M.Space) × M.Allowed i.call i.marks i.reply space after × LegalTo M after rest last

-- the numbers rise, so each is there once
abbrev pub Rising : (M : Model) → List (Item M) → Type 0
Rising M history = Chain (λ i j. i.number < j.number) history

-- ---- histories that logs tell

abbrev pub is_nil : {X : Type 0} → List X → Bool
is_nil [] = true
is_nil (x ∷ xs) = false

-- one of the first t shards has an entry of the number
abbrev pub some_entry : (M : Model) → (ℕ → List M.Entry) → ℕ → ℕ → Bool
some_entry M logs n zero = false
some_entry M logs n (suc t) = not (is_nil (own M n (logs t))) || some_entry M logs n t

-- a log has an entry of the number, or its call names no shard and so needs none
abbrev pub executed : (M : Model) → (ℕ → M.Call) → (ℕ → List M.Entry) → ℕ → Bool
executed M calls logs n = names_none M (calls n) M.shards || some_entry M logs n M.shards

-- the entries of a number on each shard
abbrev pub entries : (M : Model) → (ℕ → List M.Entry) → ℕ → ℕ → List M.Entry
entries M logs n s = own M n (logs s)

abbrev pub item : (M : Model) → (ℕ → M.Call) → (ℕ → List M.Entry) → (ℕ → M.Reply) → ℕ → Item M
item M calls logs replies n =
    record { number = n; call = calls n; marks = M.marks (calls n) (entries M logs n); reply = replies n }

-- an item for each number that passes, of so many numbers from the first on
abbrev pub items_where :
    (M : Model) → (ℕ → M.Call) → (ℕ → List M.Entry) → (ℕ → M.Reply) → (ℕ → Bool) → ℕ → ℕ → List (Item M)
items_where M calls logs replies passes n zero = []
items_where M calls logs replies passes n (suc count) =
    cons_if (passes n) (item M calls logs replies n) (items_where M calls logs replies passes (suc n) count)

-- an item for each number that was executed
abbrev pub items : (M : Model) → (ℕ → M.Call) → (ℕ → List M.Entry) → (ℕ → M.Reply) → ℕ → ℕ → List (Item M)
items M calls logs replies n count = items_where M calls logs replies (executed M calls logs) n count

-- Logs of which the one history is made: those of calls with the numbers from 1 to count, from these states on.
pub record Recorded (M : Model) (calls : ℕ → M.Call) (count : ℕ) (start : ℕ → M.State) (logs : ℕ → List M.Entry)
    (replies : ℕ → M.Reply) : Type 0 where
  pub in_order : (s : ℕ) → IsInOrder M calls s (logs s)
  pub telling : (s : ℕ) → TellAll M calls s (start s) (logs s)
  -- what is staged at first is any call's to write, as where nothing is
  pub clean : (s n : ℕ) (c : M.Call) → M.Good s c n (start s)
  pub drawn : (s : ℕ) (e : M.Entry) → Has (logs s) e → (0 < M.number e) × (M.number e ≤ count)
  pub within : (s : ℕ) → M.shards ≤ s → logs s ≡ []
  -- whoever was executed ran all its hops, which give its reply
  pub complete : (n : ℕ) → executed M calls logs n ≡ true → M.Gives (calls n) (entries M logs n) (replies n)

-- ---- the keyspace at a number

-- what a shard holds once the entries of the numbers below n ran, and no others
abbrev pub state_at : (M : Model) → (ℕ → M.State) → (ℕ → List M.Entry) → ℕ → ℕ → M.State
state_at M start logs n s = replay M (start s) (upto M n (logs s))

abbrev pub keyspace_at : (M : Model) → (ℕ → M.State) → (ℕ → List M.Entry) → ℕ → M.Space
keyspace_at M start logs n = M.joined (state_at M start logs n)

-- The keyspace at a number is what the items below the number leave, and the number's entries fit there: an entry that
-- was told visible pairs was told those of this keyspace.
pub record NumberStands (M : Model) (calls : ℕ → M.Call) (start : ℕ → M.State) (logs : ℕ → List M.Entry)
    (replies : ℕ → M.Reply) (n : ℕ) : Type 0 where
  pub reached : LegalTo M (M.joined start) (items M calls logs replies 1 n) (keyspace_at M start logs (suc n))
  pub fitting : (s : ℕ) → FitAll M calls s (state_at M start logs (suc n) s) (own M (suc n) (logs s))
