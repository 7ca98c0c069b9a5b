-- One shard: who waits there, who holds keys, its log, and what stays true of them.
use Rattle.std.specs.Prelude.{
  ◌≡◌,
  ℕ,
  ◌<◌,
  ◌≤◌,
  max,
  ◌++◌,
  ◌⊎◌,
  Bool,
  true,
  false,
  Some,
  List,
  [],
  ◌∷◌,
  eqb,
  ltb,
  ◌&&◌,
  if◌then◌else◌,
  not,
}
use Rattle.df_order.specs.Lists.{Has, Chain, only}
use Rattle.df_order.specs.Model.{Model, clash, replay, FitAll, IsInOrder}

-- a call that waits, and whether nobody held what it asked for when it came
pub record Place : Type 0 where
  pub number : ℕ
  pub granted : Bool

-- what a waiting call asked for
pub record Holder (M : Model) : Type 0 where
  pub number : ℕ
  pub keys : M.Keys

pub record Shard (M : Model) : Type 0 where
  pub state : M.State
  pub holders : List (Holder M)
  pub queue : List Place
  -- the greatest number that ran, or 0
  pub ran : ℕ
  pub log : List M.Entry

-- the number waits
abbrev pub Queued : List Place → ℕ → Type 0
Queued q n = (p : Place) × Has q p × (p.number ≡ n)

-- the place goes before the first with a greater number
abbrev pub insert : Place → List Place → List Place
insert p [] = p ∷ []
insert p (q ∷ qs) = if ltb p.number q.number then p ∷ q ∷ qs else q ∷ insert p qs

-- the greatest number that waits, or 0
abbrev pub tail : List Place → ℕ
tail [] = 0
tail (p ∷ q) = max p.number (tail q)

-- no holder has what conflicts with these keys
abbrev pub is_free : (M : Model) → M.Keys → List (Holder M) → Bool
is_free M k [] = true
is_free M k (h ∷ hs) = not (M.meets k h.keys) && is_free M k hs

-- ---- the steps of a shard

-- nobody waits and nothing ran
abbrev pub empty : (M : Model) → M.State → Shard M
empty M x = record { state = x; holders = []; queue = []; ran = 0; log = [] }

-- a call takes its intents and waits, granted if they are free
abbrev pub enqueue : (M : Model) → ℕ → M.Keys → Shard M → Shard M
enqueue M n keys x = record x {
  holders = record { number = n; keys = keys } ∷ x.holders;
  queue = insert (record { number = n; granted = is_free M keys x.holders }) x.queue;
}

-- a call gives its intents back and waits no more
abbrev pub leave : (M : Model) → ℕ → Shard M → Shard M
leave M n x = record x {
  holders = only (λ h. not (eqb h.number n)) x.holders;
  queue = only (λ p. not (eqb p.number n)) x.queue;
}

-- a hop runs
abbrev pub enter : (M : Model) → M.Entry → Shard M → Shard M
enter M e x = record x { state = M.effect e x.state; ran = max x.ran (M.number e); log = x.log ++ e ∷ [] }

-- who waits may run if it was granted, or if it is the head of the queue
abbrev pub MayRun : List Place → ℕ → Type 0
MayRun q n = (p : Place) × Has q p × (p.number ≡ n) × ((p.granted ≡ true) ⊎ ((r : Place) → Has q r → n ≤ r.number))

-- the greatest number of a log, or 0
abbrev pub greatest : (M : Model) → List M.Entry → ℕ
greatest M [] = 0
greatest M (e ∷ es) = max (M.number e) (greatest M es)

-- What each step keeps on a shard, where `calls` gives the call of each number and `start` is the shard's first state.
pub record Kept (M : Model) (calls : ℕ → M.Call) (s : ℕ) (start : M.State) (x : Shard M) : Type 0 where
  -- who waits stands in the order of the numbers, none twice
  pub sorted : Chain (λ p q. p.number < q.number) x.queue
  -- who waits holds its intents, and nobody else does
  pub held : (p : Place) → Has x.queue p → (h : Holder M) × Has x.holders h × (h.number ≡ p.number)
  pub holding :
      (h : Holder M) → Has x.holders h → Queued x.queue h.number × (M.footprint (calls h.number) s ≡ Some h.keys)
  -- of two waiting calls that conflict the higher isn't granted
  pub grants :
      (p q : Place) → Has x.queue p → Has x.queue q → p.number < q.number → clash M calls s p.number q.number ≡ true →
      q.granted ≡ false
  -- a waiting call conflicts with no higher number that ran
  pub ahead :
      (p : Place) (e : M.Entry) → Has x.queue p → Has x.log e → p.number < M.number e →
      clash M calls s p.number (M.number e) ≡ false
  pub ran_is : x.ran ≡ greatest M x.log
  pub in_order : IsInOrder M calls s x.log
  -- the state is that of the log, and each entry fits where it stands
  pub replayed : x.state ≡ replay M start x.log
  pub fitting : FitAll M calls s start x.log
