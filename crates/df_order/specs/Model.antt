-- What the order of calls rests on: logs, what they replay to, and the laws that the commands keep.
use Rattle.std.specs.Prelude.{
  ◌≡◌,
  ◌≢◌,
  ℕ,
  zero,
  suc,
  ◌<◌,
  ◌≤◌,
  ◌++◌,
  Bool,
  ◌&&◌,
  is_none,
  true,
  false,
  Option,
  Some,
  None,
  List,
  [],
  ◌∷◌,
  eqb,
}
use Rattle.df_order.specs.Lists.{Has, Chain, only}

-- ---- what the theorems see of the commands

-- Calls on several shards, and nothing of what a command is. A call works on a shard in hops; each leaves an entry in
-- the shard's log.
pub record Model : Type 1 where
  pub Call : Type 0
  -- what a call asks for on one shard: some keys or all of them, each with its mode
  pub Keys : Type 0
  -- an entry of a shard's log: its call's number, its hop, what it did and what it was told
  pub Entry : Type 0
  -- what one shard holds: pairs that are visible, and pairs that are staged for a number
  pub State : Type 0
  pub shards : ℕ
  pub number : Entry → ℕ
  pub hop : Entry → ℕ
  -- what a call asks for on a shard, or None where it doesn't name the shard
  pub footprint : Call → ℕ → Option Keys
  pub meets : Keys → Keys → Bool
  -- the state after an entry
  pub effect : Entry → State → State
  -- on this shard and state, the entry keeps to the call's footprint and was told what it gives there
  pub Tells : ℕ → Call → Entry → State → Type 0
  -- on this shard, what is staged for the number is the call's to write
  pub Good : ℕ → Call → ℕ → State → Type 0
  -- the entry is the call's next one on the shard, after the entries that it has on each shard
  pub Next : Call → (ℕ → List Entry) → ℕ → Entry → Type 0
  -- the call names one shard and has one hop there
  pub quick : Call → Bool
  -- what is staged for one number, and nothing staged
  pub Slot : Type 0
  pub slot : ℕ → State → Slot
  pub bare : Slot
  pub Reply : Type 0
  pub Space : Type 0
  -- the visible pairs of all shards together
  pub joined : (ℕ → State) → Space
  -- these are all hops of the call on each shard, and they give this reply
  pub Gives : Call → (ℕ → List Entry) → Reply → Type 0
  -- which changes were kept, as the entries tell
  pub Marks : Type 0
  pub marks : Call → (ℕ → List Entry) → Marks
  -- one thread may answer the call with this reply, and so go from the one keyspace to the other
  pub Allowed : Call → Marks → Reply → Space → Space → Type 0

-- the call names none of the first n shards
abbrev pub names_none : (M : Model) → M.Call → ℕ → Bool
names_none M c zero = true
names_none M c (suc n) = is_none (M.footprint c n) && names_none M c n

-- these are all hops of the call, whatever they give
abbrev pub Whole : (M : Model) → M.Call → (ℕ → List M.Entry) → Type 0
Whole M c es = (r : M.Reply) × M.Gives c es r

-- what two calls ask for on one shard conflicts
abbrev pub conflict : (M : Model) → Option M.Keys → Option M.Keys → Bool
conflict M None l = false
conflict M (Some k) None = false
conflict M (Some k) (Some l) = M.meets k l

-- the calls of two numbers conflict on a shard
abbrev pub clash : (M : Model) → (ℕ → M.Call) → ℕ → ℕ → ℕ → Bool
clash M calls s n m = conflict M (M.footprint (calls n) s) (M.footprint (calls m) s)

-- ---- logs

-- the entries of one number
abbrev pub own : (M : Model) → ℕ → List M.Entry → List M.Entry
own M n log = only (λ e. eqb (M.number e) n) log

-- the entries of the numbers below n, number by number: the log sorted, if all its numbers are below n
abbrev pub upto : (M : Model) → ℕ → List M.Entry → List M.Entry
upto M zero log = []
upto M (suc n) log = upto M n log ++ own M n log

-- the state after a log
abbrev pub replay : (M : Model) → M.State → List M.Entry → M.State
replay M x [] = x
replay M x (e ∷ es) = replay M (M.effect e x) es

-- the entry was told what it gives, and what is staged for it is its call's to write
abbrev pub Fits : (M : Model) → ℕ → M.Call → M.Entry → M.State → Type 0
Fits M s c e x = M.Tells s c e x × M.Good s c (M.number e) x

-- each entry fits where it stands
abbrev pub FitAll : (M : Model) → (ℕ → M.Call) → ℕ → M.State → List M.Entry → Type 0
FitAll M calls s x [] = Unit {0}
FitAll M calls s x (e ∷ es) = Fits M s (calls (M.number e)) e x × FitAll M calls s (M.effect e x) es

-- each entry was told what it gives where it stands
abbrev pub TellAll : (M : Model) → (ℕ → M.Call) → ℕ → M.State → List M.Entry → Type 0
TellAll M calls s x [] = Unit {0}
TellAll M calls s x (e ∷ es) = M.Tells s (calls (M.number e)) e x × TellAll M calls s (M.effect e x) es

-- e may stand before f in a log: the hops of one number rise, and of two numbers that conflict the lower comes first
pub record Before (M : Model) (calls : ℕ → M.Call) (s : ℕ) (e f : M.Entry) : Type 0 where
  pub rises : M.number e ≡ M.number f → M.hop e < M.hop f
  pub lower : M.number f < M.number e → clash M calls s (M.number e) (M.number f) ≡ false

-- the log is in order: each entry may stand before each behind it
abbrev pub IsInOrder : (M : Model) → (ℕ → M.Call) → ℕ → List M.Entry → Type 0
IsInOrder M calls s log = Chain (Before M calls s) log

-- the second log does what the first does, and each of its entries fits where it stands there
pub record Alike (M : Model) (calls : ℕ → M.Call) (s : ℕ) (x : M.State) (es fs : List M.Entry) : Type 0 where
  pub fits : FitAll M calls s x fs
  pub same : replay M x fs ≡ replay M x es

-- ---- the laws

-- f and then e do what e and then f did, and each fits where it then stands
pub record Swapped (M : Model) (s : ℕ) (c d : M.Call) (e f : M.Entry) (x : M.State) : Type 0 where
  pub first : Fits M s d f x
  pub second : Fits M s c e (M.effect f x)
  pub same : M.effect f (M.effect e x) ≡ M.effect e (M.effect f x)

-- What the commands have to keep. `swap` is the only law of two calls, and `composes` the only one of meaning.
pub record Laws (M : Model) : Type 0 where
  pub meets_sym : (k l : M.Keys) → M.meets k l ≡ M.meets l k
  -- entries of two calls that don't conflict on a shard may change places
  pub swap :
      (s : ℕ) (c d : M.Call) (e f : M.Entry) (x : M.State) → conflict M (M.footprint c s) (M.footprint d s) ≡ false →
      M.number e ≢ M.number f → Fits M s c e x → Fits M s d f (M.effect e x) → Swapped M s c d e f x
  -- a next entry stands on a shard that its call names, and its hop is above those that the shard has
  pub next_named :
      (c : M.Call) (es : ℕ → List M.Entry) (s : ℕ) (e : M.Entry) → M.Next c es s e → M.footprint c s ≢ None
  pub next_rises :
      (c : M.Call) (es : ℕ → List M.Entry) (s : ℕ) (e f : M.Entry) → M.Next c es s e → Has (es s) f → M.hop f < M.hop e
  -- all hops of a call, one after the other on each shard, do what one thread does
  pub composes :
      (calls : ℕ → M.Call) (n : ℕ) (es : ℕ → List M.Entry) (xs : ℕ → M.State) (r : M.Reply) → M.Gives (calls n) es r →
      ((s : ℕ) → FitAll M calls s (xs s) (es s)) → ((s : ℕ) (e : M.Entry) → Has (es s) e → M.number e ≡ n) →
      ((s : ℕ) → Chain (λ e f. M.hop e < M.hop f) (es s)) →
      M.Allowed (calls n) (M.marks (calls n) es) r (M.joined xs) (M.joined (λ s. replay M (xs s) (es s)))
  -- no call names a shard past the last
  pub within : (c : M.Call) (s : ℕ) → M.shards ≤ s → M.footprint c s ≡ None
  -- a call has no hop exactly where it names no shard
  pub none_whole :
      (c : M.Call) (es : ℕ → List M.Entry) → names_none M c M.shards ≡ true → ((s : ℕ) → es s ≡ []) → Whole M c es
  pub whole_some :
      (c : M.Call) (es : ℕ → List M.Entry) → Whole M c es → ((s : ℕ) → es s ≡ []) → names_none M c M.shards ≡ true
  -- a quick call names one shard, and its one hop is all
  pub quick_one :
      (c : M.Call) (s t : ℕ) → M.quick c ≡ true → M.footprint c s ≢ None → M.footprint c t ≢ None → t ≡ s
  pub quick_whole :
      (c : M.Call) (es es' : ℕ → List M.Entry) (s : ℕ) (e : M.Entry) → M.quick c ≡ true → M.Next c es s e →
      es' s ≡ es s ++ e ∷ [] → ((t : ℕ) → t ≢ s → es' t ≡ es t) → Whole M c es'
  -- an entry leaves what is staged for its number its call's to write, and what is staged for others as it was
  pub good_own :
      (s : ℕ) (c : M.Call) (e : M.Entry) (x : M.State) → M.Tells s c e x → M.Good s c (M.number e) x →
      M.Good s c (M.number e) (M.effect e x)
  pub good_other :
      (s : ℕ) (c : M.Call) (n : ℕ) (e : M.Entry) (x : M.State) → M.number e ≢ n → M.Good s c n x →
      M.Good s c n (M.effect e x)
  pub slot_other : (n : ℕ) (e : M.Entry) (x : M.State) → M.number e ≢ n → M.slot n (M.effect e x) ≡ M.slot n x
  -- what is staged for a number hangs on its own entries alone
  pub slot_own :
      (n : ℕ) (e : M.Entry) (x y : M.State) → M.number e ≡ n → M.slot n x ≡ M.slot n y →
      M.slot n (M.effect e x) ≡ M.slot n (M.effect e y)
  -- where all hops ran nothing is staged
  pub whole_bare :
      (c : M.Call) (es : ℕ → List M.Entry) (n s : ℕ) (x : M.State) → Whole M c es →
      ((e : M.Entry) → Has (es s) e → M.number e ≡ n) → M.slot n x ≡ M.bare → M.slot n (replay M x (es s)) ≡ M.bare
