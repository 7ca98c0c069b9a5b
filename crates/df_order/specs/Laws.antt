-- The laws of the order of calls, each of any commands.
use Rattle.std.specs.Prelude.{◌≡◌, ◌≢◌, ◌⊎◌, ℕ, ◌<◌, ◌≤◌, true, false, List, Some}
use Rattle.df_order.specs.Lists.{Has}
use Rattle.df_order.specs.Model.{Model, Laws, clash, own, upto, Fits, FitAll, Before, IsInOrder, Alike}
use Rattle.df_order.specs.Histories.{Legal, Rising, items, Recorded, NumberStands}
use Rattle.df_order.specs.Shards.{Place, Shard, Queued, tail, is_free, empty, enqueue, leave, enter, MayRun, Kept}

-- ---- logs alone

-- logs in order, with all hops of each call and what they were told, are those of one thread, call by call in the order
-- of the numbers
abbrev pub RecordedLegal : Model → Type 0
RecordedLegal M =
    Laws M → (calls : ℕ → M.Call) (count : ℕ) (start : ℕ → M.State) (logs : ℕ → List M.Entry) (replies : ℕ → M.Reply) →
    Recorded M calls count start logs replies → Legal M (M.joined start) (items M calls logs replies 1 count)

-- the numbers of that history rise
abbrev pub ItemsRise : Model → Type 0
ItemsRise M =
    (calls : ℕ → M.Call) (count : ℕ) (logs : ℕ → List M.Entry) (replies : ℕ → M.Reply) →
    Rising M (items M calls logs replies 1 count)

-- the keyspace at each number is what the items below it leave, and its entries fit there
abbrev pub NumbersStand : Model → Type 0
NumbersStand M =
    Laws M → (calls : ℕ → M.Call) (count : ℕ) (start : ℕ → M.State) (logs : ℕ → List M.Entry) (replies : ℕ → M.Reply) →
    Recorded M calls count start logs replies → (n : ℕ) → n < count → NumberStands M calls start logs replies n

-- a log in order does the same sorted by number
abbrev pub LogsSort : Model → Type 0
LogsSort M =
    Laws M → (calls : ℕ → M.Call) (s n : ℕ) (start : M.State) (log : List M.Entry) → IsInOrder M calls s log →
    ((e : M.Entry) → Has log e → M.number e < n) → FitAll M calls s start log → Alike M calls s start log (upto M n log)

-- ---- the steps of a shard

abbrev pub KeptAtFirst : Model → Type 0
KeptAtFirst M = (calls : ℕ → M.Call) (s : ℕ) (start : M.State) → Kept M calls s start (empty M start)

-- a call that is above all that ran, and free or above all that wait, may wait
abbrev pub KeptByEnqueue : Model → Type 0
KeptByEnqueue M =
    Laws M → (calls : ℕ → M.Call) (s : ℕ) (start : M.State) (x : Shard M) (n : ℕ) (k : M.Keys) →
    Kept M calls s start x → M.footprint (calls n) s ≡ Some k → ((p : Place) → Has x.queue p → p.number ≢ n) →
    x.ran < n → (is_free M k x.holders ≡ true) ⊎ (tail x.queue ≤ n) → Kept M calls s start (enqueue M n k x)

-- a call may leave at any time
abbrev pub KeptByLeave : Model → Type 0
KeptByLeave M =
    (calls : ℕ → M.Call) (s : ℕ) (start : M.State) (x : Shard M) (n : ℕ) → Kept M calls s start x →
    Kept M calls s start (leave M n x)

-- a hop that fits may run, if it conflicts with no lower call that waits and may stand behind each entry
abbrev pub KeptByEnter : Model → Type 0
KeptByEnter M =
    (calls : ℕ → M.Call) (s : ℕ) (start : M.State) (x : Shard M) (e : M.Entry) → Kept M calls s start x →
    Fits M s (calls (M.number e)) e x.state →
    ((p : Place) → Has x.queue p → p.number < M.number e → clash M calls s p.number (M.number e) ≡ false) →
    ((f : M.Entry) → Has x.log f → Before M calls s f e) → Kept M calls s start (enter M e x)

-- so a waiting call that is granted or the head may run its next hop
abbrev pub KeptByHop : Model → Type 0
KeptByHop M =
    Laws M → (calls : ℕ → M.Call) (s : ℕ) (start : M.State) (x : Shard M) (n : ℕ) (e : M.Entry) →
    Kept M calls s start x → MayRun x.queue n → M.number e ≡ n → Fits M s (calls n) e x.state →
    ((f : M.Entry) → Has (own M n x.log) f → M.hop f < M.hop e) → Kept M calls s start (enter M e x)

-- and a call that is above all that ran, and free, may run without waiting
abbrev pub KeptAtOnce : Model → Type 0
KeptAtOnce M =
    Laws M → (calls : ℕ → M.Call) (s : ℕ) (start : M.State) (x : Shard M) (n : ℕ) (k : M.Keys) (e : M.Entry) →
    Kept M calls s start x → M.footprint (calls n) s ≡ Some k → is_free M k x.holders ≡ true → x.ran < n →
    M.number e ≡ n → Fits M s (calls n) e x.state → Kept M calls s start (enter M e x)

-- further calls may become known, if those of the numbers that wait or ran here stay
abbrev pub KeptByLearning : Model → Type 0
KeptByLearning M =
    (calls calls' : ℕ → M.Call) (s : ℕ) (start : M.State) (x : Shard M) →
    ((p : Place) → Has x.queue p → calls p.number ≡ calls' p.number) →
    ((e : M.Entry) → Has x.log e → calls (M.number e) ≡ calls' (M.number e)) → Kept M calls s start x →
    Kept M calls' s start x

-- ---- who conflicts on a shard

abbrev pub RanIsGreatest : Model → Type 0
RanIsGreatest M =
    (calls : ℕ → M.Call) (s : ℕ) (start : M.State) (x : Shard M) → Kept M calls s start x → (e : M.Entry) →
    Has x.log e → M.number e ≤ x.ran

-- a call whose keys are free conflicts with none that waits
abbrev pub FreeIsApart : Model → Type 0
FreeIsApart M =
    (calls : ℕ → M.Call) (s : ℕ) (start : M.State) (x : Shard M) (n : ℕ) (k : M.Keys) (p : Place) →
    Kept M calls s start x → M.footprint (calls n) s ≡ Some k → is_free M k x.holders ≡ true → Has x.queue p →
    clash M calls s n p.number ≡ false

-- a waiting call that may run conflicts with no lower one that waits
abbrev pub TurnIsApart : Model → Type 0
TurnIsApart M =
    (calls : ℕ → M.Call) (s : ℕ) (start : M.State) (x : Shard M) (n : ℕ) → Kept M calls s start x →
    MayRun x.queue n → (p : Place) → Has x.queue p → p.number < n → clash M calls s p.number n ≡ false

-- a waiting call conflicts with no higher number that ran
abbrev pub WaitingIsApart : Model → Type 0
WaitingIsApart M =
    Laws M → (calls : ℕ → M.Call) (s : ℕ) (start : M.State) (x : Shard M) (n : ℕ) → Kept M calls s start x →
    Queued x.queue n → (e : M.Entry) → Has x.log e → n < M.number e → clash M calls s (M.number e) n ≡ false

-- ---- what is staged

-- What is staged for a number is its call's to write, where it was so at first: so an entry that was told what it gives
-- fits.
abbrev pub StagedIsOwn : Model → Type 0
StagedIsOwn M =
    Laws M → (calls : ℕ → M.Call) (s : ℕ) (start : M.State) (x : Shard M) → Kept M calls s start x →
    ((n : ℕ) → M.Good s (calls n) n start) → (n : ℕ) → M.Good s (calls n) n x.state
