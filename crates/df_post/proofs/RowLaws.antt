-- The ways to the shards, in order, and what changes at one of them.
use Rattle.std.proofs.Common.{◌≡◌, ℕ, zero, suc, ◌+◌, ◌-◌, ◌<◌, length, true, is_some, List, [], ◌∷◌, refl, sym, ap, ◌∙◌, arith}
use Rattle.std.specs.Prelude.{Option, None, map, get_or, slice_index_or, slice_set, Result, OnErr, OnOk, IfSome}
use Rattle.std.proofs.lemmas.Bool.{false≢true}
use Rattle.df_book.specs.Passes.{BookName}
use Rattle.df_post.specs.declared.awaited.Awaited.{Awaited}
use Rattle.df_post.specs.Ways.{WayView}
use Rattle.df_post.specs.Postings.{Posting}
use Rattle.df_post.specs.Locals.{LocalView, Rows, bare_way, bare_ways, posting_of}

abbrev awaiting : WayView → Option Awaited
awaiting w = w.awaits

-- the way at k, as it was read
rows-mine : (z : BookName) (s : ℕ) (ws : List WayView) (k : ℕ) (w : WayView) → Rows z s ws → k < length ws → w ≡ slice_index_or ws k w →
    (w.book ≡ z) × (w.shard ≡ s + k)
rows-mine z s [] k w r lt is = absurd (omega (arith, lt))
rows-mine z s (v ∷ ws) zero w r lt is = (ap (λ (x : WayView). x.book) is ∙ r.0, ap (λ (x : WayView). x.shard) is ∙ r.1 ∙ omega arith)
rows-mine z s (v ∷ ws) (suc k) w r lt is =
    let h = rows-mine z (s + 1) ws k w r.2 (omega (arith, lt)) is in (h.0, h.1 ∙ omega arith)

pub way-mine : (z : BookName) (ws : List WayView) (k : ℕ) (w : WayView) → Rows z 0 ws → k < length ws → w ≡ slice_index_or ws k w →
    (w.book ≡ z) × (w.shard ≡ k)
way-mine z ws k w r lt is = let h = rows-mine z 0 ws k w r lt is in (h.0, h.1 ∙ omega arith)

-- it is replaced by one of the same book and shard
pub rows-go : (z : BookName) (s : ℕ) (ws : List WayView) (k : ℕ) (w new : WayView) → Rows z s ws → w ≡ slice_index_or ws k w →
    new.book ≡ w.book → new.shard ≡ w.shard → Rows z s (slice_set ws k new)
rows-go z s [] k w new r is book shard = tt
rows-go z s (v ∷ ws) zero w new r is book shard =
    (book ∙ ap (λ (x : WayView). x.book) is ∙ r.0, shard ∙ ap (λ (x : WayView). x.shard) is ∙ r.1, r.2)
rows-go z s (v ∷ ws) (suc k) w new r is book shard = (r.0, r.1, rows-go z (s + 1) ws k w new r.2 is book shard)

-- of the bare ways from s on, the first and the others
pub bare-first : (z : BookName) (s n : ℕ) → s < n → bare_ways z s (n - s) ≡ bare_way z s ∷ bare_ways z (s + 1) (n - (s + 1))
bare-first z s n lt = ap (bare_ways z s) (let e : n - s ≡ suc (n - (s + 1)) = omega (arith, lt) in e)

pub rows-bare : (z : BookName) (s n : ℕ) → Rows z s (bare_ways z s n)
rows-bare z s zero = tt
rows-bare z s (suc n) = (refl, refl, rows-bare z (s + 1) n)

-- ---- what awaits

pub some-there : (ws : List WayView) (k : ℕ) → is_some (get_or (map awaiting ws) k None) ≡ true → k < length ws
some-there [] k e = absurd (false≢true e)
some-there (v ∷ ws) zero e = omega arith
some-there (v ∷ ws) (suc k) e = let h = some-there ws k e in omega (arith, h)

pub awaits-there : (ws : List WayView) (k : ℕ) (w : WayView) → k < length ws → w ≡ slice_index_or ws k w →
    get_or (map awaiting ws) k None ≡ w.awaits
awaits-there [] k w lt is = absurd (omega (arith, lt))
awaits-there (v ∷ ws) zero w lt is = sym (ap awaiting is)
awaits-there (v ∷ ws) (suc k) w lt is = awaits-there ws k w (omega (arith, lt)) is

-- it is replaced by one where the same awaits
pub awaits-stay : (ws : List WayView) (k : ℕ) (w new : WayView) → w ≡ slice_index_or ws k w → new.awaits ≡ w.awaits →
    map awaiting (slice_set ws k new) ≡ map awaiting ws
awaits-stay [] k w new is same = refl
awaits-stay (v ∷ ws) zero w new is same = ap (λ a. a ∷ map awaiting ws) (same ∙ ap awaiting is)
awaits-stay (v ∷ ws) (suc k) w new is same = ap (λ l. v.awaits ∷ l) (awaits-stay ws k w new is same)

abbrev with_awaits : LocalView → List (Option Awaited) → Posting
with_awaits p l = record { book = p.book; awaits = l; stalls = p.stalls }

pub posting-stays : (p : LocalView) (k : ℕ) (w new : WayView) → w ≡ slice_index_or p.ways k w → new.awaits ≡ w.awaits →
    posting_of (record p { ways = slice_set p.ways k new }) ≡ posting_of p
posting-stays p k w new is same = ap (with_awaits p) (awaits-stay p.ways k w new is same)

-- ---- what is said of an answer that came

pub if-some : {A : Type 0} (o : Option A) (P Q : A → Type 0) → ((x : A) → P x → Q x) → IfSome o P → IfSome o Q
if-some None P Q f h = tt
if-some (Option.Some x) P Q f h = f x h

pub on-ok : {A B : Type 0} (r : Result A B) (P Q : Type 0) → (P → Q) → OnOk r P → OnOk r Q
on-ok (Result.Ok x) P Q f h = f h
on-ok (Result.Err x) P Q f h = tt

pub either-way : {A B : Type 0} (r : Result A B) (P Q R : Type 0) → (P → R) → (Q → R) → OnOk r P → OnErr r Q → R
either-way (Result.Ok x) P Q R f g h k = f h
either-way (Result.Err x) P Q R f g h k = g k
