-- The shard's own lists of places and holders go as the order law's do.
use Rattle.std.proofs.Common.{◌≡◌, ◌≢◌, ℕ, ◌≤◌, Bool, true, false, not, cond, ◌&&◌, eqb, List, [], ◌∷◌, inl, inr, suc, refl, sym, ap, ◌∙◌, subst, arith, eq-eqb, ne_eqb}
use Rattle.std.specs.Prelude.{Option, Some, None, is_some, map, ◌==◌, nat_lt, if◌then◌else◌, All}
use mathlib.Core.Logic.{dite}
use native.Mathlib.Decide.{ℕ_discrete}
use Rattle.std.proofs.lemmas.Bool.{false≢true}
use Rattle.df_model.specs.declared.keys.Keys.{Keys}
use Rattle.df_footprints.specs.Asks.{conflicts}
use Rattle.df_order.specs.Lists.{Has, only, cons_if}
use Rattle.df_order.specs.Shards as order
use Rattle.df_core.specs.Calls.{calls}
use Rattle.df_txqueue.specs.Places as queue
use Rattle.df_txqueue.specs.Places.{is_queued}
use Rattle.df_txqueue.specs.declared.place.Place as at
use Rattle.df_intents.specs.Holders as intents
use Rattle.df_intents.proofs.HolderLaws.{keys_without}
use Rattle.df_shard.specs.Holds.{place_of, holder_of, tail_of}
use Rattle.df_shard.proofs.Bare.{not-both}

-- ---- the same steps

pub same-insert : (p : at.Place) (ps : List at.Place) → map place_of (queue.with_place p ps) ≡ order.insert (place_of p) (map place_of ps)
same-insert p [] = refl
same-insert p (q ∷ ps) = go (same-insert p ps) (nat_lt p.number q.number)
  where
    go : map place_of (queue.with_place p ps) ≡ order.insert (place_of p) (map place_of ps) → (b : Bool) →
        map place_of (cond b (p ∷ q ∷ ps) (q ∷ queue.with_place p ps))
        ≡ (if b then place_of p ∷ place_of q ∷ map place_of ps else place_of q ∷ order.insert (place_of p) (map place_of ps))
    go more true = refl
    go more false = ap (λ l. place_of q ∷ l) more

pub same-leave : (n : ℕ) (ps : List at.Place) → map place_of (queue.without n ps) ≡ only (λ q. not (eqb q.number n)) (map place_of ps)
same-leave n [] = refl
same-leave n (p ∷ ps) = go (same-leave n ps) (p.number == n)
  where
    go : map place_of (queue.without n ps) ≡ only (λ q. not (eqb q.number n)) (map place_of ps) → (b : Bool) →
        map place_of (cond b (queue.without n ps) (p ∷ queue.without n ps))
        ≡ cons_if (not b) (place_of p) (only (λ q. not (eqb q.number n)) (map place_of ps))
    go more true = more
    go more false = ap (λ l. place_of p ∷ l) more

pub same-holders : (shards n : ℕ) (hs : List intents.Holder) →
    map (holder_of shards) (intents.without n hs) ≡ only (λ h. not (eqb h.number n)) (map (holder_of shards) hs)
same-holders shards n [] = refl
same-holders shards n (h ∷ hs) = go (same-holders shards n hs) (h.number == n)
  where
    go : map (holder_of shards) (intents.without n hs) ≡ only (λ h. not (eqb h.number n)) (map (holder_of shards) hs) → (b : Bool) →
        map (holder_of shards) (cond b (intents.without n hs) (h ∷ intents.without n hs))
        ≡ cons_if (not b) (holder_of shards h) (only (λ h. not (eqb h.number n)) (map (holder_of shards) hs))
    go more true = more
    go more false = ap (λ l. holder_of shards h ∷ l) more

pub same-free : (shards : ℕ) (k : Keys) (hs : List intents.Holder) →
    order.is_free (calls shards) k (map (holder_of shards) hs) ≡ intents.is_free k hs
same-free shards k [] = refl
same-free shards k (h ∷ hs) = ap (λ b. not (conflicts k h.keys) && b) (same-free shards k hs)

-- ---- who has a place

some-front : (b : Bool) (x : at.Place) (o : Option at.Place) → is_some o ≡ true → is_some (cond b (Some x) o) ≡ true
some-front true x o h = refl
some-front false x o h = h

pub either-some : (b : Bool) (x : at.Place) (o o' : Option at.Place) → (is_some o ≡ true → is_some o' ≡ true) →
    is_some (cond b (Some x) o) ≡ true → is_some (cond b (Some x) o') ≡ true
either-some true x o o' f h = refl
either-some false x o o' f h = f h

later-none : (b : Bool) (x : at.Place) (o : Option at.Place) → is_some (cond b (Some x) o) ≡ false → is_some o ≡ false
later-none true x o h = absurd (false≢true (sym h))
later-none false x o h = h

pub queued-with : (p : at.Place) (ps : List at.Place) (m : ℕ) → is_queued m ps ≡ true → is_queued m (queue.with_place p ps) ≡ true
queued-with p [] m h = absurd (false≢true h)
queued-with p (q ∷ ps) m h = go (queued-with p ps m) (nat_lt p.number q.number)
  where
    go : (is_queued m ps ≡ true → is_queued m (queue.with_place p ps) ≡ true) → (b : Bool) →
        is_queued m (cond b (p ∷ q ∷ ps) (q ∷ queue.with_place p ps)) ≡ true
    go more true = some-front (p.number == m) p (queue.place_of m (q ∷ ps)) h
    go more false = either-some (q.number == m) q (queue.place_of m ps) (queue.place_of m (queue.with_place p ps)) more h

pub queued-new : (p : at.Place) (ps : List at.Place) → is_queued p.number (queue.with_place p ps) ≡ true
queued-new p [] = ap (λ b. is_some (cond b (Some p) None)) (eq-eqb p.number p.number refl)
queued-new p (q ∷ ps) = go (queued-new p ps) (nat_lt p.number q.number)
  where
    go : is_queued p.number (queue.with_place p ps) ≡ true → (b : Bool) →
        is_queued p.number (cond b (p ∷ q ∷ ps) (q ∷ queue.with_place p ps)) ≡ true
    go more true = ap (λ b. is_some (cond b (Some p) (queue.place_of p.number (q ∷ ps)))) (eq-eqb p.number p.number refl)
    go more false = some-front (q.number == p.number) q (queue.place_of p.number (queue.with_place p ps)) more

pub queued-without : (n m : ℕ) (ps : List at.Place) → m ≢ n → is_queued m ps ≡ true → is_queued m (queue.without n ps) ≡ true
queued-without n m [] ne h = h
queued-without n m (p ∷ ps) ne h = dite (ℕ_discrete p.number n)
    (λ (is : p.number ≡ n). subst (λ b. is_queued m (cond b (queue.without n ps) (p ∷ queue.without n ps)) ≡ true) (sym (eq-eqb p.number n is))
    (queued-without n m ps ne (sym (ap (λ b. is_some (cond b (Some p) (queue.place_of m ps))) (ne_eqb p.number m (λ i. ne (sym i ∙ is)))) ∙ h)))
    (λ (no : p.number ≢ n). subst (λ b. is_queued m (cond b (queue.without n ps) (p ∷ queue.without n ps)) ≡ true) (sym (ne_eqb p.number n no))
    (either-some (p.number == m) p (queue.place_of m ps) (queue.place_of m (queue.without n ps)) (queued-without n m ps ne) h))

-- who left has none
pub queued-none : (n : ℕ) (ps : List at.Place) → is_queued n (queue.without n ps) ≡ false
queued-none n [] = refl
queued-none n (p ∷ ps) = dite (ℕ_discrete p.number n)
    (λ (is : p.number ≡ n). subst (λ b. is_queued n (cond b (queue.without n ps) (p ∷ queue.without n ps)) ≡ false) (sym (eq-eqb p.number n is)) (queued-none n ps))
    (λ (no : p.number ≢ n). subst (λ b. is_queued n (cond b (queue.without n ps) (p ∷ queue.without n ps)) ≡ false) (sym (ne_eqb p.number n no))
    (ap (λ b. is_some (cond b (Some p) (queue.place_of n (queue.without n ps)))) (ne_eqb p.number n no) ∙ queued-none n ps))

-- who has no place isn't among the order law's
pub not-in : (n : ℕ) (ps : List at.Place) → is_queued n ps ≡ false → (q : order.Place) → Has (map place_of ps) q → q.number ≢ n
not-in n [] h q k = absurd k
not-in n (p ∷ ps) h q (inl i) =
    λ is. not-both (ap (λ b. is_some (cond b (Some p) (queue.place_of n ps))) (eq-eqb p.number n (ap (λ (r : order.Place). r.number) i ∙ is))) h
not-in n (p ∷ ps) h q (inr k) = not-in n ps (later-none (p.number == n) p (queue.place_of n ps) h) q k

-- ---- the tail

tail-low : (n : ℕ) (ps : List at.Place) → All (λ (p : at.Place). p.number ≤ n) ps → tail_of ps ≤ n
tail-low n [] h = omega arith
tail-low n (p ∷ ps) h = omega (arith, h 0 p (omega arith), tail-low n ps (λ k d lt. h (suc k) d (omega (arith, lt))))

tail-high : (n : ℕ) (ps : List at.Place) → is_queued n ps ≡ true → n ≤ tail_of ps
tail-high n [] h = absurd (false≢true h)
tail-high n (p ∷ ps) h = dite (ℕ_discrete p.number n)
    (λ (is : p.number ≡ n). omega (arith, is))
    (λ (ne : p.number ≢ n). omega (arith, tail-high n ps (sym (ap (λ b. is_some (cond b (Some p) (queue.place_of n ps))) (ne_eqb p.number n ne)) ∙ h)))

pub tail-is : (n : ℕ) (ps : List at.Place) → queue.IsGreatest n ps → n ≡ tail_of ps
tail-is n ps g = omega (arith, tail-low n ps g.greatest, tail-high n ps g.queued)

-- ---- who holds

-- a number that holds nothing is not among the holders
pub without-none : (n : ℕ) (hs : List intents.Holder) → intents.holds n hs ≡ false → hs ≡ intents.without n hs
without-none n [] h = refl
without-none n (k ∷ hs) h = go (without-none n hs) (k.number == n) h
  where
    go : (intents.holds n hs ≡ false → hs ≡ intents.without n hs) → (b : Bool) → is_some (cond b (Some k.keys) (intents.keys_of n hs)) ≡ false →
        (k ∷ hs) ≡ cond b (intents.without n hs) (k ∷ intents.without n hs)
    go more true e = absurd (false≢true (sym e))
    go more false e = ap (λ l. k ∷ l) (more e)

holder-in : (shards n : ℕ) (hs : List intents.Holder) → intents.holds n hs ≡ true →
    (h : order.Holder (calls shards)) × Has (map (holder_of shards) hs) h × (h.number ≡ n)
holder-in shards n [] e = absurd (false≢true e)
holder-in shards n (h ∷ hs) e = dite (ℕ_discrete h.number n)
    (λ (is : h.number ≡ n). (holder_of shards h, inl refl, is))
    (λ (ne : h.number ≢ n).
    let r = holder-in shards n hs (sym (ap (λ b. is_some (cond b (Some h.keys) (intents.keys_of n hs))) (ne_eqb h.number n ne)) ∙ e) in
    (r.0, inr r.1, r.2))

-- who let go holds nothing
pub holds-without : (n : ℕ) (hs : List intents.Holder) → intents.holds n (intents.without n hs) ≡ false
holds-without n hs = ap is_some (keys_without n n hs ∙ ap (λ b. cond b None (intents.keys_of n hs)) (eq-eqb n n refl))

-- where each holder has its place, who has none holds nothing
pub holds-none : (shards n : ℕ) (hs : List intents.Holder) (ps : List at.Place) →
    ((h : order.Holder (calls shards)) → Has (map (holder_of shards) hs) h → order.Queued (map place_of ps) h.number) →
    is_queued n ps ≡ false → intents.holds n hs ≡ false
holds-none shards n hs ps placed new = go (intents.holds n hs) refl
  where
    go : (b : Bool) → intents.holds n hs ≡ b → intents.holds n hs ≡ false
    go false is = is
    go true is =
        let r = holder-in shards n hs is in
        let q = placed r.0 r.1 in
        absurd (not-in n ps new q.0 q.1 (q.2 ∙ r.2))
