-- A round and the post that it matches, as one slot after the other goes.
use Rattle.std.proofs.Common.{◌≡◌, ◌∙◌, ℕ, zero, suc, ◌+◌, ◌-◌, ◌^◌, ◌<◌, ◌≤◌, ◌≢◌, min, Bool, true, false, ◌&&◌, length, List, [], ◌∷◌, ◌++◌, refl, sym, ap, subst, arith, below_more}
use Rattle.std.specs.Prelude.{Option, None, IfNone, IfSome, map, get_or, set}
use Rattle.std.proofs.lemmas.Bool.{false≢true}
use Rattle.std.proofs.lemmas.List.{get_or_default, get_or-set_other, get_or-set_same, length-set}
use Rattle.std.proofs.Math.ListN.{get_or-map}
use Rattle.df_book.specs.Passes.{BookName}
use Rattle.df_caller.specs.Calling.{Rose}
use Rattle.df_hops.specs.Shown.{book_shown}
use Rattle.df_hops.specs.declared.answer.Answer.{Answer}
use Rattle.df_post.specs.Fits.{fits}
use Rattle.df_post.specs.Postings.{Posting}
use Rattle.df_post.specs.declared.awaited.Awaited.{Awaited}
use Rattle.df_post.specs.declared.slot.Slot.{Slot}
use Rattle.df_post.specs.declared.slot.Slot.TheVariants as in_slot
use Rattle.df_post.specs.Rounds.{Place, Idle, Answered, Counts, Goes, stays, IsMine, Lies, Matches, OnlyAt, RoundView, awaited_in, is_done, place_at, place_of, slot_at}

-- ---- lists, one element of which is replaced

-- what holds at each place holds there still, where it holds of the new one at its place
pub each-set : {A : Type 0} (P : ℕ → A → Type 0) (xs : List A) (k : ℕ) (new d : A) → ((s : ℕ) → P s (get_or xs s d)) → P k new →
    (s : ℕ) → P s (get_or (set xs k new) s d)
each-set P [] k new d f p s = f s
each-set P (x ∷ xs) zero new d f p zero = p
each-set P (x ∷ xs) zero new d f p (suc s) = f (suc s)
each-set P (x ∷ xs) (suc k) new d f p zero = f zero
each-set P (x ∷ xs) (suc k) new d f p (suc s) = each-set (λ i. P (suc i)) xs k new d (λ i. f (suc i)) p s

-- what holds of each element and of the default holds of what is read anywhere
pub read-all : {A : Type 0} (P : ℕ → A → Type 0) (xs : List A) (d : A) → ((s : ℕ) → s < length xs → P s (get_or xs s d)) →
    ((s : ℕ) → P s d) → (s : ℕ) → P s (get_or xs s d)
read-all P [] d f p s = p s
read-all P (x ∷ xs) d f p zero = f zero (omega arith)
read-all P (x ∷ xs) d f p (suc s) = read-all (λ i. P (suc i)) xs d (λ i lt. f (suc i) (omega (arith, lt))) (λ i. p (suc i)) s

-- ---- slots

pub idle-push : (slots : List Slot) → ((s : ℕ) → slot_at s slots ≡ in_slot.Idle) → (s : ℕ) → slot_at s (slots ++ in_slot.Idle ∷ []) ≡ in_slot.Idle
idle-push [] f zero = refl
idle-push [] f (suc s) = refl
idle-push (x ∷ xs) f zero = f zero
idle-push (x ∷ xs) f (suc s) = idle-push xs (λ i. f (suc i)) s

-- the slot at k, as it was read
pub slot-read : (slots : List Slot) (k : ℕ) (slot : Slot) → k < length slots → slot ≡ get_or slots k slot → slot_at k slots ≡ slot
slot-read slots k slot lt is = get_or_default slots k in_slot.Idle slot lt ∙ sym is

pub place-read : (slots : List Slot) (k : ℕ) → get_or (map place_of slots) k Idle ≡ place_of (slot_at k slots)
place-read slots k = get_or-map place_of slots k in_slot.Idle

pub place-new : (slots : List Slot) (k : ℕ) (next : Slot) → k < length slots → get_or (map place_of (set slots k next)) k Idle ≡ place_of next
place-new slots k next lt = place-read (set slots k next) k ∙ ap place_of (get_or-set_same slots k next in_slot.Idle lt)

abbrev pub with_places : RoundView → List Place → RoundView
with_places r places = record r { places = places }

pub few-set : (slots : List Slot) (k : ℕ) (slot : Slot) (n : ℕ) → length slots < n → length (set slots k slot) < n
few-set slots k slot n lt = omega (arith, lt, length-set slots k slot)

-- an answer that lies in a slot fits what awaited it
pub lies-fits : (z : BookName) (s : ℕ) (slot : Slot) (answer : Answer) → IsMine z s slot → Lies slot answer →
    (a : Awaited) × (place_of slot ≡ Answered a) × (fits a s answer ≡ true) × (book_shown z answer.body ≡ z)
lies-fits z s in_slot.Idle answer mine lies = absurd lies
lies-fits z s (in_slot.Unsent m) answer mine lies = absurd lies
lies-fits z s (in_slot.Sent a) answer mine lies = absurd lies
lies-fits z s (in_slot.Answered a held) answer mine lies = (
  a.value,
  refl,
  subst (λ (x : Answer). fits a.value s x ≡ true) lies mine.0,
  subst (λ (x : Answer). book_shown z x.body ≡ z) lies mine.1,
)

-- what is left in a slot is of its shard and its book
pub left-mine : (z : BookName) (s : ℕ) (slot left : Slot) (given : Option Answer) →
    IfSome given (λ answer. Lies slot answer × (left ≡ in_slot.Idle)) →
    IfNone given ((left ≡ slot) × ((a : Awaited) → place_of slot ≡ Answered a → ⊥)) → IsMine z s slot → IsMine z s left
left-mine z s slot left None some none mine = subst (IsMine z s) (sym none.0) mine
left-mine z s slot left (Option.Some answer) some none mine = subst (IsMine z s) (sym some.1) tt

-- ---- what awaits

matched-set : (awaits : List (Option Awaited)) (places : List Place) (k : ℕ) (x : Place) → length awaits ≡ length places →
    ((s : ℕ) → get_or awaits s None ≡ awaited_in (get_or places s Idle)) →
    (s : ℕ) → get_or (set awaits k (awaited_in x)) s None ≡ awaited_in (get_or (set places k x) s Idle)
matched-set [] [] k x e f s = f s
matched-set [] (p ∷ ps) k x e f s = absurd (omega (arith, e))
matched-set (a ∷ more) [] k x e f s = absurd (omega (arith, e))
matched-set (a ∷ more) (p ∷ ps) zero x e f zero = refl
matched-set (a ∷ more) (p ∷ ps) zero x e f (suc s) = f (suc s)
matched-set (a ∷ more) (p ∷ ps) (suc k) x e f zero = f zero
matched-set (a ∷ more) (p ∷ ps) (suc k) x e f (suc s) = matched-set more ps k x (omega (arith, e)) (λ i. f (suc i)) s

-- one place changed, and what awaits there with it
pub matches-set : (r now : RoundView) (p q : Posting) (k : ℕ) (x : Place) → now.book ≡ r.book → now.places ≡ set r.places k x →
    Matches r p → OnlyAt k (awaited_in x) p q → Matches now q
matches-set r now p q k x book places m only = record {
  book = book ∙ m.book ∙ sym only.book;
  shards = ap length only.awaits ∙ length-set p.awaits k (awaited_in x) ∙ m.shards ∙ sym (ap length places ∙ length-set r.places k x);
  awaits = λ s. ap (λ l. get_or l s None) only.awaits ∙ matched-set p.awaits r.places k x m.shards m.awaits s ∙ ap (λ l. awaited_in (get_or l s Idle)) (sym places);
}

-- ---- a pass over the shards

-- the places below k went, the others stand as they did
pub record Passing (old now : RoundView) (before after : Posting) (k : ℕ) : Type 0 where
  pub matches : Matches now after
  pub book : now.book ≡ old.book
  pub room : length now.places ≡ length old.places
  pub post : after.book ≡ before.book
  pub goes : (s : ℕ) → Goes (place_at s old) (place_at s now)
  pub rest : (s : ℕ) → k ≤ s → place_at s now ≡ place_at s old

-- whether all of those are done
pub record Tells (r : RoundView) (k : ℕ) (done : Bool) : Type 0 where
  pub all : done ≡ true → (s : ℕ) → s < k → is_done (place_at s r) ≡ true
  pub one : done ≡ false → (s : ℕ) × (s < k) × (is_done (place_at s r) ≡ false)

pub passing-none : (r : RoundView) (p : Posting) → Matches r p → Passing r r p p 0
passing-none r p m = record { matches = m; book = refl; room = refl; post = refl; goes = λ s. stays (place_at s r); rest = λ s le. refl }

pub tells-none : (r : RoundView) → Tells r 0 true
tells-none r = record { all = λ e s lt. absurd (omega (arith, lt)); one = λ e. absurd (false≢true (sym e)) }

others : (r now : RoundView) (k : ℕ) (x : Place) → now.places ≡ set r.places k x → (s : ℕ) → s ≢ k → place_at s now ≡ place_at s r
others r now k x places s ne = ap (λ l. get_or l s Idle) places ∙ get_or-set_other r.places k s x Idle ne

pub passing-more : (old r now : RoundView) (before p q : Posting) (k : ℕ) → Passing old r before p k → Matches now q →
    now.book ≡ r.book → q.book ≡ p.book → now.places ≡ set r.places k (place_at k now) → Goes (place_at k r) (place_at k now) →
    Passing old now before q (k + 1)
passing-more old r now before p q k h m book post places goes = record {
  matches = m;
  book = book ∙ h.book;
  room = ap length places ∙ length-set r.places k (place_at k now) ∙ h.room;
  post = post ∙ h.post;
  goes = λ s. subst (λ l. Goes (place_at s old) (get_or l s Idle)) (sym places)
      (each-set (λ i. Goes (place_at i old)) r.places k (place_at k now) Idle h.goes
      (subst (λ x. Goes x (place_at k now)) (h.rest k (omega arith)) goes) s);
  rest = λ s le. others r now k (place_at k now) places s (omega (arith, le)) ∙ h.rest s (omega (arith, le));
}

pub tells-more : (r now : RoundView) (k : ℕ) (done went : Bool) → now.places ≡ set r.places k (place_at k now) →
    went ≡ is_done (place_at k now) → Tells r k done → Tells now (k + 1) (done && went)
tells-more r now k true true places is h = record {
  all = λ e. below_more (λ s. is_done (place_at s now) ≡ true) k
      (λ s lt. ap is_done (others r now k (place_at k now) places s (omega (arith, lt))) ∙ h.all refl s lt) (sym is);
  one = λ e. absurd (false≢true (sym e));
}
tells-more r now k true false places is h = record { all = λ e. absurd (false≢true e); one = λ e. (k, omega arith, sym is) }
tells-more r now k false went places is h = record {
  all = λ e. absurd (false≢true e);
  one = λ e. let w = h.one refl in
      (w.0, omega (arith, w.1), ap is_done (others r now k (place_at k now) places w.0 (omega (arith, w.1))) ∙ w.2);
}

pub tells-all : (r : RoundView) (k : ℕ) → k ≡ length r.places → Tells r k true → (s : ℕ) → is_done (place_at s r) ≡ true
tells-all r k is h = read-all (λ s p. is_done p ≡ true) r.places Idle (λ s lt. h.all refl s (omega (arith, lt, is))) (λ s. refl)

-- the waits at those below k were counted
pub record Counted (old now : RoundView) (before after : ℕ) (k : ℕ) : Type 0 where
  pub kept : min before (2 ^ 64 - 1) ≤ after
  pub rose : (s : ℕ) → s < k → place_at s now ≡ place_at s old → is_done (place_at s old) ≡ false → Rose before after

pub counted-none : (r : RoundView) (n : ℕ) → Counted r r n n 0
counted-none r n = record { kept = omega arith; rose = λ s lt same going. absurd (omega (arith, lt)) }

pub counted-more : (old r now : RoundView) (before n m : ℕ) (k : ℕ) → Counted old r before n k →
    now.places ≡ set r.places k (place_at k now) → place_at k r ≡ place_at k old → Counts (place_at k r) (place_at k now) n m →
    Counted old now before m (k + 1)
counted-more old r now before n m k h places rest here = record {
  kept = omega (arith, h.kept, here.kept);
  rose = below_more (λ s. place_at s now ≡ place_at s old → is_done (place_at s old) ≡ false → Rose before m) k
      (λ s lt same going.
      let rose : Rose before n = h.rose s lt (sym (others r now k (place_at k now) places s (omega (arith, lt))) ∙ same) going in omega (arith, rose, here.kept))
      (λ same going. let rose : Rose n m = here.rose (same ∙ sym rest) (ap is_done rest ∙ going) in omega (arith, rose, h.kept));
}

pub counted-all : (old now : RoundView) (before after : ℕ) (k : ℕ) → k ≡ length old.places → Counted old now before after k →
    (s : ℕ) → Counts (place_at s old) (place_at s now) before after
counted-all old now before after k is h = λ s. record {
  kept = h.kept;
  rose = read-all (λ i x. place_at i now ≡ x → is_done x ≡ false → Rose before after) old.places Idle
      (λ i lt. h.rose i (omega (arith, lt, is))) (λ i same going. absurd (false≢true (sym going))) s;
}
