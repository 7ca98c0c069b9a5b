-- Entries with the flags of their places: what a write of either leaves.
use Rattle.std.proofs.Common.{◌≡◌, ◌≢◌, Bool, true, false, ℕ, zero, suc, ◌+◌, ◌<◌, ◌≤◌, List, [], ◌∷◌, ◌++◌, map, length, get_or, set, refl, ap, sym, ◌∙◌, arith}
use Rattle.std.specs.List.{remove, filter}
use Rattle.df_segment.specs.declared.entry.Entry.{Entry}
use Rattle.df_segment.specs.Entries.{Slot, slot_of, entry_of, slots, alter, shown, with_value, goes}

module _ {V : Type 0} where
  pub slots_length : (f : ℕ → Bool) (es : List (Entry V)) → length (slots f es) ≡ length es
  slots_length f [] = refl
  slots_length f (e ∷ es) = ap suc (slots_length (λ i. f (suc i)) es)

  -- the entries again
  pub slots_entries : (f : ℕ → Bool) (es : List (Entry V)) → map entry_of (slots f es) ≡ es
  slots_entries f [] = refl
  slots_entries f (e ∷ es) = ap (λ xs. e ∷ xs) (slots_entries (λ i. f (suc i)) es)

  -- what stands at a place
  pub slot_at : (f : ℕ → Bool) (es : List (Entry V)) (i : ℕ) (d : Slot V) (e : Entry V) → i < length es
      → get_or (slots f es) i d ≡ slot_of (f i) (get_or es i e)
  slot_at f [] i d e w = absurd (omega arith)
  slot_at f (x ∷ es) zero d e w = refl
  slot_at f (x ∷ es) (suc i) d e w = slot_at (λ k. f (suc k)) es i d e (omega arith)

  -- where the flags are the same, so is the list
  pub same_slots : (f g : ℕ → Bool) (es : List (Entry V)) → ((k : ℕ) → k < length es → f k ≡ g k) → slots f es ≡ slots g es
  same_slots f g [] h = refl
  same_slots f g (e ∷ es) h =
      ap (λ (b : Bool). slot_of b e ∷ slots (λ i. f (suc i)) es) (h 0 (omega arith))
      ∙ ap (λ xs. slot_of (g 0) e ∷ xs) (same_slots (λ i. f (suc i)) (λ i. g (suc i)) es (λ k w. h (suc k) (omega arith)))

  -- an entry behind the others
  pub slots_push : (f g : ℕ → Bool) (es : List (Entry V)) (e : Entry V) (on : Bool) → g (length es) ≡ on
      → ((k : ℕ) → k < length es → f k ≡ g k) → slots g (es ++ e ∷ []) ≡ slots f es ++ slot_of on e ∷ []
  slots_push f g [] e on last h = ap (λ (b : Bool). slot_of b e ∷ []) last
  slots_push f g (x ∷ es) e on last h =
      ap (λ (b : Bool). slot_of b x ∷ slots (λ i. g (suc i)) (es ++ e ∷ [])) (sym (h 0 (omega arith)))
      ∙ ap (λ xs. slot_of (f 0) x ∷ xs) (slots_push (λ i. f (suc i)) (λ i. g (suc i)) es e on last (λ k w. h (suc k) (omega arith)))

  -- an entry taken out
  pub slots_remove : (f g : ℕ → Bool) (es : List (Entry V)) (i : ℕ) → ((k : ℕ) → k < i → g k ≡ f k)
      → ((k : ℕ) → i ≤ k → g k ≡ f (suc k)) → slots g (remove es i) ≡ remove (slots f es) i
  slots_remove f g [] zero below behind = refl
  slots_remove f g [] (suc i) below behind = refl
  slots_remove f g (e ∷ es) zero below behind = same_slots g (λ i. f (suc i)) es (λ k w. behind k (omega arith))
  slots_remove f g (e ∷ es) (suc i) below behind =
      ap (λ (b : Bool). slot_of b e ∷ slots (λ k. g (suc k)) (remove es i)) (below 0 (omega arith))
      ∙ ap (λ xs. slot_of (f 0) e ∷ xs)
      (slots_remove (λ k. f (suc k)) (λ k. g (suc k)) es i (λ k w. below (suc k) (omega arith)) (λ k w. behind (suc k) (omega arith)))

  -- a flag cleared
  pub slots_show : (f g : ℕ → Bool) (es : List (Entry V)) (i : ℕ) → g i ≡ false → ((k : ℕ) → k < length es → k ≢ i → g k ≡ f k)
      → slots g es ≡ alter shown i (slots f es)
  slots_show f g [] i off others = refl
  slots_show f g (e ∷ es) zero off others =
      ap (λ (b : Bool). slot_of b e ∷ slots (λ k. g (suc k)) es) off
      ∙ ap (λ xs. slot_of false e ∷ xs) (same_slots (λ k. g (suc k)) (λ k. f (suc k)) es (λ k w. others (suc k) (omega arith) (λ h. absurd (omega arith))))
  slots_show f g (e ∷ es) (suc i) off others =
      ap (λ (b : Bool). slot_of b e ∷ slots (λ k. g (suc k)) es) (others 0 (omega arith) (λ h. absurd (omega arith)))
      ∙ ap (λ xs. slot_of (f 0) e ∷ xs)
      (slots_show (λ k. f (suc k)) (λ k. g (suc k)) es i off (λ k w n. others (suc k) (omega arith) (λ h. n (omega arith))))

  -- a value written
  pub slots_value : (f : ℕ → Bool) (es : List (Entry V)) (i : ℕ) (e : Entry V) (value : V) → i < length es → e ≡ get_or es i e
      → slots f (set es i (record e { value = value })) ≡ alter (with_value value) i (slots f es)
  slots_value f [] i e value w is = absurd (omega arith)
  slots_value f (x ∷ es) zero e value w is = ap (λ (y : Entry V). slot_of (f 0) (record y { value = value }) ∷ slots (λ k. f (suc k)) es) is
  slots_value f (x ∷ es) (suc i) e value w is = ap (λ xs. slot_of (f 0) x ∷ xs) (slots_value (λ k. f (suc k)) es i e value (omega arith) is)

  -- how many go doesn't hang on the flags
  more_going : (bit : ℕ) (e : Entry V) (xs : List (Slot V)) (es : List (Entry V)) (on t : Bool) → goes bit e.key ≡ t
      → length (filter (λ (x : Slot V). goes bit x.key) xs) ≡ length (filter (λ (x : Entry V). goes bit x.key) es)
      → length (filter (λ (x : Slot V). goes bit x.key) (slot_of on e ∷ xs)) ≡ length (filter (λ (x : Entry V). goes bit x.key) (e ∷ es))
  more_going bit e xs es on true is h = rw is (ap suc h)
  more_going bit e xs es on false is h = rw is h

  pub slots_going : (f : ℕ → Bool) (bit : ℕ) (es : List (Entry V))
      → length (filter (λ (e : Slot V). goes bit e.key) (slots f es)) ≡ length (filter (λ (e : Entry V). goes bit e.key) es)
  slots_going f bit [] = refl
  slots_going f bit (e ∷ es) = more_going bit e (slots (λ i. f (suc i)) es) es (f 0) (goes bit e.key) refl (slots_going (λ i. f (suc i)) bit es)

pub add_one : (k : ℕ) → k + 1 ≡ suc k
add_one k = omega arith
