-- A walk over the visible entries, step by step.
use Rattle.std.proofs.Common.{◌≡◌, ℕ, zero, suc, ◌+◌, ◌<◌, ◌≤◌, List, [], ◌∷◌, ◌++◌, length, get_or, drop, Bool, true, false, cond, Option, Some, None, refl, ap, sym, ◌∙◌, arith}
use Rattle.std.specs.Prelude.{IfSome, IfNone}
use Rattle.std.specs.List.{flat_map, filter_map, cons_option}
use Rattle.df_model.specs.Values.{Bytes}
use Rattle.df_segment.specs.Entries.{Slot}
use Rattle.df_segment.specs.Buckets.{Bucket, Segment, bucket_at, no_bucket}
use Rattle.df_dashtable.specs.Visible.{visible_of, visible_in, visible_entries}
use Rattle.df_dashtable.specs.Tables.{segment_at, no_segment}
use Rattle.df_dashtable.specs.Walks.{pair_of, rest_in, row_from, rest_of, segments_from, rest_from}

one_more : (k m : ℕ) → m ≡ k + 1 → m ≡ suc k
one_more k m e = omega arith

-- a flat map from a place on
from_place : {X A : Type 0} (f : X → List A) (d : X) (xs : List X) (i : ℕ) → f d ≡ []
    → flat_map f (drop i xs) ≡ f (get_or xs i d) ++ flat_map f (drop (suc i) xs)
from_place f d [] zero e = rw e refl
from_place f d [] (suc i) e = rw e refl
from_place f d (x ∷ xs) zero e = refl
from_place f d (x ∷ xs) (suc i) e = from_place f d xs i e

past_end : {X A : Type 0} (f : X → List A) (xs : List X) (i : ℕ) → length xs ≤ i → flat_map f (drop i xs) ≡ []
past_end f [] zero h = refl
past_end f [] (suc i) h = refl
past_end f (x ∷ xs) zero h = absurd (omega arith)
past_end f (x ∷ xs) (suc i) h = past_end f xs i (omega arith)

module _ {V : Type 0} where
  on_staged : (e : Slot V) (es : List (Slot V)) → e.staged ≡ true → filter_map visible_of (e ∷ es) ≡ filter_map visible_of es
  on_staged e es is = ap (λ (b : Bool). cons_option (cond b None (Some (e.key, e.value))) (filter_map visible_of es)) is

  on_shown : (e : Slot V) (es : List (Slot V)) → e.staged ≡ false → filter_map visible_of (e ∷ es) ≡ pair_of e ∷ filter_map visible_of es
  on_shown e es is = ap (λ (b : Bool). cons_option (cond b None (Some (e.key, e.value))) (filter_map visible_of es)) is

  -- what a look from a place on finds
  pub found_from : (es : List (Slot V)) (i k : ℕ) (d : Slot V) → i ≤ k → k < length es
      → ((j : ℕ) (x : Slot V) → i ≤ j → j < k → (get_or es j x).staged ≡ true) → (get_or es k d).staged ≡ false
      → filter_map visible_of (drop i es) ≡ pair_of (get_or es k d) ∷ filter_map visible_of (drop (suc k) es)
  found_from [] i k d h w skipped off = absurd (omega arith)
  found_from (e ∷ es) zero zero d h w skipped off = on_shown e es off
  found_from (e ∷ es) zero (suc k) d h w skipped off =
      on_staged e es (skipped 0 d (omega arith) (omega arith))
      ∙ from_zero es ∙ found_from es zero k d (omega arith) (omega arith) (λ j x a b. skipped (suc j) x (omega arith) (omega arith)) off
    where
      from_zero : (es : List (Slot V)) → filter_map visible_of es ≡ filter_map visible_of (drop 0 es)
      from_zero [] = refl
      from_zero (e ∷ es) = refl
  found_from (e ∷ es) (suc i) zero d h w skipped off = absurd (omega arith)
  found_from (e ∷ es) (suc i) (suc k) d h w skipped off =
      found_from es i k d (omega arith) (omega arith) (λ j x a b. skipped (suc j) x (omega arith) (omega arith)) off

  pub none_from : (es : List (Slot V)) (i : ℕ) → ((j : ℕ) (x : Slot V) → i ≤ j → j < length es → (get_or es j x).staged ≡ true)
      → filter_map visible_of (drop i es) ≡ []
  none_from [] zero all = refl
  none_from [] (suc i) all = refl
  none_from (e ∷ es) zero all =
      on_staged e es (all 0 e (omega arith) (omega arith)) ∙ from_zero es ∙ none_from es zero (λ j x a b. all (suc j) x (omega arith) (omega arith))
    where
      from_zero : (es : List (Slot V)) → filter_map visible_of es ≡ filter_map visible_of (drop 0 es)
      from_zero [] = refl
      from_zero (e ∷ es) = refl
  none_from (e ∷ es) (suc i) all = none_from es i (λ j x a b. all (suc j) x (omega arith) (omega arith))

  pub walk_none : (b : Bucket V) (i : ℕ) (r : Option ℕ)
      → IfNone r ((j : ℕ) (x : Slot V) → i ≤ j → j < length b.entries → (get_or b.entries j x).staged ≡ true) → IfNone r (rest_in i b ≡ [])
  walk_none b i None all = none_from b.entries i all
  walk_none b i (Some k) all = all

  pub walk_some : (b : Bucket V) (i : ℕ) (r : Option ℕ) → IfSome r (λ k. k < length b.entries) → IfSome r (λ k. i ≤ k)
      → IfSome r (λ k. (x : Slot V) → (get_or b.entries k x).staged ≡ false)
      → IfSome r (λ k. (j : ℕ) (x : Slot V) → i ≤ j → j < k → (get_or b.entries j x).staged ≡ true)
      → IfSome r (λ k. (d : Slot V) → rest_in i b ≡ pair_of (get_or b.entries k d) ∷ rest_in (suc k) b)
  walk_some b i None within behind visible skipped = within
  walk_some b i (Some k) within behind visible skipped = λ d. found_from b.entries i k d behind within skipped (visible d)

  whole_bucket : (es : List (Slot V)) → filter_map visible_of es ≡ filter_map visible_of (drop 0 es)
  whole_bucket [] = refl
  whole_bucket (e ∷ es) = refl

  -- the row from a bucket on
  here : (s : Segment V) (b : ℕ) → row_from b s ≡ rest_of b 0 s
  here s b =
      from_place visible_in no_bucket s.buckets b refl
      ∙ ap (λ zs. zs ++ row_from (suc b) s) (whole_bucket (bucket_at s.buckets b).entries)

  -- a bucket that has nothing from a slot on
  pub bucket_none : (s : Segment V) (b i m : ℕ) → rest_in i (bucket_at s.buckets b) ≡ [] → m ≡ b + 1 → rest_of b i s ≡ row_from m s
  bucket_none s b i m none next =
      ap (λ zs. zs ++ row_from (suc b) s) none ∙ ap (λ (n : ℕ). row_from n s) (sym (one_more b m next))

  pub next_none : (s : Segment V) (b m : ℕ) (rest : List (Bytes × V)) → rest ≡ row_from b s → rest_in 0 (bucket_at s.buckets b) ≡ [] → m ≡ b + 1 → rest ≡ row_from m s
  next_none s b m rest is none next = is ∙ here s b ∙ bucket_none s b 0 m none next

  -- and one that has something
  pub bucket_some : (s : Segment V) (b i k : ℕ) (x : Bytes × V) → rest_in i (bucket_at s.buckets b) ≡ x ∷ rest_in (suc k) (bucket_at s.buckets b)
      → rest_of b i s ≡ x ∷ rest_of b (suc k) s
  bucket_some s b i k x some = ap (λ zs. zs ++ row_from (suc b) s) some

  pub next_some : (s : Segment V) (b k : ℕ) (x : Bytes × V) (rest : List (Bytes × V)) → rest ≡ row_from b s
      → rest_in 0 (bucket_at s.buckets b) ≡ x ∷ rest_in (suc k) (bucket_at s.buckets b) → rest ≡ x ∷ rest_of b (suc k) s
  next_some s b k x rest is some = is ∙ here s b ∙ bucket_some s b 0 k x some

  pub row_end : (s : Segment V) (b : ℕ) (rest : List (Bytes × V)) → rest ≡ row_from b s → length s.buckets ≤ b → rest ≡ []
  row_end s b rest is end = is ∙ past_end visible_in s.buckets b end

  abbrev all_of : Segment V → List (Bytes × V)
  all_of s = visible_entries s.buckets

  all_row : (bs : List (Bucket V)) → flat_map visible_in bs ≡ flat_map visible_in (drop 0 bs)
  all_row [] = refl
  all_row (b ∷ bs) = refl

  -- the same over segments
  pub segment_none : (ss : List (Segment V)) (s b i m : ℕ) → rest_of b i (segment_at ss s) ≡ [] → m ≡ s + 1 → rest_from s b i ss ≡ segments_from m ss
  segment_none ss s b i m none next =
      ap (λ zs. zs ++ segments_from (suc s) ss) none ∙ ap (λ (n : ℕ). segments_from n ss) (sym (one_more s m next))

  there : (ss : List (Segment V)) (s : ℕ) → segments_from s ss ≡ row_from 0 (segment_at ss s) ++ segments_from (suc s) ss
  there ss s = from_place all_of no_segment ss s refl ∙ ap (λ zs. zs ++ segments_from (suc s) ss) (all_row (segment_at ss s).buckets)

  pub further_none : (ss : List (Segment V)) (s m : ℕ) (rest : List (Bytes × V)) → rest ≡ segments_from s ss → row_from 0 (segment_at ss s) ≡ [] → m ≡ s + 1
      → rest ≡ segments_from m ss
  further_none ss s m rest is none next =
      is ∙ there ss s ∙ ap (λ zs. zs ++ segments_from (suc s) ss) none ∙ ap (λ (n : ℕ). segments_from n ss) (sym (one_more s m next))

  pub segment_some : (ss : List (Segment V)) (s b i c k : ℕ) (x : Bytes × V) → rest_of b i (segment_at ss s) ≡ x ∷ rest_of c (suc k) (segment_at ss s)
      → rest_from s b i ss ≡ x ∷ rest_from s c (suc k) ss
  segment_some ss s b i c k x some = ap (λ zs. zs ++ segments_from (suc s) ss) some

  pub further_some : (ss : List (Segment V)) (s c k : ℕ) (x : Bytes × V) (rest : List (Bytes × V)) → rest ≡ segments_from s ss
      → row_from 0 (segment_at ss s) ≡ x ∷ rest_of c (suc k) (segment_at ss s) → rest ≡ x ∷ rest_from s c (suc k) ss
  further_some ss s c k x rest is some = is ∙ there ss s ∙ ap (λ zs. zs ++ segments_from (suc s) ss) some

  pub segments_end : (ss : List (Segment V)) (s : ℕ) (rest : List (Bytes × V)) → rest ≡ segments_from s ss → length ss ≤ s → rest ≡ []
  segments_end ss s rest is end = is ∙ past_end all_of ss s end

  -- a walk from the first segment sees all
  pub whole_walk : (ss : List (Segment V)) → flat_map all_of ss ≡ segments_from 0 ss
  whole_walk [] = refl
  whole_walk (s ∷ ss) = refl
