-- A table whose visible entries are taken out.
use Rattle.std.proofs.Common.{◌≡◌, ℕ, zero, suc, ◌+◌, ◌<◌, ◌≤◌, List, [], ◌∷◌, ◌++◌, map, length, get_or, set, Bool, true, false, cond, Some, None, refl, ap, sym, subst, ◌∙◌, arith, inl, inr}
use Rattle.std.specs.List.{flat_map, filter_map, cons_option}
use Rattle.std.proofs.lemmas.Bool.{cases_eq}
use Rattle.std.proofs.lemmas.List.{length-map, length-set, ext_get_or, get_or-set_same, get_or-set_other}
use Rattle.std.proofs.lemmas.List.Elements.{filter-append}
use Rattle.df_model.specs.Values.{Bytes}
use Rattle.df_segment.specs.Entries.{Slot, has_key, found}
use Rattle.df_segment.specs.Buckets.{Bucket, Segment, entries_of, entries_in, bucket_at, no_bucket, staged_only}
use Rattle.df_segment.proofs.ListLaws.{empty_of}
use Rattle.df_segment.proofs.KeepLaws.{fewer}
use Rattle.df_dashtable.specs.Visible.{visible_of, visible_in, visible_entries, older_entries}
use Rattle.df_dashtable.specs.Tables.{IsTable, Reached, IsCurrent, segment_at, no_segment, staged_in, cleared, places_of}
use Rattle.df_dashtable.proofs.HoldsLaws.{all_visible}

-- what a map has anywhere, where it leaves the default
pub at_map : {X : Type 0} (f : X → X) (d : X) (xs : List X) (i : ℕ) → f d ≡ d → get_or (map f xs) i d ≡ f (get_or xs i d)
at_map f d [] i e = sym e
at_map f d (x ∷ xs) zero e = refl
at_map f d (x ∷ xs) (suc i) e = at_map f d xs i e

-- a list that is so place by place
pub is_map : {X : Type 0} (f : X → X) (d : X) (xs ys : List X) → f d ≡ d → length ys ≡ length xs
    → ((i : ℕ) → i < length xs → get_or ys i d ≡ f (get_or xs i d)) → ys ≡ map f xs
is_map f d xs ys e long each =
    let l = length-map xs f in
    ext_get_or d ys (map f xs) (omega arith) (λ i w. each i (omega arith) ∙ sym (at_map f d xs i e))

-- the first n places are done, and the others are as they were
pub record Done {X : Type 0} (f : X → X) (d : X) (xs ys : List X) (n : ℕ) : Type 0 where
  pub long : length ys ≡ length xs
  pub done : (k : ℕ) → k < n → get_or ys k d ≡ f (get_or xs k d)
  pub rest : (k : ℕ) → n ≤ k → get_or ys k d ≡ get_or xs k d

pub done_none : {X : Type 0} (f : X → X) (d : X) (xs : List X) → Done f d xs xs 0
done_none f d xs = record { long = refl; done = λ k w. absurd (omega arith); rest = λ k w. refl }

pub done_next : {X : Type 0} (f : X → X) (d : X) (xs ys : List X) (n m : ℕ) → Done f d xs ys n → n < length xs → m ≡ n + 1
    → Done f d xs (set ys n (f (get_or ys n d))) m
done_next {X} f d xs ys n m h w next =
    let l = length-set ys n (f (get_or ys n d)) in
    let g = h.long in
    record {
      long = l ∙ g;
      done = λ k v. elim (cases_eq k n) as (λ _. get_or (set ys n (f (get_or ys n d))) k d ≡ f (get_or xs k d)) [
        | inl e ↦ subst (λ (j : ℕ). get_or (set ys n (f (get_or ys n d))) j d ≡ f (get_or xs j d)) (sym e)
            (get_or-set_same ys n (f (get_or ys n d)) d (omega arith) ∙ ap f (h.rest n (omega arith)))
        | inr o ↦ get_or-set_other ys n k (f (get_or ys n d)) d o ∙ h.done k (omega arith)
      ];
      rest = λ k v. get_or-set_other ys n k (f (get_or ys n d)) d (λ (e : k ≡ n). absurd (omega arith)) ∙ h.rest k (omega arith);
    }

pub done_all : {X : Type 0} (f : X → X) (d : X) (xs ys : List X) (n : ℕ) → f d ≡ d → Done f d xs ys n → length xs ≤ n → ys ≡ map f xs
done_all f d xs ys n e h all = is_map f d xs ys e h.long (λ i w. h.done i (omega arith))

pub same_segment : {V : Type 0} (x y : Segment V) → x.depth ≡ y.depth → x.buckets ≡ y.buckets → x ≡ y
same_segment {V} x y d b = ap (λ (n : ℕ). record { depth = n; buckets = x.buckets }) d ∙ ap (λ (bs : List (Bucket V)). record { depth = y.depth; buckets = bs }) b

module _ {V : Type 0} where
  cleared_in : (bs : List (Bucket V)) → entries_in (map staged_only bs) ≡ staged_in (entries_in bs)
  cleared_in [] = refl
  cleared_in (b ∷ bs) = ap (λ xs. staged_in b.entries ++ xs) (cleared_in bs) ∙ sym (filter-append (λ (e : Slot V). e.staged) b.entries (entries_in bs))

  -- what is staged is left, in order
  pub cleared_entries : (ss : List (Segment V)) → flat_map entries_of (map cleared ss) ≡ staged_in (flat_map entries_of ss)
  cleared_entries [] = refl
  cleared_entries (s ∷ ss) =
      ap (λ xs. xs ++ flat_map entries_of (map cleared ss)) (cleared_in s.buckets)
      ∙ ap (λ xs. staged_in (entries_of s) ++ xs) (cleared_entries ss)
      ∙ sym (filter-append (λ (e : Slot V). e.staged) (entries_of s) (flat_map entries_of ss))

  step_hidden : (e : Slot V) (es : List (Slot V)) (t : Bool) → e.staged ≡ t → filter_map visible_of (staged_in es) ≡ [] → filter_map visible_of (staged_in (e ∷ es)) ≡ []
  step_hidden e es true is none =
      ap (λ (b : Bool). filter_map visible_of (cond b (e ∷ staged_in es) (staged_in es))) is
      ∙ ap (λ (b : Bool). cons_option (cond b None (Some (e.key, e.value))) (filter_map visible_of (staged_in es))) is ∙ none
  step_hidden e es false is none = ap (λ (b : Bool). filter_map visible_of (cond b (e ∷ staged_in es) (staged_in es))) is ∙ none

  -- nothing staged is visible
  pub hidden : (es : List (Slot V)) → filter_map visible_of (staged_in es) ≡ []
  hidden [] = refl
  hidden (e ∷ es) = step_hidden e es e.staged refl (hidden es)

  pub cleared_visible : (ss : List (Segment V)) → flat_map (λ (s : Segment V). visible_entries s.buckets) (map cleared ss) ≡ []
  cleared_visible ss = all_visible (map cleared ss) ∙ ap (filter_map visible_of) (cleared_entries ss) ∙ hidden (flat_map entries_of ss)

  cond_empty : (b : Bool) (xs : List (Bytes × V)) → xs ≡ [] → cond b xs [] ≡ []
  cond_empty true xs e = e
  cond_empty false xs e = refl

  cleared_row : (version : ℕ) (bs : List (Bucket V)) → older_entries version (map staged_only bs) ≡ []
  cleared_row version [] = refl
  cleared_row version (b ∷ bs) = ap (λ xs. xs ++ older_entries version (map staged_only bs)) (cond_empty _ (visible_in (staged_only b)) (hidden b.entries)) ∙ cleared_row version bs

  pub cleared_older : (version : ℕ) (ss : List (Segment V)) → flat_map (λ (s : Segment V). older_entries version s.buckets) (map cleared ss) ≡ []
  cleared_older version [] = refl
  cleared_older version (s ∷ ss) = ap (λ xs. xs ++ flat_map (λ (k : Segment V). older_entries version k.buckets) (map cleared ss)) (cleared_row version s.buckets) ∙ cleared_older version ss

  cleared_places : (depth : ℕ) (ss : List (Segment V)) → places_of depth (map cleared ss) ≡ places_of depth ss
  cleared_places depth [] = refl
  cleared_places depth (s ∷ ss) = let e = cleared_places depth ss in omega arith

  cleared_found : (key : Bytes) (s : Segment V) → length (found key (entries_of (cleared s))) ≤ length (found key (entries_of s))
  cleared_found key s =
      subst (λ (xs : List (Slot V)). length (found key xs) ≤ length (found key (entries_of s))) (sym (cleared_in s.buckets))
      (fewer (λ (e : Slot V). e.staged) (has_key key) (entries_of s))

  cleared_current : (version : ℕ) (b : Bucket V) → IsCurrent version b → IsCurrent version (staged_only b)
  cleared_current version b c = record {
    low = c.low;
    fresh = λ o. empty_of (staged_in (staged_in b.entries)) (let f = fewer (λ (e : Slot V). e.staged) (λ (e : Slot V). e.staged) b.entries in let n = ap length (c.fresh o) in omega arith);
  }

  at_cleared : (ss : List (Segment V)) (s : ℕ) → segment_at (map cleared ss) s ≡ cleared (segment_at ss s)
  at_cleared ss s = at_map cleared no_segment ss s refl

  pub cleared_table : (version depth : ℕ) (directory : List ℕ) (ss : List (Segment V)) → IsTable version depth directory ss → IsTable version depth directory (map cleared ss)
  cleared_table version depth directory ss t =
      let l = length-map ss cleared in
      record {
        deep = t.deep;
        whole = t.whole;
        named = λ q w. (let n = t.named q w in omega arith);
        shallow = λ s w. rw (at_cleared ss s) (t.shallow s (omega arith));
        shared = rw (cleared_places depth ss) t.shared;
        homed = λ s key w n. rw (at_cleared ss s) (empty_of _ (let f = cleared_found key (segment_at ss s) in let e = ap length (t.homed s key (omega arith) n) in omega arith));
        once = λ s w key. rw (at_cleared ss s) (let f = cleared_found key (segment_at ss s) in let e = t.once s (omega arith) key in omega arith);
        reached = λ s w. subst (Reached version) (sym (at_cleared ss s)) (λ b h.
            (let m = length-map (segment_at ss s).buckets staged_only in
            subst (IsCurrent version) (sym (at_map staged_only no_bucket (segment_at ss s).buckets b refl))
            (cleared_current version (bucket_at (segment_at ss s).buckets b) (t.reached s (omega arith) b (omega arith)))));
      }
