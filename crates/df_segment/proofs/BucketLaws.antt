-- The tags of a bucket where an entry is added, changed or taken out.
use Rattle.std.proofs.Common.{◌≡◌, ◌≢◌, Bool, true, false, ℕ, zero, suc, ◌+◌, ◌<◌, ◌≤◌, List, [], ◌∷◌, ◌++◌, length, get_or, set, refl, ap, sym, subst, ◌∙◌, arith, inl, inr, length-append}
use Rattle.std.specs.Prelude.{slice_index}
use Rattle.std.specs.List.{remove}
use Rattle.std.proofs.Math.Seq.{get_or-append_seam}
use Rattle.std.proofs.lemmas.List.{length-set, get_or_append_left}
use Rattle.std.proofs.lemmas.Bool.{cases_lt, cases_eq}
use Rattle.df_model.specs.Values.{Bytes}
use Rattle.df_segment.specs.declared.entry.Entry.{Entry}
use Rattle.df_segment.specs.Entries.{Slot, alter, tag_of, has_key, found, flag_at}
use Rattle.df_segment.specs.Buckets.{TagsAgree}
use Rattle.df_segment.proofs.ListLaws.{none_passes}
use Rattle.df_segment.proofs.FlagLaws.{no_flag}

pub false_of : (b : Bool) → (b ≡ true → ⊥) → b ≡ false
false_of false h = refl
false_of true h = absurd (h refl)

module _ {V : Type 0} where
  -- a tag and an entry behind the others
  pub pushed_tags : (tags tags' : List ℕ) (es : List (Entry V)) (e : Entry V) → TagsAgree tags es → length es < 14
      → ((k : ℕ) → k < length es → slice_index tags' k ≡ slice_index tags k) → slice_index tags' (length es) ≡ tag_of e.key
      → TagsAgree tags' (es ++ e ∷ [])
  pushed_tags tags tags' es e t few below own =
      let l = length-append es (e ∷ []) in
      record {
        few = omega arith;
        agree = λ k d w. elim (cases_lt k (length es)) as (λ _. slice_index tags' k ≡ tag_of (get_or (es ++ e ∷ []) k d).key) [
          | inl c ↦ below k c ∙ t.agree k d c ∙ ap (λ (x : Entry V). tag_of x.key) (sym (get_or_append_left es (e ∷ []) d k c))
          | inr c ↦ subst (λ (j : ℕ). slice_index tags' j ≡ tag_of (get_or (es ++ e ∷ []) j d).key) (let s : length es ≡ k = omega arith in s)
              (own ∙ ap (λ (x : Entry V). tag_of x.key) (sym (get_or-append_seam es e [] d)))
        ];
      }

  -- a value written
  pub valued_tags : (tags : List ℕ) (es : List (Entry V)) (i : ℕ) (e : Entry V) (value : V) → TagsAgree tags es → e ≡ get_or es i e
      → i < length es → TagsAgree tags (set es i (record e { value = value }))
  valued_tags tags es i e value t is w =
      let l = length-set es i (record e { value = value }) in
      let few = t.few in
      record {
        few = omega arith;
        agree = λ k d h. t.agree k d (omega arith) ∙ ap tag_of (sym (valued_key es i e value is w k d));
      }
    where
      valued_key : (es : List (Entry V)) (i : ℕ) (e : Entry V) (value : V) → e ≡ get_or es i e → i < length es → (k : ℕ) (d : Entry V)
          → (get_or (set es i (record e { value = value })) k d).key ≡ (get_or es k d).key
      valued_key [] i e value is w k d = absurd (omega arith)
      valued_key (x ∷ es) zero e value is w zero d = ap (λ (y : Entry V). y.key) is
      valued_key (x ∷ es) zero e value is w (suc k) d = refl
      valued_key (x ∷ es) (suc i) e value is w zero d = refl
      valued_key (x ∷ es) (suc i) e value is w (suc k) d = valued_key es i e value is (omega arith) k d

  pub alter_length : (f : Slot V → Slot V) (i : ℕ) (es : List (Slot V)) → length (alter f i es) ≡ length es
  alter_length f i [] = refl
  alter_length f zero (e ∷ es) = refl
  alter_length f (suc i) (e ∷ es) = ap suc (alter_length f i es)

  remove_length : (es : List (Entry V)) (i : ℕ) → i < length es → suc (length (remove es i)) ≡ length es
  remove_length [] i w = absurd (omega arith)
  remove_length (e ∷ es) zero w = refl
  remove_length (e ∷ es) (suc i) w = ap suc (remove_length es i (omega arith))

  remove_below : (es : List (Entry V)) (i k : ℕ) (d : Entry V) → k < i → get_or (remove es i) k d ≡ get_or es k d
  remove_below [] zero k d w = refl
  remove_below [] (suc i) k d w = refl
  remove_below (e ∷ es) zero k d w = absurd (omega arith)
  remove_below (e ∷ es) (suc i) zero d w = refl
  remove_below (e ∷ es) (suc i) (suc k) d w = remove_below es i k d (omega arith)

  remove_behind : (es : List (Entry V)) (i k : ℕ) (d : Entry V) → i < length es → i ≤ k → get_or (remove es i) k d ≡ get_or es (suc k) d
  remove_behind [] i k d w h = absurd (omega arith)
  remove_behind (e ∷ es) zero k d w h = refl
  remove_behind (e ∷ es) (suc i) zero d w h = absurd (omega arith)
  remove_behind (e ∷ es) (suc i) (suc k) d w h = remove_behind es i k d (omega arith) (omega arith)

  pub removed_tags : (tags tags' : List ℕ) (es : List (Entry V)) (i : ℕ) → i < length es → TagsAgree tags es
      → ((k : ℕ) → k < i → slice_index tags' k ≡ slice_index tags k)
      → ((k : ℕ) → i ≤ k → k < 13 → slice_index tags' k ≡ slice_index tags (k + 1))
      → TagsAgree tags' (remove es i)
  removed_tags tags tags' es i w t below behind =
      let l = remove_length es i w in
      let few = t.few in
      record {
        few = omega arith;
        agree = λ k d h. elim (cases_lt k i) as (λ _. slice_index tags' k ≡ tag_of (get_or (remove es i) k d).key) [
          | inl c ↦ below k c ∙ t.agree k d (omega arith) ∙ ap (λ (e : Entry V). tag_of e.key) (sym (remove_below es i k d c))
          | inr c ↦ behind k c (omega arith) ∙ ap (slice_index tags) (add_one k) ∙ t.agree (suc k) d (omega arith) ∙ ap (λ (e : Entry V). tag_of e.key) (sym (remove_behind es i k d w c))
        ];
      }
    where
      add_one : (k : ℕ) → k + 1 ≡ suc k
      add_one k = omega arith

-- where no mark is left, no entry has the key
pub nowhere_marked : {V : Type 0} (left : ℕ) (key : Bytes) (es : List (Slot V)) → left ≡ 0
    → ((k : ℕ) (d : Slot V) → k < length es → has_key key (get_or es k d) ≡ true → flag_at left k ≡ true) → found key es ≡ []
nowhere_marked {V} left key es none all =
    none_passes (has_key key) es
    (λ k d w. false_of _ (λ h. let e : flag_at 0 k ≡ true = ap (λ n. flag_at n k) (sym none) ∙ all k d w h in let f = no_flag k in cc))

-- where a mark is cleared whose entry hasn't the key
pub marked_still : {V : Type 0} (left left' i : ℕ) (key : Bytes) (es : List (Slot V)) → ((d : Slot V) → false ≡ has_key key (get_or es i d))
    → ((k : ℕ) → k < 64 → k ≢ i → flag_at left' k ≡ flag_at left k) → ((k : ℕ) → flag_at left k ≡ true → k < 14)
    → ((k : ℕ) (d : Slot V) → k < length es → has_key key (get_or es k d) ≡ true → flag_at left k ≡ true)
    → (k : ℕ) (d : Slot V) → k < length es → has_key key (get_or es k d) ≡ true → flag_at left' k ≡ true
marked_still {V} left left' i key es off others near all k d w h =
    elim (cases_eq k i) as (λ _. flag_at left' k ≡ true) [
      | inl same ↦ absurd (let e : false ≡ has_key key (get_or es k d) = subst (λ (j : ℕ). false ≡ has_key key (get_or es j d)) (sym same) (off d) in cc)
      | inr other ↦ others k (let n = near k (all k d w h) in omega arith) other ∙ all k d w h
    ]

-- within its length a list has an element at each place
pub item_at : {X : Type 0} (xs : List X) (i : ℕ) → i < length xs → (x : X) × (x ≡ get_or xs i x)
item_at [] i w = absurd (omega arith)
item_at (y ∷ xs) zero w = (y, refl)
item_at (y ∷ xs) (suc i) w = item_at xs i (omega arith)
