-- A list from which what fails a test is taken out, element by element.
use Rattle.std.proofs.Common.{◌≡◌, ℕ, ◌+◌, ◌<◌, ◌≤◌, List, [], ◌∷◌, ◌++◌, length, get_or, Bool, true, false, refl, ap, sym, ◌∙◌, arith, append_assoc, length-append, append-nil}
use Rattle.std.specs.List.{filter, remove}
use Rattle.std.proofs.lemmas.List.Elements.{filter-append}
use Rattle.std.proofs.Math.Seq.{get_or-append_seam}
use Rattle.df_segment.specs.Changes.{Changes}
use Rattle.df_segment.proofs.ListLaws.{empty_of}
use Rattle.df_segment.proofs.PartLaws.{remove_seam, filter_le}

-- what has been looked at, and what is to come
pub record Kept {X : Type 0} (p : X → Bool) (old now : List X) (k at : ℕ) : Type 0 where
  pub done : List X
  pub left : List X
  pub old_is : old ≡ done ++ left
  pub now_is : now ≡ filter p done ++ left
  pub k_is : k ≡ length done
  pub at_is : at ≡ length (filter p done)

pub record NextKept {X : Type 0} (p : X → Bool) (old now : List X) (k at : ℕ) : Type 0 where
  pub e : X
  pub rest : List X
  pub done : List X
  pub old_is : old ≡ done ++ e ∷ rest
  pub now_is : now ≡ filter p done ++ e ∷ rest
  pub k_is : k ≡ length done
  pub at_is : at ≡ length (filter p done)

module _ {X : Type 0} (p : X → Bool) (old : List X) where
  pub kept_none : Kept p old old 0 0
  kept_none = record { done = []; left = old; old_is = refl; now_is = refl; k_is = refl; at_is = refl }

  next_kept_by : (now : List X) (k at : ℕ) (done left : List X) → old ≡ done ++ left → now ≡ filter p done ++ left
      → k ≡ length done → at ≡ length (filter p done) → k < length old → NextKept p old now k at
  next_kept_by now k at done [] old_is now_is k_is at_is w = absurd (let a = ap length (old_is ∙ append-nil done) in omega arith)
  next_kept_by now k at done (e ∷ rest) old_is now_is k_is at_is w =
      record { e = e; rest = rest; done = done; old_is = old_is; now_is = now_is; k_is = k_is; at_is = at_is }

  pub kept_next : (now : List X) (k at : ℕ) → Kept p old now k at → k < length old → NextKept p old now k at
  kept_next now k at d w = next_kept_by now k at d.done d.left d.old_is d.now_is d.k_is d.at_is w

  -- after the last element
  pub kept_all : (now : List X) (k at : ℕ) → Kept p old now k at → length old ≤ k → now ≡ filter p old
  kept_all now k at d end =
      let l = ap length d.old_is in
      let m = length-append d.done d.left in
      let none : d.left ≡ [] = empty_of d.left (let a = d.k_is in omega arith) in
      let whole : old ≡ d.done = d.old_is ∙ ap (λ zs. d.done ++ zs) none ∙ append-nil d.done in
      d.now_is ∙ ap (λ zs. filter p d.done ++ zs) none ∙ append-nil (filter p d.done) ∙ ap (filter p) (sym whole)

module _ {X : Type 0} (p : X → Bool) (old now : List X) (k at : ℕ) (n : NextKept p old now k at) where
  pub kept_within : at < length now
  kept_within =
      let a = ap length n.now_is in
      let b = length-append (filter p n.done) (n.e ∷ n.rest) in
      let c = n.at_is in omega arith

  pub kept_here : (d : X) → get_or now at d ≡ n.e
  kept_here d =
      ap (λ (zs : List X). get_or zs at d) n.now_is
      ∙ ap (λ j. get_or (filter p n.done ++ n.e ∷ n.rest) j d) n.at_is
      ∙ get_or-append_seam (filter p n.done) n.e n.rest d

  pub kept_small : at ≤ k
  kept_small = let a = filter_le p n.done in let b = n.at_is in let c = n.k_is in omega arith

  pub kept_goes : (now' : List X) (at' : ℕ) → p n.e ≡ false → now' ≡ remove now at → at' ≡ at → Kept p old now' (k + 1) at'
  kept_goes now' at' off to same = record {
    done = n.done ++ n.e ∷ [];
    left = n.rest;
    old_is = n.old_is ∙ sym (append_assoc n.done (n.e ∷ []) n.rest);
    now_is =
        to ∙ ap (λ (zs : List X). remove zs at) n.now_is
        ∙ ap (λ j. remove (filter p n.done ++ n.e ∷ n.rest) j) n.at_is
        ∙ remove_seam (filter p n.done) n.e n.rest
        ∙ ap (λ zs. zs ++ n.rest) (sym stays);
    k_is = (let a = length-append n.done (n.e ∷ []) in let b = n.k_is in omega arith);
    at_is = same ∙ n.at_is ∙ ap length (sym stays);
  }
    where
      none : filter p (n.e ∷ []) ≡ []
      none = rw off refl

      stays : filter p (n.done ++ n.e ∷ []) ≡ filter p n.done
      stays = filter-append p n.done (n.e ∷ []) ∙ ap (λ zs. filter p n.done ++ zs) none ∙ append-nil (filter p n.done)

  pub kept_stays : (now' : List X) (at' : ℕ) → p n.e ≡ true → now' ≡ now → at' ≡ at + 1 → Kept p old now' (k + 1) at'
  kept_stays now' at' on same to = record {
    done = n.done ++ n.e ∷ [];
    left = n.rest;
    old_is = n.old_is ∙ sym (append_assoc n.done (n.e ∷ []) n.rest);
    now_is = same ∙ n.now_is ∙ sym (append_assoc (filter p n.done) (n.e ∷ []) n.rest) ∙ ap (λ zs. zs ++ n.rest) (sym stays);
    k_is = (let a = length-append n.done (n.e ∷ []) in let b = n.k_is in omega arith);
    at_is = (let a = ap length stays in let b = length-append (filter p n.done) (n.e ∷ []) in let c = n.at_is in omega arith);
  }
    where
      one : filter p (n.e ∷ []) ≡ n.e ∷ []
      one = rw on refl

      stays : filter p (n.done ++ n.e ∷ []) ≡ filter p n.done ++ n.e ∷ []
      stays = filter-append p n.done (n.e ∷ []) ∙ ap (λ zs. filter p n.done ++ zs) one

-- two filters keep no more than one
fewer_by : {X : Type 0} (p q : X → Bool) (x : X) (xs : List X) (s t : Bool) → p x ≡ s → q x ≡ t
    → length (filter q (filter p xs)) ≤ length (filter q xs) → length (filter q (filter p (x ∷ xs))) ≤ length (filter q (x ∷ xs))
fewer_by p q x xs true true s t h = rw s (rw t (omega arith))
fewer_by p q x xs true false s t h = rw s (rw t h)
fewer_by p q x xs false true s t h = rw s (rw t (omega arith))
fewer_by p q x xs false false s t h = rw s (rw t h)

pub fewer : {X : Type 0} (p q : X → Bool) (xs : List X) → length (filter q (filter p xs)) ≤ length (filter q xs)
fewer p q [] = omega arith
fewer p q (x ∷ xs) = fewer_by p q x xs (p x) (q x) refl refl (fewer p q xs)

-- a whole list replaced
pub whole_change : {X : Type 0} (xs ys : List X) → Changes xs ys xs ys
whole_change xs ys = record { before = []; behind = []; old_is = sym (append-nil xs); new_is = sym (append-nil ys) }
