-- Names that are gone through one after another: how many match, and what is written of them.
use Rattle.std.proofs.Common.{◌≡◌, ℕ, ◌+◌, Bool, true, false, cond, List, [], ◌∷◌, ◌++◌, map, length, drop, get_or, sym, ap, ◌∙◌, append_assoc, arith}
use Rattle.std.specs.Prelude.{Some, slice_get}
use Rattle.std.specs.List.{filter, flat_map}
use Rattle.std.proofs.lemmas.List.{drop_more}
use Rattle.std.proofs.lemmas.Option.{slice_get_within, slice_get-get_or}
use Rattle.df_model.specs.Values.{Bytes}
use Rattle.df_model.specs.Replies.{encoding_of}
use Rattle.df_model.specs.declared.reply.Reply.TheVariants.{Bulk}

abbrev written : List Bytes → Bytes
written names = flat_map encoding_of (map Bulk names)

module _ (p : Bytes → Bool) (xs : List Bytes) (i : ℕ) (x : Bytes) (here : slice_get xs i ≡ Some x) where
  next : drop i xs ≡ x ∷ drop (i + 1) xs
  next =
      let lt = slice_get_within xs i x here in
      let get : Some (get_or xs i []) ≡ Some x = sym (slice_get-get_or xs i [] lt) ∙ here in
      let is : get_or xs i [] ≡ x = cc in
      drop_more xs i [] lt ∙ ap (λ y. y ∷ drop (i + 1) xs) is

  abbrev left : Bool → List Bytes
  left b = cond b (x ∷ filter p (drop (i + 1) xs)) (filter p (drop (i + 1) xs))

  this : (b : Bool) → p x ≡ b → filter p (drop i xs) ≡ left b
  this b e = ap (filter p) next ∙ ap left e

  pub counts-match : (n all : ℕ) → p x ≡ true → n + length (filter p (drop i xs)) ≡ all → (n + 1) + length (filter p (drop (i + 1) xs)) ≡ all
  counts-match n all passes e = omega (arith, ap length (this true passes), e)

  pub counts-other : (n all : ℕ) → p x ≡ false → n + length (filter p (drop i xs)) ≡ all → n + length (filter p (drop (i + 1) xs)) ≡ all
  counts-other n all fails e = ap (λ l. n + length l) (sym (this false fails)) ∙ e

  pub writes-match : (old new all : Bytes) → p x ≡ true → new ≡ old ++ encoding_of (Bulk x) → old ++ written (filter p (drop i xs)) ≡ all →
      new ++ written (filter p (drop (i + 1) xs)) ≡ all
  writes-match old new all passes added e =
      ap (λ b. b ++ written (filter p (drop (i + 1) xs))) added
      ∙ append_assoc old (encoding_of (Bulk x)) (written (filter p (drop (i + 1) xs)))
      ∙ ap (λ l. old ++ written l) (sym (this true passes)) ∙ e

  pub writes-other : (old all : Bytes) → p x ≡ false → old ++ written (filter p (drop i xs)) ≡ all →
      old ++ written (filter p (drop (i + 1) xs)) ≡ all
  writes-other old all fails e = ap (λ l. old ++ written l) (sym (this false fails)) ∙ e
