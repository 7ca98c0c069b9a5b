-- Arrays, a reply after another.
use Rattle.std.proofs.Common.{◌≡◌, ℕ, ◌+◌, ◌<◌, ◌≤◌, List, [], ◌∷◌, ◌++◌, length, map, drop, get_or, codes, decimal, refl, sym, ap, ◌∙◌, append_assoc, append-nil, arith, length-append, length-drop}
use Rattle.std.specs.List.{flat_map}
use Rattle.std.proofs.lemmas.List.{drop_more, drop_all, drop-drop, length-map}
use Rattle.std.proofs.lemmas.Grind.{flat_map-append}
use Rattle.df_colls.specs.Runs.{IsFront}
use Rattle.df_model.specs.Values.{Bytes}
use Rattle.df_model.specs.Outcomes.{array, bulks}
use Rattle.df_model.specs.Replies.{crlf, encoding_of}
use Rattle.df_model.specs.declared.reply.Reply.{Reply}
use Rattle.df_model.specs.declared.reply.Reply.TheVariants.{Bulk}
use Rattle.df_model.proofs.EncodingLaws.{array_is}

module _ {A : Type 0} where
  fused : (f : A → Reply) (xs : List A) → flat_map encoding_of (map f xs) ≡ flat_map (λ x. encoding_of (f x)) xs
  fused f [] = refl
  fused f (x ∷ xs) = ap (λ bytes. encoding_of (f x) ++ bytes) (fused f xs)

  -- the line before the replies, and one reply for each element
  pub array_of : (f : A → Reply) (xs : List A) → (codes "*" ++ decimal (length xs) ++ crlf) ++ flat_map (λ x. encoding_of (f x)) xs ≡ encoding_of (array (map f xs))
  array_of f xs =
      ap (λ bytes. (codes "*" ++ decimal (length xs) ++ crlf) ++ bytes) (sym (fused f xs))
      ∙ ap (λ n. (codes "*" ++ decimal n ++ crlf) ++ flat_map encoding_of (map f xs)) (sym (length-map xs f))
      ∙ sym (array_is (map f xs))

  twice : {B : Type 0} (g : A → B) (f : B → Reply) (xs : List A) → map f (map g xs) ≡ map (λ x. f (g x)) xs
  twice g f [] = refl
  twice g f (x ∷ xs) = ap (λ replies. f (g x) ∷ replies) (twice g f xs)

  next : (xs : List A) (i : ℕ) (x : A) → i < length xs → x ≡ get_or xs i x → drop i xs ≡ x ∷ drop (i + 1) xs
  next xs i x h is = drop_more xs i x h ∙ ap (λ y. y ∷ drop (i + 1) xs) (sym is)

  -- one more of them is written
  pub goes_on : (f : A → Bytes) (before after whole : Bytes) (xs : List A) (i : ℕ) (x : A) → i < length xs → x ≡ get_or xs i x → after ≡ before ++ f x → before ++ flat_map f (drop i xs) ≡ whole → after ++ flat_map f (drop (i + 1) xs) ≡ whole
  goes_on f before after whole xs i x h is written so_far =
      ap (λ bytes. bytes ++ flat_map f (drop (i + 1) xs)) written
      ∙ append_assoc before (f x) (flat_map f (drop (i + 1) xs))
      ∙ ap (λ ys. before ++ flat_map f ys) (sym (next xs i x h is))
      ∙ so_far

  -- all of them are written
  pub ends : (f : A → Bytes) (written whole : Bytes) (xs : List A) (i : ℕ) → length xs ≤ i → written ++ flat_map f (drop i xs) ≡ whole → written ≡ whole
  ends f written whole xs i h so_far = sym (append-nil written) ∙ ap (λ ys. written ++ flat_map f ys) (sym (drop_all i xs h)) ∙ so_far

  -- a run of them is written
  pub run_on : (f : A → Bytes) (before after whole : Bytes) (xs run : List A) (at : ℕ) → IsFront (drop at xs) run → after ≡ before ++ flat_map f run → before ++ flat_map f (drop at xs) ≡ whole → after ++ flat_map f (drop (at + length run) xs) ≡ whole
  run_on f before after whole xs run at front written so_far =
      let behind : drop (at + length run) xs ≡ front.0 = sym (drop-drop (length run) at xs) ∙ ap (drop (length run)) front.1 ∙ all_dropped run front.0 in
      ap (λ bytes. bytes ++ flat_map f (drop (at + length run) xs)) written
      ∙ append_assoc before (flat_map f run) (flat_map f (drop (at + length run) xs))
      ∙ ap (λ ys. before ++ (flat_map f run ++ flat_map f ys)) behind
      ∙ ap (λ bytes. before ++ bytes) (sym (flat_map-append f run front.0) ∙ ap (flat_map f) (sym front.1))
      ∙ so_far
    where
      all_dropped : (ys zs : List A) → drop (length ys) (ys ++ zs) ≡ zs
      all_dropped [] zs = refl
      all_dropped (y ∷ ys) zs = all_dropped ys zs

  pub run_within : (xs run : List A) (at : ℕ) → IsFront (drop at xs) run → at ≤ length xs → at + length run ≤ length xs
  run_within xs run at front h = omega (arith, ap length front.1, length-append run front.0, length-drop at xs)

-- bulks of the first parts
pub bulks_of : (entries : List (Bytes × Unit {0})) → (codes "*" ++ decimal (length entries) ++ crlf) ++ flat_map (λ entry. encoding_of (Bulk entry.0)) entries ≡ encoding_of (bulks (map (λ entry. entry.0) entries))
bulks_of entries = array_of (λ entry. Bulk entry.0) entries ∙ ap (λ replies. encoding_of (array replies)) (sym (twice (λ entry. entry.0) Bulk entries))

-- the line before the replies is written
pub begins : (head after rest whole : Bytes) → after ≡ head → head ++ rest ≡ whole → after ++ rest ≡ whole
begins head after rest whole written e = ap (λ bytes. bytes ++ rest) written ∙ e
