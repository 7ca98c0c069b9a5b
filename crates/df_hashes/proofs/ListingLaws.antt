-- Replies that list entries.
use Rattle.std.proofs.Common.{◌≡◌, ℕ, zero, suc, ◌+◌, ◌<◌, ◌≤◌, List, [], ◌∷◌, ◌++◌, length, drop, get_or, map, codes, decimal, refl, sym, ap, ◌∙◌, append_assoc, append-nil, arith, length-append, drop-cons}
use Rattle.std.proofs.Math.Seq.{drop-append_seam}
use Rattle.std.proofs.lemmas.List.{length-map, drop-drop, length-drop}
use Rattle.std.proofs.lemmas.List.Folds.{flat_map-map}
use Rattle.std.proofs.lemmas.Grind.{flat_map-append}
use Rattle.std.specs.List.{flat_map}
use Rattle.std.specs.FinMap as fin
use Rattle.df_model.specs.Values.{Bytes, Fields}
use Rattle.df_model.specs.Outcomes.{bulks, bulk_or_null}
use Rattle.df_model.specs.Meaning.Hashes.{hmget}
use Rattle.df_model.specs.Replies.{encoding_of, crlf}
use Rattle.df_model.specs.declared.reply.Reply.TheVariants.{Bulk}
use Rattle.df_model.proofs.EncodingLaws.{bulks_is, array_is}
use Rattle.df_colls.specs.Runs.{IsFront}
use Rattle.df_hashes.specs.Parts.{part_row, entry_bytes, bulk_count}
use Rattle.df_hashes.specs.declared.listing.Part.{Part}
use Rattle.df_hashes.specs.declared.listing.Part.TheVariants as parts

-- one more element
pub told_on : {A : Type 0} (f : A → Bytes) (xs : List A) (i : ℕ) (x : A) (pieces new whole : Bytes)
    → i < length xs → x ≡ get_or xs i x → new ≡ pieces ++ f x → pieces ++ flat_map f (drop i xs) ≡ whole → new ++ flat_map f (drop (i + 1) xs) ≡ whole
told_on f xs i x pieces new whole lt is e w =
    let plus : suc i ≡ i + 1 = omega arith in
    ap (λ y. y ++ flat_map f (drop (i + 1) xs)) e
    ∙ append_assoc pieces (f x) (flat_map f (drop (i + 1) xs))
    ∙ ap (λ ys. pieces ++ flat_map f ys) (sym (drop-cons xs i x lt ∙ ap (λ y. y ∷ drop (suc i) xs) (sym is) ∙ ap (λ n. x ∷ drop n xs) plus))
    ∙ w

pub told_all : {A : Type 0} (f : A → Bytes) (xs : List A) (i : ℕ) (pieces whole : Bytes) → length xs ≤ i → pieces ++ flat_map f (drop i xs) ≡ whole → pieces ≡ whole
told_all f xs i pieces whole le w = sym (append-nil pieces) ∙ ap (λ ys. pieces ++ flat_map f ys) (sym (none xs i le)) ∙ w
  where
    none : {A : Type 0} (xs : List A) (i : ℕ) → length xs ≤ i → drop i xs ≡ []
    none [] zero le = refl
    none [] (suc i) le = refl
    none (x ∷ xs) zero le = absurd (omega arith)
    none (x ∷ xs) (suc i) le = none xs i (omega arith)

-- one more run
pub run_on : {A : Type 0} (f : A → Bytes) (xs run : List A) (i : ℕ) (pieces new whole : Bytes)
    → IsFront (drop i xs) run → new ≡ pieces ++ flat_map f run → pieces ++ flat_map f (drop i xs) ≡ whole → new ++ flat_map f (drop (i + length run) xs) ≡ whole
run_on f xs run i pieces new whole front e w =
    let rest : drop (i + length run) xs ≡ front.0 = behind xs i run front.0 front.1 in
    ap (λ y. y ++ flat_map f (drop (i + length run) xs)) e
    ∙ append_assoc pieces (flat_map f run) (flat_map f (drop (i + length run) xs))
    ∙ ap (λ ys. pieces ++ (flat_map f run ++ flat_map f ys)) rest
    ∙ ap (λ y. pieces ++ y) (sym (flat_map-append f run front.0))
    ∙ ap (λ ys. pieces ++ flat_map f ys) (sym front.1)
    ∙ w
  where
    behind : {A : Type 0} (xs : List A) (i : ℕ) (run rest : List A) → drop i xs ≡ run ++ rest → drop (i + length run) xs ≡ rest
    behind xs i run rest e = sym (drop-drop (length run) i xs) ∙ ap (drop (length run)) e ∙ drop-append_seam run rest

pub run_within : {A : Type 0} (xs run : List A) (i : ℕ) → i ≤ length xs → IsFront (drop i xs) run → i + length run ≤ length xs
run_within xs run i le front = omega (arith, length-drop i xs, ap length front.1, length-append run front.0)

-- ---- the whole reply

list_is : (part : Part) (es : List (Bytes × Bytes)) (list : List Bytes) → length list ≡ bulk_count part (length es) → flat_map (λ b. encoding_of (Bulk b)) list ≡ flat_map (entry_bytes part) es
    → encoding_of (bulks list) ≡ (codes "*" ++ decimal (bulk_count part (length es)) ++ crlf) ++ flat_map (entry_bytes part) es
list_is part es list long flat =
    bulks_is list
    ∙ ap (λ n. codes "*" ++ decimal n ++ crlf ++ flat_map (λ b. encoding_of (Bulk b)) list) long
    ∙ ap (λ x. codes "*" ++ decimal (bulk_count part (length es)) ++ crlf ++ x) flat

both_long : (es : List (Bytes × Bytes)) → length (flat_map (λ e. e.0 ∷ e.1 ∷ []) es) ≡ length es + length es
both_long [] = refl
both_long (e ∷ es) = omega (arith, both_long es)

both_flat : (f : Bytes → Bytes) (es : List (Bytes × Bytes)) → flat_map f (flat_map (λ e. e.0 ∷ e.1 ∷ []) es) ≡ flat_map (λ e. f e.0 ++ f e.1) es
both_flat f [] = refl
both_flat f (e ∷ es) = ap (λ x. f e.0 ++ (f e.1 ++ x)) (both_flat f es) ∙ sym (append_assoc (f e.0) (f e.1) (flat_map (λ e. f e.0 ++ f e.1) es))

pub part_is : (part : Part) (m : Fields) → encoding_of (part_row part m) ≡ (codes "*" ++ decimal (bulk_count part (fin.len m)) ++ crlf) ++ flat_map (entry_bytes part) (fin.entries m)
part_is part m = by part ∙ ap (λ n. (codes "*" ++ decimal (bulk_count part n) ++ crlf) ++ flat_map (entry_bytes part) (fin.entries m)) (sym (fin.len-entries m))
  where
    by : (part : Part) → encoding_of (part_row part m) ≡ (codes "*" ++ decimal (bulk_count part (length (fin.entries m))) ++ crlf) ++ flat_map (entry_bytes part) (fin.entries m)
    by parts.Fields = list_is parts.Fields (fin.entries m) (fin.keys m) (length-map (fin.entries m) (λ e. e.0)) (flat_map-map (λ b. encoding_of (Bulk b)) (λ e. e.0) (fin.entries m))
    by parts.Words = list_is parts.Words (fin.entries m) (fin.values m) (length-map (fin.entries m) (λ e. e.1)) (flat_map-map (λ b. encoding_of (Bulk b)) (λ e. e.1) (fin.entries m))
    by parts.Both = list_is parts.Both (fin.entries m) _ (both_long (fin.entries m)) (both_flat (λ b. encoding_of (Bulk b)) (fin.entries m))

pub mget_is : (ws : List Bytes) (m : Fields) → encoding_of (hmget ws m) ≡ (codes "*" ++ decimal (length ws) ++ crlf) ++ flat_map (λ w. encoding_of (bulk_or_null (fin.get m w))) ws
mget_is ws m =
    array_is (map (λ w. bulk_or_null (fin.get m w)) ws)
    ∙ ap (λ n. codes "*" ++ decimal n ++ crlf ++ flat_map encoding_of (map (λ w. bulk_or_null (fin.get m w)) ws)) (length-map ws (λ w. bulk_or_null (fin.get m w)))
    ∙ ap (λ x. codes "*" ++ decimal (length ws) ++ crlf ++ x) (flat_map-map encoding_of (λ w. bulk_or_null (fin.get m w)) ws)
