-- What is written element by element, or run by run, is written of the whole list.
use Rattle.std.proofs.Common.{◌≡◌, ℕ, zero, suc, ◌+◌, ◌<◌, ◌≤◌, List, [], ◌∷◌, ◌++◌, length, take, drop, get_or, refl, sym, ap, ◌∙◌, append_assoc, append-nil, arith, length-append, drop-cons}
use Rattle.std.proofs.Math.Seq.{drop-append_seam, take-append_seam}
use Rattle.std.proofs.lemmas.List.{drop-drop, length-drop}
use Rattle.std.proofs.lemmas.List.Folds.{flat_map-map}
use Rattle.std.proofs.lemmas.Grind.{flat_map-append}
use Rattle.std.specs.Prelude.{Some, None, slice_get}
use Rattle.std.specs.List.{flat_map}
use Rattle.std.specs.FinMap as fin
use Rattle.df_model.specs.Values.{Bytes, Value, Fields, Members}
use Rattle.df_model.specs.Members as members
use Rattle.df_resp.specs.Appended.{GrowsBy}
use Rattle.df_rdbcore.specs.Written.{short, written_text, written_pair, written_value}
use Rattle.df_colls.specs.Runs.{IsFront}

pub grown_not : (bytes : Bytes) → GrowsBy bytes bytes
grown_not bytes = record { more = []; added = sym (append-nil bytes) }

-- bytes that grew once more
pub grown_on : (old here new more : Bytes) → GrowsBy old here → new ≡ here ++ more → GrowsBy old new
grown_on old here new more g e = record { more = g.more ++ more; added = e ∙ ap (λ z. z ++ more) g.added ∙ append_assoc old g.more more }

pub grown_behind : (old here new : Bytes) → GrowsBy old here → GrowsBy here new → GrowsBy old new
grown_behind old here new g h = grown_on old here new h.more g h.added

pub get_within : (i : ℕ) (xs : List Bytes) → i < length xs → slice_get xs i ≡ None → ⊥
get_within i [] within none = omega arith
get_within zero (x ∷ xs) within none = cc
get_within (suc i) (x ∷ xs) within none = get_within i xs (omega arith) none

pub get_there : (i : ℕ) (xs : List Bytes) (x : Bytes) → slice_get xs i ≡ Some x → x ≡ get_or xs i x
get_there i [] x e = cc
get_there zero (y ∷ xs) x e = cc
get_there (suc i) (y ∷ xs) x e = get_there i xs x e

module _ {A : Type 0} (f : A → Bytes) (xs : List A) where
  -- one more element
  pub told_on : (i : ℕ) (x : A) (bytes new whole : Bytes) → i < length xs → x ≡ get_or xs i x → new ≡ bytes ++ f x → bytes ++ flat_map f (drop i xs) ≡ whole → new ++ flat_map f (drop (i + 1) xs) ≡ whole
  told_on i x bytes new whole lt is e w =
      let plus : suc i ≡ i + 1 = omega arith in
      ap (λ y. y ++ flat_map f (drop (i + 1) xs)) e
      ∙ append_assoc bytes (f x) (flat_map f (drop (i + 1) xs))
      ∙ ap (λ ys. bytes ++ flat_map f ys) (sym (drop-cons xs i x lt ∙ ap (λ y. y ∷ drop (suc i) xs) (sym is) ∙ ap (λ n. x ∷ drop n xs) plus))
      ∙ w

  pub told_all : (i : ℕ) (bytes whole : Bytes) → length xs ≤ i → bytes ++ flat_map f (drop i xs) ≡ whole → bytes ≡ whole
  told_all i bytes whole le w = sym (append-nil bytes) ∙ ap (λ ys. bytes ++ flat_map f ys) (sym (none xs i le)) ∙ w
    where
      none : {B : Type 0} (ys : List B) (i : ℕ) → length ys ≤ i → drop i ys ≡ []
      none [] zero le = refl
      none [] (suc i) le = refl
      none (y ∷ ys) zero le = absurd (omega arith)
      none (y ∷ ys) (suc i) le = none ys i (omega arith)

  -- one more run
  pub run_on : (run : List A) (i : ℕ) (bytes new whole : Bytes) → IsFront (drop i xs) run → new ≡ bytes ++ flat_map f run → bytes ++ flat_map f (drop i xs) ≡ whole → new ++ flat_map f (drop (i + length run) xs) ≡ whole
  run_on run i bytes new whole front e w =
      let rest : drop (i + length run) xs ≡ front.0 = sym (drop-drop (length run) i xs) ∙ ap (drop (length run)) front.1 ∙ drop-append_seam run front.0 in
      ap (λ y. y ++ flat_map f (drop (i + length run) xs)) e
      ∙ append_assoc bytes (flat_map f run) (flat_map f (drop (i + length run) xs))
      ∙ ap (λ ys. bytes ++ (flat_map f run ++ flat_map f ys)) rest
      ∙ ap (λ y. bytes ++ y) (sym (flat_map-append f run front.0))
      ∙ ap (λ ys. bytes ++ flat_map f ys) (sym front.1)
      ∙ w

  pub run_within : (run : List A) (i : ℕ) → i ≤ length xs → IsFront (drop i xs) run → i + length run ≤ length xs
  run_within run i le front = omega (arith, length-drop i xs, ap length front.1, length-append run front.0)

-- ---- an entry

pub entry_whole : (old one two three key rest : Bytes) (k kind : ℕ) → k ≡ kind → one ≡ old ++ k ∷ [] → two ≡ one ++ key → three ≡ two ++ rest → three ≡ old ++ (kind ∷ (key ++ rest))
entry_whole old one two three key rest k kind e p q r =
    r ∙ ap (λ z. z ++ rest) (q ∙ ap (λ z. z ++ key) p) ∙ append_assoc (old ++ k ∷ []) key rest ∙ append_assoc old (k ∷ []) (key ++ rest) ∙ ap (λ z. old ++ (z ∷ (key ++ rest))) e

pub pair_whole : (old one two key rest : Bytes) → one ≡ old ++ key → two ≡ one ++ rest → two ≡ old ++ (key ++ rest)
pair_whole old one two key rest p q = q ∙ ap (λ z. z ++ rest) p ∙ append_assoc old key rest

pub drop_behind : (old new more : Bytes) → new ≡ old ++ more → drop (length old) new ≡ more
drop_behind old new more e = ap (drop (length old)) e ∙ drop-append_seam old more

pub take_front : (old new : Bytes) → GrowsBy old new → take (length old) new ≡ old
take_front old new g = ap (take (length old)) g.added ∙ take-append_seam old g.more

-- ---- a count, and what is still to be written

pub list_starts : (texts : List Bytes) (n : ℕ) (old to : Bytes) → n ≡ length texts → to ≡ old ++ short n → to ++ flat_map written_text texts ≡ old ++ written_value (Value.Elements texts)
list_starts texts n old to l e = ap (λ z. z ++ flat_map written_text texts) (e ∙ ap (λ k. old ++ short k) l) ∙ append_assoc old (short (length texts)) (flat_map written_text texts)

pub set_starts : (m : Members) (n : ℕ) (old to : Bytes) → n ≡ members.len m → to ≡ old ++ short n → to ++ flat_map (λ member. written_text member.0) (fin.entries m) ≡ old ++ written_value (Value.Set m)
set_starts m n old to l e =
    ap (λ z. z ++ flat_map (λ member. written_text member.0) (fin.entries m)) (e ∙ ap (λ k. old ++ short k) l)
    ∙ append_assoc old (short (members.len m)) (flat_map (λ member. written_text member.0) (fin.entries m))
    ∙ ap (λ z. old ++ (short (members.len m) ++ z)) (sym (flat_map-map written_text (λ (member : Bytes × Unit {0}). member.0) (fin.entries m)))

pub hash_starts : (m : Fields) (n : ℕ) (old to : Bytes) → n ≡ fin.len m → to ≡ old ++ short n → to ++ flat_map written_pair (fin.entries m) ≡ old ++ written_value (Value.Hash m)
hash_starts m n old to l e = ap (λ z. z ++ flat_map written_pair (fin.entries m)) (e ∙ ap (λ k. old ++ short k) l) ∙ append_assoc old (short (fin.len m)) (flat_map written_pair (fin.entries m))
