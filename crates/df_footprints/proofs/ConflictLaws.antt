-- Asks that do not conflict keep off each other's keys.
use Rattle.std.proofs.Common.{◌≡◌, ◌⊎◌, inl, inr, Bool, true, false, List, [], ◌∷◌, refl, sym, ap, ◌∙◌}
use Rattle.std.specs.Prelude.{Option, Some, None, ◌||◌, ◌&&◌}
use Rattle.std.proofs.lemmas.Bool.{false≢true, and_parts, or_parts, or_left, or_right, or_cases}
use Rattle.std.proofs.Math.Bool.{or_comm}
use Rattle.df_model.specs.Values.{Bytes}
use Rattle.df_model.specs.Words.{same}
use Rattle.df_model.specs.declared.keys.Keys.{Keys}
use Rattle.df_footprints.specs.Asks.{Ask, asks, is_exclusive, overlap, clash, clashes_with, some_clash, conflicts, touches, writes}
use Rattle.df_footprints.proofs.ModesLaws.{same_key, same_comm}

-- ---- conflicts are the same from both sides

overlap_comm : (a b : Option Bytes) → overlap a b ≡ overlap b a
overlap_comm None None = refl
overlap_comm None (Some q) = refl
overlap_comm (Some k) None = refl
overlap_comm (Some k) (Some q) = same_comm k q

clash_comm : (a b : Ask) → clash a b ≡ clash b a
clash_comm a b =
    ap (λ o. o && (is_exclusive a.mode || is_exclusive b.mode)) (overlap_comm a.key b.key)
    ∙ ap (λ m. overlap b.key a.key && m) (or_comm (is_exclusive a.mode) (is_exclusive b.mode))

regroup : (a b c d : Bool) → ((a || b) || (c || d)) ≡ ((a || c) || (b || d))
regroup true b true d = refl
regroup true b false d = refl
regroup false true true d = refl
regroup false true false d = refl
regroup false false true d = refl
regroup false false false d = refl

none_clash : (ls : List Ask) → some_clash ls [] ≡ false
none_clash [] = refl
none_clash (b ∷ ls) = none_clash ls

some_clash-more : (ls : List Ask) (a : Ask) (ks : List Ask) → some_clash ls (a ∷ ks) ≡ (clashes_with a ls || some_clash ls ks)
some_clash-more [] a ks = refl
some_clash-more (b ∷ ls) a ks =
    ap (λ c. (clash b a || clashes_with b ks) || c) (some_clash-more ls a ks)
    ∙ regroup (clash b a) (clashes_with b ks) (clashes_with a ls) (some_clash ls ks)
    ∙ ap (λ c. (c || clashes_with a ls) || (clashes_with b ks || some_clash ls ks)) (clash_comm b a)

some_clash_comm : (ks ls : List Ask) → some_clash ks ls ≡ some_clash ls ks
some_clash_comm [] ls = sym (none_clash ls)
some_clash_comm (a ∷ ks) ls = ap (λ c. clashes_with a ls || c) (some_clash_comm ks ls) ∙ sym (some_clash-more ls a ks)

-- the one conflicts with the other where the other does with the one
pub conflicts_comm : (k l : Keys) → conflicts k l ≡ conflicts l k
conflicts_comm k l = some_clash_comm (asks k) (asks l)

-- ---- a key that the one is to write isn't asked for by the other

overlap_apart : (a b : Option Bytes) (key : Bytes) → overlap a (Some key) ≡ true → overlap a b ≡ false →
    overlap b (Some key) ≡ false
overlap_apart None b key i e = cc
overlap_apart (Some k) None key i e = cc
overlap_apart (Some k) (Some q) key i e = same_comm q key ∙ ap (λ n. same n q) (sym (same_key k key i)) ∙ e

untouched_by : (a : Ask) (ls : List Ask) (key : Bytes) → is_exclusive a.mode ≡ true → overlap a.key (Some key) ≡ true →
    clashes_with a ls ≡ false → touches ls key ≡ false
untouched_by a [] key x i e = refl
untouched_by a (b ∷ ls) key x i e =
    let both : (clash a b ≡ false) × (clashes_with a ls ≡ false) = or_parts (clash a b) (clashes_with a ls) e in
    let apart : overlap a.key b.key ≡ false = go (overlap a.key b.key) (is_exclusive a.mode) (is_exclusive b.mode) x both.0 in
    ap (λ c. c || touches ls key) (overlap_apart a.key b.key key i apart) ∙ untouched_by a ls key x i both.1
  where
    go : (o m n : Bool) → m ≡ true → (o && (m || n)) ≡ false → o ≡ false
    go true true n x e = e
    go true false n x e = absurd (false≢true x)
    go false m n x e = refl

untouched : (ks ls : List Ask) (key : Bytes) → some_clash ks ls ≡ false → writes ks key ≡ true → touches ls key ≡ false
untouched [] ls key e w = cc
untouched (a ∷ ks) ls key e w = go (or_cases (is_exclusive a.mode && overlap a.key (Some key)) (writes ks key) w) (untouched ks ls key)
  where
    both : (clashes_with a ls ≡ false) × (some_clash ks ls ≡ false)
    both = or_parts (clashes_with a ls) (some_clash ks ls) e

    go : ((is_exclusive a.mode && overlap a.key (Some key)) ≡ true) ⊎ (writes ks key ≡ true) →
        (some_clash ks ls ≡ false → writes ks key ≡ true → touches ls key ≡ false) → touches ls key ≡ false
    go (inl i) more =
        let is : (is_exclusive a.mode ≡ true) × (overlap a.key (Some key) ≡ true) = and_parts (is_exclusive a.mode) (overlap a.key (Some key)) i in
        untouched_by a ls key is.0 is.1 both.0
    go (inr i) more = more both.1 i

-- of what two calls ask for
pub left_alone : (k l : Keys) (key : Bytes) → conflicts k l ≡ false → writes (asks k) key ≡ true → touches (asks l) key ≡ false
left_alone k l key e w = untouched (asks k) (asks l) key e w

-- a key that may be written may be looked at
pub writes-touches : (ks : List Ask) (key : Bytes) → writes ks key ≡ true → touches ks key ≡ true
writes-touches [] key w = w
writes-touches (a ∷ ks) key w = go (or_cases (is_exclusive a.mode && overlap a.key (Some key)) (writes ks key) w) (writes-touches ks key)
  where
    go : ((is_exclusive a.mode && overlap a.key (Some key)) ≡ true) ⊎ (writes ks key ≡ true) →
        (writes ks key ≡ true → touches ks key ≡ true) → (overlap a.key (Some key) || touches ks key) ≡ true
    go (inl i) more = or_left (overlap a.key (Some key)) (touches ks key) (and_parts (is_exclusive a.mode) (overlap a.key (Some key)) i).1
    go (inr i) more = or_right (overlap a.key (Some key)) (touches ks key) (more i)
