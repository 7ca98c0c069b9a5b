-- Laws of asks: how many there are, and when the counts tell that none clashes.
use Rattle.std.proofs.Common.{◌≡◌, ℕ, ◌+◌, ◌<◌, ◌≤◌, Bool, true, false, cond, ◌==◌, ◌&&◌, ◌||◌, List, [], ◌∷◌, ◌++◌, length, refl, sym, ap, subst, ◌∙◌, add_assoc, zero-add, arith}
use Rattle.std.proofs.lemmas.Bool.{eq-eqb, false≢true}
use Rattle.std.proofs.lemmas.Bool.Decides.{Decides-eqb}
use Rattle.std.proofs.lemmas.Slice.Eq.{slice_eq-Decides}
use Rattle.std.specs.Prelude.{Option, Some, None, nat_lt}
use Rattle.df_model.specs.Values.{Bytes}
use Rattle.df_model.specs.Words.{same}
use Rattle.df_model.specs.Hash.{fnv64}
use Rattle.df_model.specs.declared.keys.Mode.{Mode}
use Rattle.df_model.specs.declared.keys.Mode.TheVariants.{Shared, Exclusive}
use Rattle.df_footprints.specs.Asks.{Ask, clash, clashes_with, is_exclusive, overlap, some_clash}
use Rattle.df_intents.specs.Counting.{counted, counts, for_all, for_key, has_hash, is_all, is_any, opposes}

-- ---- counts

pub counted-append : (t : Option Bytes → Bool) (m : Mode) (xs ys : List Ask) → counted t m (xs ++ ys) ≡ counted t m xs + counted t m ys
counted-append t m [] ys = sym (zero-add (counted t m ys))
counted-append t m (x ∷ xs) ys =
    ap (λ n. cond (counts t m x) 1 0 + n) (counted-append t m xs ys) ∙ sym (add_assoc (cond (counts t m x) 1 0) (counted t m xs) (counted t m ys))

one_at_most : (b : Bool) → cond b 1 0 ≤ 1
one_at_most true = omega arith
one_at_most false = omega arith

pub counted-le : (t : Option Bytes → Bool) (m : Mode) (xs : List Ask) → counted t m xs ≤ length xs
counted-le t m [] = omega arith
counted-le t m (x ∷ xs) = omega (arith, one_at_most (counts t m x), counted-le t m xs)

-- every ask is counted
pub counted_any : (xs : List Ask) → counted is_any Exclusive xs ≡ length xs
counted_any [] = refl
counted_any (x ∷ xs) = let more = counted_any xs in omega (arith, more)

shared_at_most : (b c : Bool) → cond (b && (false || c)) 1 0 ≤ cond (b && (true || c)) 1 0
shared_at_most true true = omega arith
shared_at_most true false = omega arith
shared_at_most false c = omega arith

-- those to write are among all
pub shared-le : (t : Option Bytes → Bool) (xs : List Ask) → counted t Shared xs ≤ counted t Exclusive xs
shared-le t [] = omega arith
shared-le t (x ∷ xs) = omega (arith, shared_at_most (t x.key) (is_exclusive x.mode), shared-le t xs)

-- ---- clashes

or_true : (b : Bool) → (b || true) ≡ true
or_true true = refl
or_true false = refl

pub or_assoc : (a b c : Bool) → ((a || b) || c) ≡ (a || (b || c))
or_assoc true b c = refl
or_assoc false b c = refl

-- an ask for all keys clashes where anything opposes its mode
pub all_clash : (m : Mode) (bs : List Ask) → nat_lt 0 (counted is_any m bs) ≡ clashes_with (for_all m) bs
all_clash m [] = refl
all_clash m (b ∷ bs) = first (opposes m b.mode) (all_clash m bs)
  where
    first : (o : Bool) → nat_lt 0 (counted is_any m bs) ≡ clashes_with (for_all m) bs → nat_lt 0 (cond o 1 0 + counted is_any m bs) ≡ (o || clashes_with (for_all m) bs)
    first true e = grind arith
    first false e = ap (nat_lt 0) (zero-add _) ∙ e

-- an ask for all keys that opposes the mode clashes with an ask for one of them
pub some_all : (key : Bytes) (m : Mode) (bs : List Ask) → 0 < counted is_all m bs → clashes_with (for_key key m) bs ≡ true
some_all key m [] lt = absurd (omega arith)
some_all key m (b ∷ bs) lt = first b.key lt (some_all key m bs)
  where
    over : (o : Bool) (n : ℕ) (rest : Bool) → 0 < cond o 1 0 + n → (0 < n → rest ≡ true) → (o || rest) ≡ true
    over true n rest lt more = refl
    over false n rest lt more = more (omega (arith, lt))

    first : (k : Option Bytes) → 0 < cond (counts is_all m (record { key = k; mode = b.mode })) 1 0 + counted is_all m bs → (0 < counted is_all m bs → clashes_with (for_key key m) bs ≡ true)
        → (clash (for_key key m) (record { key = k; mode = b.mode }) || clashes_with (for_key key m) bs) ≡ true
    first None lt more = over (opposes m b.mode) (counted is_all m bs) (clashes_with (for_key key m) bs) lt more
    first (Some k) lt more = ap (λ r. (same key k && opposes m b.mode) || r) (more (omega (arith, lt))) ∙ or_true (same key k && opposes m b.mode)

-- what is in the way of an ask for one key is in the way of one for all
pub none_all : (key : Bytes) (m : Mode) (bs : List Ask) → clashes_with (for_all m) bs ≡ false → clashes_with (for_key key m) bs ≡ false
none_all key m [] e = refl
none_all key m (b ∷ bs) e = first b.key (opposes m b.mode) refl e (none_all key m bs)
  where
    apart : (s : Bool) → (s && false) ≡ false
    apart true = refl
    apart false = refl

    first : (k : Option Bytes) (o : Bool) → opposes m b.mode ≡ o → (o || clashes_with (for_all m) bs) ≡ false → (clashes_with (for_all m) bs ≡ false → clashes_with (for_key key m) bs ≡ false)
        → ((overlap (Some key) k && o) || clashes_with (for_key key m) bs) ≡ false
    first k true t e more = absurd (false≢true (sym e))
    first k false t e more = ap (λ r. r || clashes_with (for_key key m) bs) (apart (overlap (Some key) k)) ∙ more e

same_is : (key other : Bytes) → same key other ≡ true → key ≡ other
same_is key other e = (slice_eq-Decides Decides-eqb key other (same key other) refl).0 e

-- where no ask for a key with the same hash and none for all keys opposes the mode, none clashes
pub none_clash : (key : Bytes) (m : Mode) (bs : List Ask) → counted (has_hash (fnv64 key)) m bs ≡ 0 → counted is_all m bs ≡ 0 → clashes_with (for_key key m) bs ≡ false
none_clash key m [] e f = refl
none_clash key m (b ∷ bs) e f = first b.key e f (none_clash key m bs)
  where
    over : (o : Bool) (n : ℕ) (others : Bool) → cond o 1 0 + n ≡ 0 → others ≡ false → (o || others) ≡ false
    over true n others e h = absurd (omega (arith, e))
    over false n others e h = h

    apart : (s o : Bool) (k : Bytes) (n : ℕ) (others : Bool) → same key k ≡ s → cond (fnv64 k == fnv64 key && o) 1 0 + n ≡ 0 → others ≡ false → ((s && o) || others) ≡ false
    apart false o k n others is e h = h
    apart true o k n others is e h =
        over o n others (subst (λ b. cond (b && o) 1 0 + n ≡ 0) (eq-eqb (fnv64 k) (fnv64 key) (ap fnv64 (sym (same_is key k is)))) e) h

    first : (k : Option Bytes) → cond (counts (has_hash (fnv64 key)) m (record { key = k; mode = b.mode })) 1 0 + counted (has_hash (fnv64 key)) m bs ≡ 0
        → cond (counts is_all m (record { key = k; mode = b.mode })) 1 0 + counted is_all m bs ≡ 0
        → (counted (has_hash (fnv64 key)) m bs ≡ 0 → counted is_all m bs ≡ 0 → clashes_with (for_key key m) bs ≡ false)
        → (clash (for_key key m) (record { key = k; mode = b.mode }) || clashes_with (for_key key m) bs) ≡ false
    first None e f more = over (opposes m b.mode) (counted is_all m bs) (clashes_with (for_key key m) bs) f (more (omega (arith, e)) (omega (arith, f)))
    first (Some k) e f more =
        apart (same key k) (opposes m b.mode) k (counted (has_hash (fnv64 key)) m bs) (clashes_with (for_key key m) bs) refl e (more (omega (arith, e)) (omega (arith, f)))

pub clashes-append : (a : Ask) (bs cs : List Ask) → clashes_with a (bs ++ cs) ≡ (clashes_with a bs || clashes_with a cs)
clashes-append a [] cs = refl
clashes-append a (b ∷ bs) cs = ap (λ r. clash a b || r) (clashes-append a bs cs) ∙ sym (or_assoc (clash a b) (clashes_with a bs) (clashes_with a cs))

or_swap : (p q r s : Bool) → ((p || q) || (r || s)) ≡ ((p || r) || (q || s))
or_swap true q r s = refl
or_swap false true r s = sym (or_true r)
or_swap false false r s = refl

pub some-append : (xs bs cs : List Ask) → some_clash xs (bs ++ cs) ≡ (some_clash xs bs || some_clash xs cs)
some-append [] bs cs = refl
some-append (a ∷ xs) bs cs =
    ap (λ r. clashes_with a (bs ++ cs) || r) (some-append xs bs cs)
    ∙ ap (λ r. r || (some_clash xs bs || some_clash xs cs)) (clashes-append a bs cs)
    ∙ or_swap (clashes_with a bs) (clashes_with a cs) (some_clash xs bs) (some_clash xs cs)

pub none_held : (xs : List Ask) → some_clash xs [] ≡ false
none_held [] = refl
none_held (a ∷ xs) = none_held xs
