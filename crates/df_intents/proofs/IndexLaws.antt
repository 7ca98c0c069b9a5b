-- Laws of the index: what it counts after an ask came or went.
use Rattle.std.proofs.Common.{◌≡◌, ℕ, zero, suc, ◌+◌, ◌-◌, ◌<◌, ◌≤◌, ◌^◌, Bool, true, false, cond, ltb-true, ltb-false, ◌==◌, ◌&&◌, ◌||◌, List, [], ◌∷◌, ◌++◌, length, get_or, take, refl, sym, ap, subst, ◌∙◌, add-one, zero-add, arith}
use Rattle.std.proofs.lemmas.Bool.{eqb-true}
use Rattle.std.specs.Prelude.{Option, nat_eq, nat_lt}
use Rattle.df_model.specs.Values.{Bytes}
use Rattle.df_model.specs.Hash.{fnv64}
use Rattle.df_model.specs.declared.keys.Mode.{Mode}
use Rattle.df_model.specs.declared.keys.Mode.TheVariants.{Shared, Exclusive}
use Rattle.df_footprints.specs.Asks.{Ask, asks_for, clashes_with}
use Rattle.df_intents.specs.Counting.{against, counted, for_all, for_key, has_hash, is_all, is_any, none, opposes, weight}
use Rattle.df_intents.specs.Index.{Counts, count_in, lowered, tallied}
use Rattle.df_intents.specs.declared.count.Count.{Count}
use Rattle.df_intents.specs.declared.index.Index.{Index}
use Rattle.df_intents.specs.declared.index.Tally.{Tally}
use Rattle.df_intents.proofs.AskLaws.{counted-append, counted-le, none_clash, or_assoc, shared-le, some_all}

-- asks that are counted alike are counted by the same index
pub retold : (i : Index) (xs ys : List Ask) → ((t : Option Bytes → Bool) (m : Mode) → counted t m ys ≡ counted t m xs) → Counts i xs → Counts i ys
retold i xs ys alike h = record {
  keys = λ hash m. h.keys hash m ∙ sym (alike (has_hash hash) m);
  alls = λ m. h.alls m ∙ sym (alike is_all m);
  asks = λ m. h.asks m ∙ sym (alike is_any m);
}

-- ---- an ask comes

-- the count u is t with an ask more
pub raised : (t u : Count) (mode : Mode) → (t.exclusive + 1 < 2 ^ 64 → u.exclusive ≡ weight Shared mode + t.exclusive) → (t.any + 1 < 2 ^ 64 → u.any ≡ 1 + t.any) → (m : Mode) → against m t + 1 < 2 ^ 64 → against m u ≡ weight m mode + against m t
raised t u mode shared any Shared lt = shared lt
raised t u mode shared any Exclusive lt = any lt

pub room : (test : Option Bytes → Bool) (m : Mode) (bs : List Ask) (n : ℕ) → n ≡ counted test m bs → length bs + 1 < 2 ^ 64 → n + 1 < 2 ^ 64
room test m bs n is lt = let le = counted-le test m bs in omega (arith, le, is, lt)

-- what the index tells of each hash after an ask for a key
pub keys_entered : (i j : Index) (hash : ℕ) (key : Bytes) (mode : Mode) (u : Count) (bs : List Ask) → hash ≡ fnv64 key → ((q : ℕ) → tallied j q ≡ cond (nat_eq hash q) u (tallied i q))
    → ((m : Mode) → against m (tallied i hash) + 1 < 2 ^ 64 → against m u ≡ weight m mode + against m (tallied i hash))
    → length bs + 1 < 2 ^ 64 → Counts i bs → (q : ℕ) (m : Mode) → against m (tallied j q) ≡ counted (has_hash q) m (for_key key mode ∷ bs)
keys_entered i j hash key mode u bs is puts more lt h q m =
    ap (against m) (puts q) ∙ at (nat_eq hash q) refl ∙ ap (λ x. cond ((x == q) && opposes m mode) 1 0 + counted (has_hash q) m bs) is
  where
    at : (b : Bool) → nat_eq hash q ≡ b → against m (cond b u (tallied i q)) ≡ cond (b && opposes m mode) 1 0 + counted (has_hash q) m bs
    at true t =
        more m (room (has_hash hash) m bs _ (h.keys hash m) lt)
        ∙ ap (λ n. weight m mode + n) (h.keys hash m ∙ ap (λ x. counted (has_hash x) m bs) (eqb-true hash q t))
    at false t = h.keys q m ∙ sym (zero-add (counted (has_hash q) m bs))

-- ---- an ask goes

pub less : (t : Count) (mode m : Mode) (n : ℕ) → against m t ≡ weight m mode + n → against m (lowered mode t) ≡ n
less t mode Shared n e = omega (arith, e)
less t mode Exclusive n e = omega (arith, e)

-- what the index tells of each hash after an ask for a key has gone
pub keys_left : (i j : Index) (hash : ℕ) (key : Bytes) (mode : Mode) (bs : List Ask) → hash ≡ fnv64 key → ((q : ℕ) → tallied j q ≡ cond (nat_eq hash q) (lowered mode (tallied i hash)) (tallied i q))
    → Counts i (for_key key mode ∷ bs) → (q : ℕ) (m : Mode) → against m (tallied j q) ≡ counted (has_hash q) m bs
keys_left i j hash key mode bs is lowers h q m =
    ap (against m) (lowers q) ∙ at (nat_eq hash q) refl (h.keys q m ∙ ap (λ x. cond ((x == q) && opposes m mode) 1 0 + counted (has_hash q) m bs) (sym is))
  where
    at : (b : Bool) → nat_eq hash q ≡ b → against m (tallied i q) ≡ cond (b && opposes m mode) 1 0 + counted (has_hash q) m bs → against m (cond b (lowered mode (tallied i hash)) (tallied i q)) ≡ counted (has_hash q) m bs
    at true t e = less (tallied i hash) mode m (counted (has_hash q) m bs) (ap (λ x. against m (tallied i x)) (eqb-true hash q t) ∙ e)
    at false t e = e ∙ zero-add (counted (has_hash q) m bs)

-- an empty tally that is taken out tells the same
pub keys_removed : (i j : Index) (hash : ℕ) (bs : List Ask) → ((q : ℕ) → tallied j q ≡ cond (nat_eq hash q) none (tallied i q)) → (tallied i hash).any ≡ 0
    → ((q : ℕ) (m : Mode) → against m (tallied i q) ≡ counted (has_hash q) m bs) → (q : ℕ) (m : Mode) → against m (tallied j q) ≡ counted (has_hash q) m bs
keys_removed i j hash bs takes empty h q m = ap (against m) (takes q) ∙ at (nat_eq hash q) m refl
  where
    at : (b : Bool) (m : Mode) → nat_eq hash q ≡ b → against m (cond b none (tallied i q)) ≡ counted (has_hash q) m bs
    at false m t = h q m
    at true Exclusive t = sym empty ∙ h hash Exclusive ∙ ap (λ x. counted (has_hash x) Exclusive bs) (eqb-true hash q t)
    at true Shared t =
        let none_any : 0 ≡ counted (has_hash q) Exclusive bs = sym empty ∙ h hash Exclusive ∙ ap (λ x. counted (has_hash x) Exclusive bs) (eqb-true hash q t) in
        let le = shared-le (has_hash q) bs in
        omega (arith, none_any, le)

pub count_cond : (b : Bool) (o p : Option Tally) → count_in (cond b o p) ≡ cond b (count_in o) (count_in p)
count_cond true o p = refl
count_cond false o p = refl

-- the index once an ask for a key is no longer counted for its hash and among all
pub key_left : (i j : Index) (u : Count) (key : Bytes) (mode : Mode) (bs : List Ask) → j.alls ≡ i.alls → j.asks ≡ i.asks → u.exclusive ≡ j.asks.exclusive - weight Shared mode → u.any ≡ j.asks.any - 1
    → ((q : ℕ) (m : Mode) → against m (tallied j q) ≡ counted (has_hash q) m bs) → Counts i (for_key key mode ∷ bs) → Counts (record { tallies = j.tallies; alls = j.alls; asks = u }) bs
key_left i j u key mode bs alls same shared any keys h = record {
  keys = keys;
  alls = λ m. ap (against m) alls ∙ h.alls m ∙ zero-add (counted is_all m bs);
  asks = λ m. fewer m ∙ less i.asks mode m (counted is_any m bs) (h.asks m);
}
  where
    fewer : (m : Mode) → against m u ≡ against m (lowered mode i.asks)
    fewer Shared = shared ∙ ap (λ t. t.exclusive - weight Shared mode) same
    fewer Exclusive = any ∙ ap (λ t. t.any - 1) same

-- the index once an ask for all keys is no longer counted
pub all_left : (i : Index) (u v : Count) (mode : Mode) (bs : List Ask) → u.exclusive ≡ i.alls.exclusive - weight Shared mode → u.any ≡ i.alls.any - 1 → v.exclusive ≡ i.asks.exclusive - weight Shared mode → v.any ≡ i.asks.any - 1
    → Counts i (for_all mode ∷ bs) → Counts (record { tallies = i.tallies; alls = u; asks = v }) bs
all_left i u v mode bs shared any shared_all any_all h = record {
  keys = λ hash m. h.keys hash m ∙ zero-add (counted (has_hash hash) m bs);
  alls = λ m. fewer u i.alls shared any m ∙ less i.alls mode m (counted is_all m bs) (h.alls m);
  asks = λ m. fewer v i.asks shared_all any_all m ∙ less i.asks mode m (counted is_any m bs) (h.asks m);
}
  where
    fewer : (w t : Count) → w.exclusive ≡ t.exclusive - weight Shared mode → w.any ≡ t.any - 1 → (m : Mode) → against m w ≡ against m (lowered mode t)
    fewer w t shared any Shared = shared
    fewer w t shared any Exclusive = any

-- the index once an ask for all keys is counted
pub all_entered : (i : Index) (u v : Count) (mode : Mode) (bs : List Ask) → (i.alls.exclusive + 1 < 2 ^ 64 → u.exclusive ≡ weight Shared mode + i.alls.exclusive) → (i.alls.any + 1 < 2 ^ 64 → u.any ≡ 1 + i.alls.any)
    → (i.asks.exclusive + 1 < 2 ^ 64 → v.exclusive ≡ weight Shared mode + i.asks.exclusive) → (i.asks.any + 1 < 2 ^ 64 → v.any ≡ 1 + i.asks.any)
    → length bs + 1 < 2 ^ 64 → Counts i bs → Counts (record { tallies = i.tallies; alls = u; asks = v }) (for_all mode ∷ bs)
all_entered i u v mode bs shared any shared_all any_all lt h = record {
  keys = λ hash m. h.keys hash m ∙ sym (zero-add (counted (has_hash hash) m bs));
  alls = λ m. raised i.alls u mode shared any m (room is_all m bs (against m i.alls) (h.alls m) lt) ∙ ap (λ n. weight m mode + n) (h.alls m);
  asks = λ m. raised i.asks v mode shared_all any_all m (room is_any m bs (against m i.asks) (h.asks m) lt) ∙ ap (λ n. weight m mode + n) (h.asks m);
}

-- the index once an ask for a key is counted for its hash and among all
pub key_entered : (i j : Index) (v : Count) (key : Bytes) (mode : Mode) (bs : List Ask) → j.alls ≡ i.alls → j.asks ≡ i.asks → (j.asks.exclusive + 1 < 2 ^ 64 → v.exclusive ≡ weight Shared mode + j.asks.exclusive) → (j.asks.any + 1 < 2 ^ 64 → v.any ≡ 1 + j.asks.any)
    → length bs + 1 < 2 ^ 64 → ((q : ℕ) (m : Mode) → against m (tallied j q) ≡ counted (has_hash q) m (for_key key mode ∷ bs)) → Counts i bs
    → Counts (record { tallies = j.tallies; alls = j.alls; asks = v }) (for_key key mode ∷ bs)
key_entered i j v key mode bs alls same shared any lt keys h = record {
  keys = keys;
  alls = λ m. ap (against m) alls ∙ h.alls m ∙ sym (zero-add (counted is_all m bs));
  asks = λ m. raised j.asks v mode shared any m (room is_any m bs (against m j.asks) (total m) lt) ∙ ap (λ n. weight m mode + n) (total m);
}
  where
    total : (m : Mode) → against m j.asks ≡ counted is_any m bs
    total m = ap (against m) same ∙ h.asks m

-- ---- what the index tells of a further ask

no_alls : (mode : Mode) (more : List (Bytes × Mode)) → counted is_all mode (asks_for more) ≡ 0
no_alls mode [] = refl
no_alls mode (m ∷ more) = zero-add (counted is_all mode (asks_for more)) ∙ no_alls mode more

-- somebody opposes it where an ask for all keys does, or where one with the same hash may and one is found
pub tells_key : (i : Index) (key : Bytes) (mode : Mode) (more : List (Bytes × Mode)) (bs : List Ask) (alls keys : ℕ) (known found : Bool) → Counts i (asks_for more ++ bs)
    → alls ≡ against mode i.alls → keys ≡ against mode (tallied i (fnv64 key)) → found ≡ (nat_lt 0 keys && clashes_with (for_key key mode) bs)
    → (known || (nat_lt 0 alls || found)) ≡ (known || clashes_with (for_key key mode) bs)
tells_key i key mode more bs alls keys true found h is at f = refl
tells_key i key mode more bs alls keys false found h is at f = tells (nat_lt 0 alls) (nat_lt 0 keys) refl refl f
  where
    some_alls : counted is_all mode (asks_for more ++ bs) ≡ counted is_all mode bs
    some_alls = counted-append is_all mode (asks_for more) bs ∙ ap (λ n. n + counted is_all mode bs) (no_alls mode more) ∙ zero-add (counted is_all mode bs)

    tells : (a k : Bool) → nat_lt 0 alls ≡ a → nat_lt 0 keys ≡ k → found ≡ (k && clashes_with (for_key key mode) bs) → (a || found) ≡ clashes_with (for_key key mode) bs
    tells true k s t f =
        let some : 0 < counted is_all mode bs = omega (arith, ltb-true 0 alls s, is, h.alls mode, some_alls) in
        sym (some_all key mode bs some)
    tells false true s t f = f
    tells false false s t f =
        let none_all : counted is_all mode bs ≡ 0 = omega (arith, ltb-false 0 alls s, is, h.alls mode, some_alls) in
        let split = counted-append (has_hash (fnv64 key)) mode (asks_for more) bs in
        let none_key : counted (has_hash (fnv64 key)) mode bs ≡ 0 = omega (arith, ltb-false 0 keys t, at, h.keys (fnv64 key) mode, split) in
        f ∙ sym (none_clash key mode bs none_key none_all)

-- the same where it is known first what the asks for all keys tell
pub tells_known : (i : Index) (key : Bytes) (mode : Mode) (more : List (Bytes × Mode)) (bs : List Ask) (opposed known found : Bool) → Counts i (asks_for more ++ bs)
    → known ≡ (opposed || nat_lt 0 (against mode i.alls)) → found ≡ (nat_lt 0 (against mode (tallied i (fnv64 key))) && clashes_with (for_key key mode) bs)
    → (known || found) ≡ (opposed || clashes_with (for_key key mode) bs)
tells_known i key mode more bs opposed known found h is f =
    ap (λ b. b || found) is
    ∙ or_assoc opposed (nat_lt 0 (against mode i.alls)) found
    ∙ tells_key i key mode more bs (against mode i.alls) (against mode (tallied i (fnv64 key))) opposed found h refl refl f

-- the index once an ask for a key is counted
pub entered : (i j : Index) (t u v : Count) (hash : ℕ) (key : Bytes) (mode : Mode) (bs : List Ask) → t ≡ tallied i hash → hash ≡ fnv64 key → ((q : ℕ) → tallied j q ≡ cond (nat_eq hash q) u (tallied i q)) → j.alls ≡ i.alls → j.asks ≡ i.asks
    → (t.exclusive + 1 < 2 ^ 64 → u.exclusive ≡ weight Shared mode + t.exclusive) → (t.any + 1 < 2 ^ 64 → u.any ≡ 1 + t.any)
    → (j.asks.exclusive + 1 < 2 ^ 64 → v.exclusive ≡ weight Shared mode + j.asks.exclusive) → (j.asks.any + 1 < 2 ^ 64 → v.any ≡ 1 + j.asks.any)
    → length bs + 1 < 2 ^ 64 → Counts i bs → Counts (record { tallies = j.tallies; alls = j.alls; asks = v }) (for_key key mode ∷ bs)
entered i j t u v hash key mode bs is at puts alls asks shared any shared_all any_all lt h =
    key_entered i j v key mode bs alls asks shared_all any_all lt
    (keys_entered i j hash key mode u bs at puts (subst (λ w. (m : Mode) → against m w + 1 < 2 ^ 64 → against m u ≡ weight m mode + against m w) is (raised t u mode shared any)) lt h) h

-- ---- one ask after the other

length_asks : (k : ℕ) (ms : List (Bytes × Mode)) (bs : List Ask) → length (asks_for (take k ms) ++ bs) ≤ k + length bs
length_asks zero ms bs = omega arith
length_asks (suc k) [] bs = omega arith
length_asks (suc k) (m ∷ ms) bs = omega (arith, length_asks k ms bs)

pub room_next : (k : ℕ) (ms : List (Bytes × Mode)) (bs : List Ask) → k < length ms → length bs + length ms < 2 ^ 64 → length (asks_for (take k ms) ++ bs) + 1 < 2 ^ 64
room_next k ms bs within lt = let le = length_asks k ms bs in omega (arith, le, within, lt)

alike_suc : (ms : List (Bytes × Mode)) (k : ℕ) (a : Bytes × Mode) (bs : List Ask) → k < length ms → a ≡ get_or ms k a → (t : Option Bytes → Bool) (m : Mode)
    → counted t m (asks_for (take (suc k) ms) ++ bs) ≡ counted t m (for_key a.0 a.1 ∷ (asks_for (take k ms) ++ bs))
alike_suc [] k a bs lt is t m = absurd (omega (arith, lt))
alike_suc (x ∷ ms) zero a bs lt is t m = ap (λ y. counted t m (for_key y.0 y.1 ∷ bs)) (sym is)
alike_suc (x ∷ ms) (suc k) a bs lt is t m =
    let more = alike_suc ms k a bs (omega (arith, lt)) is t m in
    omega (arith, more)

pub alike_next : (ms : List (Bytes × Mode)) (k : ℕ) (a : Bytes × Mode) (bs : List Ask) → k < length ms → a ≡ get_or ms k a → (t : Option Bytes → Bool) (m : Mode)
    → counted t m (asks_for (take (k + 1) ms) ++ bs) ≡ counted t m (for_key a.0 a.1 ∷ (asks_for (take k ms) ++ bs))
alike_next ms k a bs lt is t m = rw add-one (alike_suc ms k a bs lt is t m)
