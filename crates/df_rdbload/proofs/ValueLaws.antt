-- Values by their kinds, and parts by their first bytes.
use Rattle.std.proofs.Common.{◌≡◌, ℕ, zero, suc, ◌<◌, ◌≤◌, inl, inr, Bool, true, false, List, ◌++◌, length, refl, sym, subst, arith}
use Rattle.std.specs.Bool.{OnTrue, OnFalse}
use Rattle.df_model.specs.Values.{Bytes}
use Rattle.df_rdbcore.specs.Texts.{IsLength}
use Rattle.df_rdbcore.specs.Parts.{InTurn, Counted}
use Rattle.df_rdbcore.specs.declared.fault.LoadFault.{LoadFault}
use Rattle.df_rdbload.specs.Stops.{CountStops, ElementsStop, ValueStops}
use Rattle.df_rdbload.specs.FileStops.{HoldsKey, IsMark, PassedStops}
use Rattle.df_rdbload.specs.Sources.{HasCause}
use Rattle.df_rdbload.specs.Entries.{Refuses}

pub counted_of : {A : Type 0} (P : Bytes → A → Type 0) (form more : Bytes) (n : ℕ) (xs : List A) → IsLength form n → InTurn P more xs → length xs ≡ n → Counted P (form ++ more) xs
counted_of P form more n xs p q l = record { first = form; rest = more; first_is = subst (IsLength form) (sym l) p; rest_is = q; whole = refl }

pub count_stops : (kind begin size at : ℕ) (rest : Bytes) (fault : LoadFault) → HoldsKey kind → (kind ≡ 0 → ⊥) → CountStops begin size at rest fault → ValueStops kind begin size at rest fault
count_stops kind begin size at rest fault (inl k) isnt h = absurd (isnt k)
count_stops kind begin size at rest fault (inr (inl k)) isnt h = ValueStops.Elements k (ElementsStop.Count h)
count_stops kind begin size at rest fault (inr (inr (inl k))) isnt h = ValueStops.Set k (ElementsStop.Count h)
count_stops kind begin size at rest fault (inr (inr (inr k))) isnt h = ValueStops.Hash k (ElementsStop.Count h)

pub is_four : (kind : ℕ) → HoldsKey kind → (kind ≡ 0 → ⊥) → (kind ≡ 1 → ⊥) → (kind ≡ 2 → ⊥) → kind ≡ 4
is_four kind (inl k) a b c = absurd (a k)
is_four kind (inr (inl k)) a b c = absurd (b k)
is_four kind (inr (inr (inl k))) a b c = absurd (c k)
is_four kind (inr (inr (inr k))) a b c = k

pub low_holds : (first : ℕ) → first < 3 → HoldsKey first
low_holds zero h = inl refl
low_holds (suc zero) h = inr (inl refl)
low_holds (suc (suc zero)) h = inr (inr (inl refl))
low_holds (suc (suc (suc n))) h = absurd (omega arith)

pub on_true : (b : Bool) (P : Type 0) → (b ≡ true → P) → OnTrue b P
on_true true P p = p refl
on_true false P p = tt

pub on_false : (b : Bool) (P : Type 0) → (b ≡ false → P) → OnFalse b P
on_false true P p = tt
on_false false P p = p refl

pub no_high : (first : ℕ) → 3 ≤ first → (first ≡ 4 → ⊥) → HoldsKey first → ⊥
no_high first h isnt (inl k) = omega arith
no_high first h isnt (inr (inl k)) = omega arith
no_high first h isnt (inr (inr (inl k))) = omega arith
no_high first h isnt (inr (inr (inr k))) = isnt k

-- a part that isn't read
pub refuses : (first begin size at : ℕ) (rest : Bytes) (fault : LoadFault) → (HoldsKey first → ⊥) → (IsMark first → ⊥) → Refuses first begin fault → PassedStops first begin size at rest fault
refuses first begin size at rest fault no_key no_mark (inl (u, e)) = PassedStops.Unread u e
refuses first begin size at rest fault no_key no_mark (inr (u, e)) = PassedStops.Unknown no_key u no_mark e

pub refuses_caused : (first begin n m : ℕ) (fault : LoadFault) → Refuses first begin fault → HasCause fault n m
refuses_caused first begin n m fault (inl (u, e)) = subst (λ f. HasCause f n m) (sym e) tt
refuses_caused first begin n m fault (inr (u, e)) = subst (λ f. HasCause f n m) (sym e) tt

pub no_mark : (first : ℕ) → (first ≡ 250 → ⊥) → (first ≡ 251 → ⊥) → (first ≡ 254 → ⊥) → (first ≡ 255 → ⊥) → IsMark first → ⊥
no_mark first a b c d (inl k) = a k
no_mark first a b c d (inr (inl k)) = b k
no_mark first a b c d (inr (inr (inl k))) = c k
no_mark first a b c d (inr (inr (inr k))) = d k

pub some_of : (n k : ℕ) → 0 < n → k ≡ n → 0 < k
some_of n k some e = subst (λ z. 0 < z) (sym e) some

pub at_true : (b : Bool) (P : Type 0) → b ≡ true → OnTrue b P → P
at_true true P e p = p
at_true false P e p = cc

pub at_false : (b : Bool) (P : Type 0) → b ≡ false → OnFalse b P → P
at_false true P e p = cc
at_false false P e p = p
