-- The words met so far, in a set or compared with one another.
use Rattle.std.proofs.Common.{◌≡◌, ℕ, Bool, Result, Ok, Err, List, [], ◌∷◌, length, drop, map, sym, ap, subst, ◌∙◌}
use Rattle.std.proofs.Math.Seq.{drop-length}
use Rattle.std.specs.Prelude.{Option, Some, IfOk, ◌||◌, nat_eq}
use Rattle.std.specs.Ordering.{eq_by_cmp}
use Rattle.std.specs.Cmp.Lexicographic.{pointwise, texts_ties}
use Rattle.std.specs.FinMap as fin
use Rattle.df_model.specs.Values.{Bytes}
use Rattle.df_model.specs.declared.bin.NoMemory.{NoMemory}
use Rattle.df_colls.specs.Roomy.{order, RoomyMembers}
use Rattle.df_colls.proofs.CountLaws.{none_met, put_has}
use Rattle.df_hashes.specs.Counts.{has, Knows}

pub knows_none : (set : RoomyMembers) → set.members ≡ fin.empty → Knows (Some set) []
knows_none set e = λ q. ap (λ m. fin.contains_key m q) e ∙ none_met q

pub knows_more : (old new : RoomyMembers) (w : Bytes) (ws : List Bytes) → Knows (Some old) ws → new.members ≡ fin.insert old.members w tt → Knows (Some new) (w ∷ ws)
knows_more old new w ws k e = λ q. ap (λ m. fin.contains_key m q) e ∙ put_has old.members w tt q ∙ ap (λ b. eq_by_cmp order q w || b) (k q)

pub knows_end : {A : Type 0} (f : A → Bytes) (met : Option RoomyMembers) (xs : List A) (i : ℕ) → i ≡ length xs → Knows met [] → Knows met (map f (drop i xs))
knows_end f met xs i e k = subst (λ ys. Knows met (map f ys)) (sym (ap (λ n. drop n xs) e ∙ drop-length xs)) k

pub met_again : (r : Result Bool NoMemory) (met : Option RoomyMembers) (old new : RoomyMembers) (w : Bytes) (ws : List Bytes)
    → met ≡ Some old → Knows met ws → IfOk r (λ again. (again ≡ fin.contains_key old.members w) × (new.members ≡ fin.insert old.members w tt)) → IfOk r (λ again. (again ≡ has ws w) × Knows (Some new) (w ∷ ws))
met_again (Ok again) met old new w ws is k h =
    let known : Knows (Some old) ws = subst (λ o. Knows o ws) is k in
    (h.0 ∙ known w, knows_more old new w ws known h.1)
met_again (Err e) met old new w ws is k h = tt

-- the words from the one in front on
pub knows_before : (met : Option RoomyMembers) (w : Bytes) (behind later all : List Bytes) → behind ≡ later → all ≡ w ∷ later → Knows met (w ∷ behind) → Knows met all
knows_before met w behind later all b a k = subst (Knows met) (ap (λ ws. w ∷ ws) b ∙ sym a) k

-- ---- comparing

pub compared : (w x : Bytes) (t : Bool) (ws rest : List Bytes) (b : Bool) → t ≡ pointwise nat_eq w x → rest ≡ x ∷ ws → has rest w ≡ b → (t || has ws w) ≡ b
compared w x t ws rest b e r h = ap (λ y. y || has ws w) (e ∙ texts_ties w x) ∙ sym (ap (λ y. has y w) r) ∙ h
