-- Laws of a map from numbers to what they hold: a holder that clashes is found by going over it.
use Rattle.std.proofs.Common.{◌≡◌, ℕ, suc, Bool, true, false, cond, List, [], ◌∷◌, refl, sym, ap, ◌∙◌, arith}
use Rattle.std.proofs.lemmas.Bool.{false≢true}
use Rattle.std.specs.Prelude.{Some, None, nat_eq, All}
use Rattle.std.specs.Map.{lookup}
use Rattle.df_model.specs.declared.keys.Keys.{Keys}
use Rattle.df_footprints.specs.Asks.{Ask, asks, clashes_with}
use Rattle.df_intents.specs.Holders.{Holder, keys_of}
use Rattle.df_intents.specs.Counting.{held}
use Rattle.df_intents.specs.Kept.{Once, Tells}
use Rattle.df_intents.proofs.HolderLaws.{clash_none}

-- a look-up finds each of these
abbrev pub AllFound : List (ℕ × Keys) → List (ℕ × Keys) → Type 0
AllFound entries [] = Unit {0}
AllFound entries (e ∷ es) = (lookup (nat_eq e.0) entries ≡ Some e.1) × AllFound entries es

pub all_found : (entries es : List (ℕ × Keys)) → All (λ e. lookup (nat_eq e.0) entries ≡ Some e.1) es → AllFound entries es
all_found entries [] all = tt
all_found entries (e ∷ es) all = (all 0 e (omega arith), all_found entries es (λ k d lt. all (suc k) d (omega (arith, lt))))

-- what clashes is still to come
abbrev pub Left : Ask → List (ℕ × Keys) → List (ℕ × Keys) → Type 0
Left a entries rest = (number : ℕ) (keys : Keys) → lookup (nat_eq number) entries ≡ Some keys → clashes_with a (asks keys) ≡ true → lookup (nat_eq number) rest ≡ Some keys

pub left_next : (a : Ask) (entries rest : List (ℕ × Keys)) (e : ℕ × Keys) (es : List (ℕ × Keys)) → rest ≡ e ∷ es → clashes_with a (asks e.1) ≡ false → Left a entries rest → Left a entries es
left_next a entries rest e es is apart left number keys at clash = after (nat_eq number e.0) (ap (lookup (nat_eq number)) (sym is) ∙ left number keys at clash)
  where
    after : (b : Bool) → cond b (Some e.1) (lookup (nat_eq number) es) ≡ Some keys → lookup (nat_eq number) es ≡ Some keys
    after true e_is = let same : e.1 ≡ keys = cc in absurd (false≢true (sym apart ∙ ap (λ k. clashes_with a (asks k)) same ∙ clash))
    after false e_is = e_is

-- where nothing is left, no holder clashes
pub none_left : (a : Ask) (entries : List (ℕ × Keys)) (hs : List Holder) → Once hs → Tells entries hs → Left a entries [] → clashes_with a (held hs) ≡ false
none_left a entries hs once tells left = clash_none a hs once (λ number keys at. apart number keys at (clashes_with a (asks keys)) refl)
  where
    apart : (number : ℕ) (keys : Keys) → keys_of number hs ≡ Some keys → (b : Bool) → clashes_with a (asks keys) ≡ b → b ≡ false
    apart number keys at false clash = refl
    apart number keys at true clash = let none : None ≡ Some keys = left number keys (tells number ∙ at) clash in cc
