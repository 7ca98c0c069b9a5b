-- Words of a command line, one after the other.
use Rattle.std.proofs.Common.{◌≡◌, ℕ, ◌-◌, ◌<◌, ◌≤◌, List, [], ◌∷◌, length, length-drop, get_or, take, drop, map, codes, sym, ap, subst, arith}
use Rattle.std.proofs.lemmas.Grind.{common_steps}
use Rattle.std.specs.Prelude.{Option, Some, None, MatchOption}
use Rattle.df_model.specs.Values.{Bytes}
use Rattle.df_check.specs.Lines.{IsCheck, IsFileName, NamesFile}

pub words_cons : {A : Type 0} (f : A → Bytes) (xs : List A) (x : A) → 1 ≤ length xs → x ≡ get_or xs 0 x → map f xs ≡ f x ∷ map f (drop 1 xs)
words_cons f [] x some is = absurd (omega (arith, some))
words_cons f (y ∷ ys) x some is = ap (λ z. f z ∷ map f ys) (sym is)

take_whole : {A : Type 0} (n : ℕ) (xs : List A) → length xs ≤ n → take n xs ≡ xs
take_whole n xs le = grind (arith, common_steps)

-- all behind the first
pub rest_whole : {A : Type 0} (xs : List A) → take (length xs - 1) (drop 1 xs) ≡ drop 1 xs
rest_whole xs = take_whole (length xs - 1) (drop 1 xs) (omega (arith, length-drop 1 xs))

pub words_two : {A : Type 0} (f : A → Bytes) (xs : List A) (x y : A) → 2 ≤ length xs → length xs < 3 → x ≡ get_or xs 0 x → y ≡ get_or xs 1 y → map f xs ≡ f x ∷ f y ∷ []
words_two f [] x y some few is next = absurd (omega (arith, some))
words_two f (a ∷ []) x y some few is next = absurd (omega (arith, some))
words_two f (a ∷ b ∷ []) x y some few is next = let e = is in let n = next in cc
words_two f (a ∷ b ∷ c ∷ more) x y some few is next = absurd (omega (arith, few))

pub check_of : {X : Type 0} (now : X → Bytes) (found : Option X) (word : Bytes) (words : List Bytes) → word ≡ codes "check" → MatchOption found ((name : Bytes) → ¬ (NamesFile words name)) (λ x. NamesFile words (now x)) →
    MatchOption found ((name : Bytes) → ¬ (IsCheck (word ∷ words) name)) (λ x. IsCheck (word ∷ words) (now x))
check_of now None word words is none = λ name names. none name names.1
check_of now (Some x) word words is names = (is, names)

pub file_pair : {X : Type 0} (now : X → Bytes) (found : Option X) (word next : Bytes) → word ≡ codes "--" → MatchOption found (¬ (IsFileName next)) (λ x. IsFileName next × (now x ≡ next)) →
    MatchOption found ((name : Bytes) → ¬ (NamesFile (word ∷ next ∷ []) name)) (λ x. NamesFile (word ∷ next ∷ []) (now x))
file_pair now None word next is none = λ name names. none (subst IsFileName (sym names.1) names.2)
file_pair now (Some x) word next is found = (is, sym found.1, subst IsFileName (sym found.1) found.0)
