-- Small lemmas on tests, lists and draws.
use Rattle.std.proofs.Common.{◌≡◌, ◌≢◌, ℕ, ◌<◌, Bool, true, false, ◌&&◌, eqb, List, ◌++◌, refl, sym, ap, ◌∙◌, arith, eqb-true}
use Rattle.std.specs.Prelude.{Option, Some, None, if◌then◌else◌}
use Rattle.std.proofs.lemmas.Bool.{false≢true}
use Rattle.df_order.specs.Puts.{put}
use Rattle.df_book.specs.Weights.{hit}
use Rattle.df_book.specs.Draws.{draws_of}
use Rattle.df_book.specs.declared.draw.Draw.{Draw}
use Rattle.df_book.proofs.Sums.{total-append}

pub not-both : {b : Bool} → b ≡ true → b ≡ false → ⊥
not-both t f = absurd (false≢true (sym f ∙ t))

pub and-false : (a b : Bool) → (a && (b && false)) ≡ false
and-false true true = refl
and-false true false = refl
and-false false b = refl

pub some-of : {X : Type 0} (o : Option X) → o ≢ None → (x : X) × (o ≡ Some x)
some-of None n = absurd (n refl)
some-of (Some x) n = (x, refl)

abbrev pub value-or : {X : Type 0} → X → Option X → X
value-or d None = d
value-or d (Some x) = x

pub some-same : {X : Type 0} (x y : X) → ◌≡◌ {A = Option X} (Some x) (Some y) → x ≡ y
some-same x y e = ap (value-or x) e

abbrev pub is-none : {X : Type 0} → Option X → Bool
is-none None = true
is-none (Some x) = false

pub none-some : {X : Type 0} (x : X) → ◌≡◌ {A = Option X} None (Some x) → ⊥
none-some x e = absurd (false≢true (sym (ap is-none e)))

pub known-right : (known more : List Draw) (n : ℕ) → 0 < draws_of n more → 0 < draws_of n (known ++ more)
known-right known more n h = omega (arith, h, total-append (λ (d : Draw). hit n d.number) known more)

-- what stands at a number stays so
pub put-same : {X : Type 0} (n : ℕ) (f : ℕ → X) → put n (f n) f ≡ f
put-same n f = λ j m. stays m (eqb m n) refl j
  where
    stays : (m : ℕ) (b : Bool) → eqb m n ≡ b → (if b then f n else f m) ≡ f m
    stays m true is = ap f (sym (eqb-true m n is))
    stays m false is = refl
