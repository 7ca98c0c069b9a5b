use Rattle.std.proofs.Common.{◌≡◌, ℕ, zero, suc, ◌<◌, List, [], ◌∷◌, ◌++◌, drop, length, refl, ◌∙◌, arith}
use Rattle.std.specs.Prelude.{Some, None, slice_get}
use Rattle.std.specs.FinMap as map
use Rattle.df_colls.specs.Runs.{IsFront}
use Rattle.df_colls.proofs.entries.Entries.at.Goals as goal

module _ {A : Type 0} where
  first_is : (x y : A) (xs ys : List A) → x ∷ xs ≡ y ∷ ys → Some y ≡ Some x
  first_is x y xs ys e = cc

  front_none : (run rest : List A) → [] ≡ run ++ rest → slice_get run 0 ≡ None
  front_none [] rest e = refl
  front_none (y ∷ run) rest e = cc

  front_first : (all run : List A) (i : ℕ) → IsFront (drop i all) run → (i < length all → 0 < length run) → slice_get run 0 ≡ slice_get all i
  front_first [] run zero front goes = front_none run front.0 front.1
  front_first [] run (suc i) front goes = front_none run front.0 front.1
  front_first (x ∷ all) [] zero front goes = let some = goes (omega arith) in absurd (omega (arith, some))
  front_first (x ∷ all) (y ∷ run) zero front goes = first_is x y all (run ++ front.0) front.1
  front_first (x ∷ all) run (suc i) front goes = front_first all run i front (λ lt. goes (omega arith))

pub returns : goal.returns
returns g c =
    c.first.ensures.value
    ∙ front_first (map.entries c.args.self.now.contents) c.run.result.now c.args.i c.run.ensures.front (λ lt. c.run.ensures.goes_on (omega (arith, lt, map.len-entries c.args.self.now.contents)))
