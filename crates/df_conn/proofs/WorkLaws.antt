-- Turns that move come to an end where the link has a limit.
use Rattle.std.proofs.Common.{◌≡◌, inl, inr, ℕ, ◌+◌, ◌*◌, ◌^◌, ◌<◌, ◌≤◌, Bool, true, false, length, ap, subst, arith, rules}
use Rattle.std.specs.Prelude.{Option, Some, None}
use Rattle.df_resp.proofs.FramedLaws.{shorter}
use Rattle.df_outside.specs.Links.{Spends}
use Rattle.df_conn.specs.Turns.{Moves, rank, waiting, Falls, NeverStalls}
use Rattle.df_conn.specs.declared.conn.Stage.{Stage}
use Rattle.df_conn.specs.declared.conn.Stage.TheVariants as stages

rank_below : (x : Stage) → rank x ≤ 2
rank_below stages.Open = omega arith
rank_below stages.Calling = omega arith
rank_below (stages.Closing why) = omega arith
rank_below (stages.Over why) = omega arith

same_left : (a b : ℕ) (x y : Option ℕ) → y ≡ x → x ≡ Some a → y ≡ Some b → a ≡ b
same_left a b x y e p q = search rules

spent_left : (a b n : ℕ) (x y : Option ℕ) → Spends x y n → x ≡ Some a → y ≡ Some b → b + n ≡ a
spent_left a b n x y s p q = subst (λ y. Spends (Some a) y n) q (subst (λ x. Spends x y n) p s)

less_first : (p q w v : ℕ) → p < q → w < 2 ^ 64 → p * 2 ^ 64 + w < q * 2 ^ 64 + v
less_first p q w v lt below = omega (arith, lt, below)

less_last : (p q w v : ℕ) → p ≤ q → w < v → p * 2 ^ 64 + w < q * 2 ^ 64 + v
less_last p q w v le lt = omega (arith, le, lt)

pub falls : Falls
falls old new a b (Moves.called call was now d) before after below =
    less_first ((b * 2 + length new.stream.rest) * 4 + rank new.stage) ((a * 2 + length old.stream.rest) * 4 + rank old.stage) (waiting new) (waiting old)
    (omega (arith, same_left a b old.flow.left new.flow.left (ap (λ f. f.left) d.flow) before after, d.rest, d.lower)) below
falls old new a b (Moves.took words one same) before after below =
    less_first ((b * 2 + length new.stream.rest) * 4 + rank new.stage) ((a * 2 + length old.stream.rest) * 4 + rank old.stage) (waiting new) (waiting old)
    (omega (arith, same_left a b old.flow.left new.flow.left (ap (λ f. f.left) same) before after, shorter old.stream.rest new.stream.rest words one, rank_below new.stage)) below
falls old new a b (Moves.read bytes some taken d) before after below =
    less_first ((b * 2 + length new.stream.rest) * 4 + rank new.stage) ((a * 2 + length old.stream.rest) * 4 + rank old.stage) (waiting new) (waiting old)
    (omega (arith, spent_left a b (length bytes) old.flow.left new.flow.left d.left before after, some, d.rest, rank_below new.stage)) below
falls old new a b (Moves.wrote bytes some written d) before after below =
    let same : a ≡ b = same_left a b old.flow.left new.flow.left d.left before after in
    elim d.less [
      | inl lower ↦ less_first ((b * 2 + length new.stream.rest) * 4 + rank new.stage) ((a * 2 + length old.stream.rest) * 4 + rank old.stage) (waiting new) (waiting old)
          (omega (arith, same, d.rest, lower)) below
      | inr less ↦ less_last ((b * 2 + length new.stream.rest) * 4 + rank new.stage) ((a * 2 + length old.stream.rest) * 4 + rank old.stage) (waiting new) (waiting old)
          (omega (arith, same, d.rest, less.0)) less.1
    ]

told_limit : (a : ℕ) (x : Option ℕ) → x ≡ None → x ≡ Some a → ⊥
told_limit a x p q = search rules

is_due : (b : Bool) → b ≡ false → b ≡ true → ⊥
is_due b p q = search rules

pub never_stalls : NeverStalls
never_stalls old new a (inl s) limit due = told_limit a old.flow.left s.1 limit
never_stalls old new a (inr s) limit due = is_due old.calling.due s.1 due
