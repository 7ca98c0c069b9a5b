-- Shares: halves make the whole, and two together are as much as both.
use Rattle.std.proofs.Common.{◌≡◌, ℕ, zero, suc, ◌+◌, ◌-◌, ◌<◌, ◌≤◌, refl, ap, ap₂, ◌∙◌, arith}
use Rattle.df_shardqueue.specs.Shares.{doubled, Share, half, together, units, IsAll}

pub doubled_add : (a b k : ℕ) → doubled (a + b) k ≡ doubled a k + doubled b k
doubled_add a b zero = refl
doubled_add a b (suc k) = let e = doubled_add a b k in omega (arith, e)

pub doubled_twice : (a k l : ℕ) → doubled (doubled a k) l ≡ doubled a (k + l)
doubled_twice a k zero = let here : k ≡ k + 0 = omega arith in ap (doubled a) here
doubled_twice a k (suc l) = let e = doubled_twice a k l in let next : suc (k + l) ≡ k + suc l = omega arith in let here : doubled a (suc (k + l)) ≡ doubled a (k + suc l) = ap (doubled a) next in omega (arith, e, here)

pub doubled_none : (k : ℕ) → doubled 0 k ≡ 0
doubled_none zero = refl
doubled_none (suc k) = let e = doubled_none k in omega (arith, e)

pub doubled_some : (a k : ℕ) → 0 < a → 0 < doubled a k
doubled_some a zero has = has
doubled_some a (suc k) has = let e = doubled_some a k has in omega (arith, e)

-- nothing in units is nothing
pub none_of : (a k : ℕ) → doubled a k ≡ 0 → a ≡ 0
none_of a zero e = e
none_of a (suc k) e = none_of a k (omega (arith, e))

pub units_suc : (depth : ℕ) (s : Share) → s.cuts ≤ depth → units (suc depth) s ≡ units depth s + units depth s
units_suc depth s deep = ap (doubled s.part) (let e : suc depth - s.cuts ≡ suc (depth - s.cuts) = omega (arith, deep) in e)

pub units_half : (depth : ℕ) (s : Share) → units (suc depth) (half s) ≡ units depth s
units_half depth s = ap (doubled s.part) (let e : suc depth - suc s.cuts ≡ depth - s.cuts = omega arith in e)

pub units_together : (depth : ℕ) (s t : Share) → s.cuts ≤ depth → t.cuts ≤ depth → units depth (together s t) ≡ units depth s + units depth t
units_together depth s t ds dt =
    let rest = depth - (s.cuts + (t.cuts - s.cuts)) in
    let left : doubled (doubled s.part (t.cuts - s.cuts)) rest ≡ units depth s = doubled_twice s.part (t.cuts - s.cuts) rest ∙ ap (doubled s.part) (let e : (t.cuts - s.cuts) + (depth - (s.cuts + (t.cuts - s.cuts))) ≡ depth - s.cuts = omega (arith, ds, dt) in e) in
    let right : doubled (doubled t.part (s.cuts - t.cuts)) rest ≡ units depth t = doubled_twice t.part (s.cuts - t.cuts) rest ∙ ap (doubled t.part) (let e : (s.cuts - t.cuts) + (depth - (s.cuts + (t.cuts - s.cuts))) ≡ depth - t.cuts = omega (arith, ds, dt) in e) in
    doubled_add (doubled s.part (t.cuts - s.cuts)) (doubled t.part (s.cuts - t.cuts)) rest ∙ ap₂ (λ (a b : ℕ). a + b) left right

pub together_deep : (depth : ℕ) (s t : Share) → s.cuts ≤ depth → t.cuts ≤ depth → (together s t).cuts ≤ depth
together_deep depth s t ds dt = omega (arith, ds, dt)

pub together_some : (s t : Share) → 0 < s.part → 0 < (together s t).part
together_some s t has = let e = doubled_some s.part (t.cuts - s.cuts) has in omega (arith, e)

-- all of it, in units
pub units_all : (depth : ℕ) (s : Share) → s.cuts ≤ depth → IsAll s → units depth s ≡ doubled 1 depth
units_all depth s deep all = ap (λ p. doubled p (depth - s.cuts)) all ∙ doubled_twice 1 s.cuts (depth - s.cuts) ∙ ap (doubled 1) (let e : s.cuts + (depth - s.cuts) ≡ depth = omega (arith, deep) in e)
