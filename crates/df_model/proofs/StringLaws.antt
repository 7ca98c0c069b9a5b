-- Bytes that are written over others.
use borrow.Rule.Slice.PartMut.{put_mid, Post-is}
use Rattle.std.proofs.Common.{◌≡◌, ℕ, ◌+◌, ◌-◌, ◌≤◌, [], ◌++◌, length, take, drop, replicate, sym, ap, ◌∙◌, append_assoc, append-nil, arith, length-append, ◌⊎◌, inl, inr}
use Rattle.std.proofs.lemmas.List.{take_all, drop_all, length-replicate, length-take}
use Rattle.df_model.specs.Values.{Bytes}
use Rattle.df_model.specs.Meaning.Strings.{overwritten}

abbrev pub zeros : ℕ → Bytes
zeros n = replicate n 0

no_zeros : (at : ℕ) (old : Bytes) → at ≤ length old → zeros (at - length old) ≡ []
no_zeros at old h = let none : at - length old ≡ 0 = omega arith in ap zeros none

-- what is filled up to a place and then cut there
filled-short : (at : ℕ) (old : Bytes) → at ≤ length old → take at (old ++ zeros (at - length old)) ≡ take at old
filled-short at old h = ap (λ x. take at (old ++ x)) (no_zeros at old h) ∙ ap (take at) (append-nil old)

-- is the same cut first and then filled up
filled : (at : ℕ) (old : Bytes) → (at ≤ length old) ⊎ (length old ≤ at) → take at (old ++ zeros (at - length old)) ≡ take at old ++ zeros (at - length old)
filled at old (inl h) = filled-short at old h ∙ sym (append-nil (take at old)) ∙ ap (λ x. take at old ++ x) (sym (no_zeros at old h))
filled at old (inr h) =
    let whole : length (old ++ zeros (at - length old)) ≤ at = omega (arith, length-append old (zeros (at - length old)), length-replicate {A = ℕ} (at - length old) 0) in
    take_all at (old ++ zeros (at - length old)) whole ∙ ap (λ front. front ++ zeros (at - length old)) (sym (take_all at old h))

either : (a b : ℕ) → (a ≤ b) ⊎ (b ≤ a)
either a b = grind arith

pub overwritten_within : (at : ℕ) (new old placed : Bytes) → placed ≡ new → at + length new ≤ length old → put_mid at (at + length new - at) old placed ≡ overwritten at new old
overwritten_within at new old placed same h =
    let short : at ≤ length old = omega arith in
    let behind : at ≤ at + length new = omega arith in
    ap (λ x. put_mid at (at + length new - at) old x) same
    ∙ ap (λ x. take at old ++ (new ++ x)) (Post-is at (at + length new) old behind)
    ∙ sym (append_assoc (take at old) new (drop (at + length new) old))
    ∙ ap (λ x. (x ++ new) ++ drop (at + length new) old) (sym (filled-short at old short))

pub overwritten_past : (at : ℕ) (new old cut written : Bytes) → length old ≤ at + length new → cut ≡ take at old ++ zeros (at - length old) → written ≡ cut ++ new → written ≡ overwritten at new old
overwritten_past at new old cut written h is_cut is_written =
    is_written
    ∙ ap (λ x. x ++ new) (is_cut ∙ sym (filled at old (either at (length old))))
    ∙ sym (append-nil (take at (old ++ zeros (at - length old)) ++ new))
    ∙ ap (λ x. (take at (old ++ zeros (at - length old)) ++ new) ++ x) (sym (drop_all (at + length new) old h))

-- a front that is cut, filled up to its length and written behind
still_missing : (at : ℕ) (old : Bytes) → (at ≤ length old) ⊎ (length old ≤ at) → at - length (take at old) ≡ at - length old
still_missing at old (inl h) = let cut : length (take at old) ≡ at = grind (arith, length-take at old) in omega (arith, cut)
still_missing at old (inr h) = ap (λ x. at - length x) (take_all at old h)

pub overwritten_parts : (at : ℕ) (new old front padded joined all : Bytes) → front ≡ take at old → padded ≡ front ++ zeros (at - length front) → joined ≡ padded ++ new → all ≡ joined ++ drop (at + length new) old → all ≡ overwritten at new old
overwritten_parts at new old front padded joined all is_front is_padded is_joined is_all =
    is_all
    ∙ ap (λ x. x ++ drop (at + length new) old) is_joined
    ∙ ap (λ x. (x ++ new) ++ drop (at + length new) old)
    (is_padded ∙ ap (λ x. x ++ zeros (at - length x)) is_front
    ∙ ap (λ n. take at old ++ zeros n) (still_missing at old (either at (length old)))
    ∙ sym (filled at old (either at (length old))))
