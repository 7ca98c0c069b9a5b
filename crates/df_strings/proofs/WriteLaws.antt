-- Bytes that are written where they stand already.
use borrow.Rule.Slice.PartMut.{mid_of, put_same}
use Rattle.std.proofs.Common.{◌≡◌, ℕ, ◌+◌, ◌-◌, ◌≤◌, length, refl, sym, ap, ◌∙◌, arith}
use Rattle.std.proofs.lemmas.Slice.{between-put_mid}
use Rattle.df_model.specs.Values.{Bytes}
use Rattle.df_model.specs.Meaning.Strings.{overwritten}
use Rattle.df_model.proofs.StringLaws.{overwritten_within}

pub stands : (at : ℕ) (new old : Bytes) → at + length new ≤ length old → mid_of at (at + length new - at) old ≡ new → overwritten at new old ≡ old
stands at new old h same =
    sym (overwritten_within at new old (mid_of at (at + length new - at) old) same h) ∙ put_same at (at + length new - at) old

pub stood : (at : ℕ) (new old : Bytes) → at + length new ≤ length old → overwritten at new old ≡ old → mid_of at (at + length new - at) old ≡ new
stood at new old h same =
    let short : at ≤ length old = omega arith in
    let long : length new ≡ at + length new - at = omega arith in
    ap (mid_of at (at + length new - at)) (sym same ∙ sym (overwritten_within at new old new refl h))
    ∙ between-put_mid at (at + length new - at) old new (at + length new) short long
