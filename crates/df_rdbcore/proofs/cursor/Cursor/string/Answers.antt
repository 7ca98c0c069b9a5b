use Rattle.std.proofs.Common.{◌≡◌, ℕ, ◌+◌, ◌-◌, ◌∙◌, take, drop, sym, ap, subst, arith, rules, FitsSigned}
use Rattle.std.specs.Int.{w32}
use Rattle.std.proofs.lemmas.Int.{to_z-of_z}
use Rattle.std.specs.Fmt.{signed_decimal}
use Rattle.df_model.specs.Values.{Bytes}
use Rattle.df_rdbcore.specs.Texts.{IsText}
use Rattle.df_rdbcore.specs.Reading.{Stand}
use Rattle.df_rdbcore.proofs.cursor.Cursor.string.Goals as goal

pub returns-in-Ok : goal.returns-in-Ok
returns-in-Ok c =
    let rest : Bytes = c.args.self.now.rest in
    let from_place : ℕ = c.in-Plain.from in
    let n : ℕ = c.in-Plain.n in
    let first : c.as_slice.result.now ≡ rest = c.as_slice.ensures ∙ ap (λ (s : Stand). s.rest) c.self.view_is in
    let second : c.as_slice-in-Plain.result.now ≡ rest = c.as_slice-in-Plain.ensures ∙ ap (λ (s : Stand). s.rest) c.self.view_is in
    let many : from_place + n - from_place ≡ n = omega arith in
    let text : c.in-Ok.text ≡ take n (drop from_place rest) =
    c.in-Ok.ensures ∙ ap (λ k. take k (drop from_place c.as_slice-in-Plain.result.now)) many ∙ ap (λ z. take n (drop from_place z)) second in
    let seen : IsText (take (from_place + n) rest) (take n (drop from_place rest)) = subst (λ z. IsText (take (from_place + n) z) (take n (drop from_place z))) first c.in-Plain.ensures.1 in
    (take (from_place + n) rest, subst (IsText (take (from_place + n) rest)) (sym text) seen, c.take.ensures)

pub returns-in-Ok-from_slice : goal.returns-in-Ok-from_slice
returns-in-Ok-from_slice c =
    let rest : Bytes = c.args.self.now.rest in
    let first : c.as_slice.result.now ≡ rest = c.as_slice.ensures ∙ ap (λ (s : Stand). s.rest) c.self.view_is in
    let fits : FitsSigned w32 c.in-Number.number = search rules in
    let text : c.in-Ok-from_slice.text ≡ signed_decimal c.in-Number.number = c.in-Ok-from_slice.ensures ∙ c.as_bytes.ensures.value ∙ c.format.ensures.text ∙ ap signed_decimal (to_z-of_z w32 c.in-Number.number fits) in
    let seen : IsText (take c.in-Number.used rest) (signed_decimal c.in-Number.number) = subst (λ z. IsText (take c.in-Number.used z) (signed_decimal c.in-Number.number)) first c.in-Number.ensures.1 in
    (take c.in-Number.used rest, subst (IsText (take c.in-Number.used rest)) (sym text) seen, c.take-in-Number.ensures)
