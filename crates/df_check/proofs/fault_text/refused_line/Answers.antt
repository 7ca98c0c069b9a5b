use Rattle.std.proofs.Common.{◌≡◌, ◌++◌, ◌∷◌, [], codes, string_bytes, subst, ◌∙◌}
use Rattle.std.specs.Prelude.{IfOk}
use Rattle.std.specs.Fmt.{decimal}
use Rattle.df_check.proofs.fault_text.refused_line.Goals as goal

pub returns : goal.returns
returns c =
    let kind = c.as_str.ensures.value ∙ c.in_ok-kind.ensures in
    subst (λ t. IfOk c.format.result (λ line. string_bytes line ≡ t)) (λ i. codes "load refused: " ++ (kind i ++ (codes " at " ++ (decimal (c.place_in.ensures i) ++ 10 ∷ [])))) c.format.ensures.ok
