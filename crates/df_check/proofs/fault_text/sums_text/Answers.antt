use Rattle.std.proofs.Common.{◌≡◌, ◌++◌, codes, string_bytes, ap, subst, ◌∙◌}
use Rattle.std.specs.Prelude.{IfOk}
use Rattle.hex.specs.Hex.{encode_lower}
use Rattle.df_check.proofs.fault_text.sums_text.Goals as goal

pub returns : goal.returns
returns c =
    let first = c.as_str.ensures.value ∙ c.in_ok-stored.ensures ∙ ap encode_lower c.to_be_bytes.ensures in
    let second = c.as_str-2.ensures.value ∙ c.in_ok-computed.ensures ∙ ap encode_lower c.to_be_bytes-2.ensures in
    subst (λ t. IfOk c.format.result (λ text. string_bytes text ≡ t)) (λ i. codes "BadChecksum(" ++ (first i ++ (codes ", " ++ (second i ++ codes ")")))) c.format.ensures.ok
