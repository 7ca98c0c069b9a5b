use Rattle.std.proofs.Common.{sym, ◌∙◌}
use Rattle.std.specs.FinMap as fin
use Rattle.df_values.specs.Seen.{seen}
use Rattle.df_core.specs.Altered.{same_value}
use Rattle.df_spread.proofs.PointLaws.{firsts_compared}
use Rattle.df_spread.proofs.same.same_value.Goals as goal

pub returns-in-Set-Set : goal.returns-in-Set-Set
returns-in-Set-Set c =
    c.same_sets.ensures
    ∙ sym (firsts_compared (fin.entries c.in-Set-Set.a.members) (fin.entries c.in-Set-Set.b.members))
    ∙ sym (λ i. same_value (seen (c.in-Set-Set.is-0 i)) (seen (c.in-Set-Set.is-1 i)))
