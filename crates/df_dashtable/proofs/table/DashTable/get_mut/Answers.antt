use Rattle.std.proofs.Common.{refl, sym, ◌∙◌}
use Rattle.df_dashtable.proofs.SpotLaws.{hidden_at, valued_at}
use Rattle.df_dashtable.proofs.KeyLaws.{touched_newer}
use Rattle.df_dashtable.proofs.table.DashTable.get_mut.Goals as goal

pub returns-then-is_staged_at : goal.returns-then-is_staged_at
returns-then-is_staged_at g c =
    let stands = c.in_ok-at.ensures.some in (
      (refl, (λ w. tt), refl),
      record {
        lends = tt;
        value = hidden_at c.args.self.now c.in_ok-at.at c.args.key.now (stands.0, (stands.1.0, stands.1.1.0)) c.in_ok-at.ensures.has
            (λ d. sym (c.is_staged_at.ensures d) ∙ c.if-is_staged_at.true);
      },
    )

pub at_mut-requires-clause-newer : goal.at_mut-requires-clause-newer
at_mut-requires-clause-newer g c =
    touched_newer c.args.self.now c.args.key.now c.in_ok-at.at c.in_ok-at.ensures.some c.requires
    (λ d. sym (c.is_staged_at.ensures d) ∙ c.if-is_staged_at.false)

pub returns : goal.returns
returns g c =
    let stands = c.in_ok-at.ensures.some in (
      (refl, (λ w. (c.in_ok-at.at, (stands, refl))), refl),
      record {
        lends = tt;
        value = valued_at c.args.self.now c.in_ok-at.at c.args.key.now (stands.0, (stands.1.0, stands.1.1.0)) c.in_ok-at.ensures.has
            (λ d. sym (c.is_staged_at.ensures d) ∙ c.if-is_staged_at.false) c.at_mut.result.now c.at_mut.ensures.value;
      },
    )
