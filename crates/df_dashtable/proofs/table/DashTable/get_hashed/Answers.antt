use Rattle.std.proofs.Common.{sym, ◌∙◌}
use Rattle.df_dashtable.proofs.SpotLaws.{hidden_at, shown_at}
use Rattle.df_dashtable.proofs.table.DashTable.get_hashed.Goals as goal

pub returns-then-is_staged_at : goal.returns-then-is_staged_at
returns-then-is_staged_at g c =
    let stands = c.in_ok-at.ensures.some in
    hidden_at c.args.self.now c.in_ok-at.at c.args.key.now (stands.0, (stands.1.0, stands.1.1.0)) c.in_ok-at.ensures.has
    (λ d. sym (c.is_staged_at.ensures d) ∙ c.if-is_staged_at.true)

pub returns : goal.returns
returns g c =
    let stands = c.in_ok-at.ensures.some in
    shown_at c.args.self.now c.in_ok-at.at c.args.key.now (stands.0, (stands.1.0, stands.1.1.0)) c.in_ok-at.ensures.has
    (λ d. sym (c.is_staged_at.ensures d) ∙ c.if-is_staged_at.false) c.entry_at.result.now c.entry_at.ensures
