use Rattle.std.proofs.Common.{refl, sym, ◌∙◌}
use Rattle.df_dashtable.proofs.SpotLaws.{hidden_at, visible_was, key_at}
use Rattle.df_dashtable.proofs.KeyLaws.{touched_newer, key_gone}
use Rattle.df_dashtable.proofs.table.DashTable.remove.Goals as goal

pub returns-then-is_staged_at-clause-none : goal.returns-then-is_staged_at-clause-none
returns-then-is_staged_at-clause-none g c =
    let stands = c.in_ok-at.ensures.some in (
      refl,
      sym (hidden_at c.args.self.now c.in_ok-at.at c.args.key.now (stands.0, (stands.1.0, stands.1.1.0)) c.in_ok-at.ensures.has
          (λ d. sym (c.is_staged_at.ensures d) ∙ c.if-is_staged_at.true)),
    )

pub remove_at-requires-clause-newer : goal.remove_at-requires-clause-newer
remove_at-requires-clause-newer g c =
    touched_newer c.args.self.now c.args.key.now c.in_ok-at.at c.in_ok-at.ensures.some c.requires
    (λ d. sym (c.is_staged_at.ensures d) ∙ c.if-is_staged_at.false)

pub returns-clause-was : goal.returns-clause-was
returns-clause-was g c =
    let stands = c.in_ok-at.ensures.some in
    visible_was c.args.self.now c.in_ok-at.at c.args.key.now (stands.0, (stands.1.0, stands.1.1.0)) c.in_ok-at.ensures.has
    (λ d. sym (c.is_staged_at.ensures d) ∙ c.if-is_staged_at.false) c.remove_at.result c.remove_at.ensures.value

pub returns-clause-puts : goal.returns-clause-puts
returns-clause-puts g c =
    key_gone c.args.self.now c.remove_at.new.self c.args.key.now c.remove_at.result.key
    (key_at c.args.self.now c.in_ok-at.at c.args.key.now c.in_ok-at.ensures.some c.remove_at.result c.remove_at.ensures.value) c.remove_at.ensures.puts
