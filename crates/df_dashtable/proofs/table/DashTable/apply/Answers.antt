use Rattle.df_dashtable.proofs.KeyLaws.{key_shown}
use Rattle.df_dashtable.proofs.table.DashTable.apply.Goals as goal

pub returns-clause-puts : goal.returns-clause-puts
returns-clause-puts g c = λ e was.
    key_shown c.args.self.now c.apply_at.new.self c.staged_spot-at.result c.args.key.now e c.staged_spot-at.ensures.stands c.staged_spot-at.ensures.has was c.apply_at.ensures.puts
