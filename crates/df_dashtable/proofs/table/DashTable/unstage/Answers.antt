use Rattle.df_dashtable.proofs.SpotLaws.{key_at, entry_was}
use Rattle.df_dashtable.proofs.KeyLaws.{key_gone}
use Rattle.df_dashtable.proofs.table.DashTable.unstage.Goals as goal

pub returns-clause-was : goal.returns-clause-was
returns-clause-was g c = λ e was.
    entry_was c.args.self.now c.staged_spot-at.result c.args.key.now c.staged_spot-at.ensures.has c.unstage_at.result c.unstage_at.ensures.value e was

pub returns-clause-puts : goal.returns-clause-puts
returns-clause-puts g c =
    key_gone c.args.self.now c.unstage_at.new.self c.args.key.now c.unstage_at.result.key
    (key_at c.args.self.now c.staged_spot-at.result c.args.key.now c.staged_spot-at.ensures.stands c.unstage_at.result c.unstage_at.ensures.value) c.unstage_at.ensures.puts
