use Rattle.df_log.specs.Acts.{Passed}
use Rattle.df_shard.specs.Bodies.{why_told}
use Rattle.df_shard.proofs.entries.passed.Given as goal

abbrev pub ghost-note_for : goal.ghost-note_for
ghost-note_for a = (Passed, why_told a.why)
