use Rattle.df_outside.proofs.CutLemmas.{concat-filled}
use Rattle.df_outside.proofs.mem_source.MemSource.new.Goals as goal

pub returns-clause-whole : goal.returns-clause-whole
returns-clause-whole c = rw c.new.ensures (concat-filled c.args.pieces.items)
