use Rattle.df_outside.proofs.CutLemmas.{cut_after-whole}
use Rattle.df_outside.proofs.mem_source.MemSourceSource.read.Goals as goal

pub returns-in_default-clause-whole : goal.returns-in_default-clause-whole
returns-in_default-clause-whole c = rw (c.take.ensures.cut, ← c.self.view_is) (cut_after-whole _ c.self.inside.pieces)
