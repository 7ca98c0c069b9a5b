use Rattle.std.proofs.Common.{subst}
use Rattle.df_colls.specs.Cuts.{IsFilled}
use Rattle.df_colls.proofs.PartLaws.{filled_is}
use Rattle.df_colls.proofs.chunks.Chunks.parts.Goals as goal

pub returns-clause-filled : goal.returns-clause-filled
returns-clause-filled g c = subst (λ v. IsFilled v.parts) c.self.view_is (filled_is c.self.inside.parts.items c.self.invariant.0.filled)
