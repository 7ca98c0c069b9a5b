use Rattle.std.proofs.Common.{◌≡◌, subst}
use Rattle.std.specs.Prelude.{IfOk}
use Rattle.df_model.specs.Values.{Members}
use Rattle.df_colls.proofs.SetLaws.{intersection_turned}
use Rattle.df_colls.proofs.set.SetVal.inter.Goals as goal

pub returns-else-len : goal.returns-else-len
returns-else-len c =
    subst (λ (m : Members). IfOk c.kept-else-len.result (λ both. both.members ≡ m)) (intersection_turned c.args.other.now.members c.args.self.now.members) c.kept-else-len.ensures
