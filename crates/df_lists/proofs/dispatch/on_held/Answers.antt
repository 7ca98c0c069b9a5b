use Rattle.std.proofs.Common.{refl}
use Rattle.df_lists.proofs.DispatchLaws.{refuses}
use Rattle.df_lists.proofs.dispatch.on_held.Goals as goal

pub returns-in_ok-put_error-in_default : goal.returns-in_ok-put_error-in_default
returns-in_ok-put_error-in_default c = record {
  ok = refuses c.args.op.now c.args.value.now c.put_error.new.self c.requires c.in_default.not-List c.in_ok-put_error-in_default.ensures;
  kept = refl;
}
