use Rattle.std.proofs.Common.{◌+◌, ◌≡◌, suc, arith, subst, sym, take}
use Rattle.df_model.specs.declared.command.Command.{Command}
use Rattle.df_plan.specs.Plans.{AllReady}
use Rattle.df_turn.specs.Turns.{Ready}
use Rattle.df_plan.proofs.TurnLists.{ready-more}
use Rattle.df_plan.proofs.plan.Plan.add_turns.Goals as goal

pub commands-preserved : goal.commands-preserved
commands-preserved c =
    let i = c.commands in let k = i.command-index in let next : suc k ≡ k + 1 = omega arith in
    let one = subst (λ (d : Command). Ready c.args.shards d c.in_ok-turn.turn) c.command-item.is c.in_ok-turn.ensures.ready in
    let more = ready-more c.args.shards c.args.commands.now k c.command-item.result i.self.turns.items c.in_ok-turn.turn c.commands-test.true i.invariant.ready one in
    record {
      at = i.invariant.at;
      said = i.invariant.said;
      room = c.turn_of.ensures.room;
      ready = subst (λ n. AllReady c.args.shards (take n c.args.commands.now) c.push.new.self.items) next
          (subst (λ ts. AllReady c.args.shards (take (suc k) c.args.commands.now) ts) (sym c.in_ok-push.ensures.items) more);
    }
