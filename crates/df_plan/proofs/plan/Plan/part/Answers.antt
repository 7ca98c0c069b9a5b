use Rattle.std.proofs.Common.{◌+◌, ◌<◌, length, refl, sym, ap, ◌∙◌, subst, arith}
use Rattle.std.specs.Vec.{with_item}
use Rattle.std.proofs.lemmas.Option.{slice_get_within}
use Rattle.df_rounds.specs.Progress.{asks_in}
use Rattle.df_turn.specs.Turns.{Asking}
use Rattle.df_turn.specs.declared.turn.Turn.{Turn}
use Rattle.df_plan.specs.declared.plan.Plan.{Plan}
use Rattle.df_plan.proofs.PlanLaws.{asks-again, turn-so}
use Rattle.df_plan.proofs.TurnLists.{drop-set-behind, get-set-at}
use Rattle.df_plan.proofs.plan.Plan.part.Goals as goal

pub part-requires : goal.part-requires
part-requires c =
    let a = c.requires.asks in let turn = c.index_mut.result.now in
    let here = turn-so a.0 c.args.shard a.1 a.2 c.args.self.now a.3 a.5 turn c.index_mut.ensures.value in
    record { there = subst (λ (t : Turn). c.args.shard < length t.parts.items) (sym here) (omega (arith, a.4, a.5.asking.count)) }

pub returns-clause-part : goal.returns-clause-part
returns-clause-part c = λ shards call progress slip a.
    let plan = c.args.self.now in let shard = c.args.shard in let turn = c.index_mut.result.now in let after = c.part.new.self in
    let here = turn-so shards shard call progress plan slip a turn c.index_mut.ensures.value in
    let p = c.part.ensures.part shards a.command progress.standing (subst (λ t. Asking shards shard a.command progress.standing t) (sym here) a.asking) in
    let now : Plan = record { turns = with_item plan.turns plan.at after; at = plan.at; command = plan.command; said = plan.said } in (
      p.0 ∙ ap (λ left. asks_in shards left progress.standing shard) (sym a.left),
      asks-again shards shard (shard + 1) call progress plan now slip after a p.1 refl refl refl
          (get-set-at plan.turns.items plan.at progress.at after a.at (subst (λ i. i < length plan.turns.items) (sym a.at) (slice_get_within plan.turns.items progress.at a.turn a.there)))
          (drop-set-behind plan.turns.items plan.at after),
    )
