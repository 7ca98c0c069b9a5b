use Rattle.std.proofs.Common.{refl}
use Rattle.std.specs.Vec.{with_item}
use Rattle.std.proofs.lemmas.Option.{slice_get_read}
use Rattle.df_caller.specs.declared.slip.Slip.{Slip}
use Rattle.df_plan.specs.declared.plan.Plan.{Plan}
use Rattle.df_plan.proofs.PlanLaws.{came-begun, follow-rests, within-so}
use Rattle.df_plan.proofs.TurnLists.{drop-set-behind, get-set-at}
use Rattle.df_plan.proofs.plan.Plan.begin.Goals as goal

pub take_command-requires : goal.take_command-requires
take_command-requires c =
    let r = c.requires.rests in record { there = within-so c.args.shards r.0 r.1 c.args.self.now c.args.slip.now r.2 c.requires.there }

pub begin-requires-clause-ready : goal.begin-requires-clause-ready
begin-requires-clause-ready c =
    let r = c.requires.rests in let plan = c.args.self.now in let slip = c.args.slip.now in let t = c.take_command.ensures in
    let turn = c.index_mut.result.now in
    (follow-rests c.args.shards r.0 r.1 plan plan slip record { call = c.take_command.new.call; reply = slip.reply } c.take_command.result turn r.2
    (slice_get_read plan.turns.items _ plan.at turn refl c.requires.there c.index_mut.ensures.value) t.taken t.alike t.behind refl refl refl refl).2

pub returns-clause-came : goal.returns-clause-came
returns-clause-came c = λ call progress r.
    let plan = c.args.self.now in let slip = c.args.slip.now in let t = c.take_command.ensures in let turn = c.index_mut.result.now in
    let begun = c.begin.new.self in
    let after : Slip = record { call = c.take_command.new.call; reply = slip.reply } in
    let now : Plan = record { turns = with_item plan.turns plan.at begun; at = plan.at; command = c.begin.new.command; said = plan.said } in
    let f = follow-rests c.args.shards call progress plan now slip after c.take_command.result turn r
    (slice_get_read plan.turns.items _ plan.at turn refl c.requires.there c.index_mut.ensures.value) t.taken t.alike t.behind refl refl refl
    (drop-set-behind plan.turns.items plan.at begun) in
    came-begun c.begin.result c.args.shards call progress now after c.take_command.result f.0 begun f.1 r.fresh
    (get-set-at plan.turns.items plan.at progress.at begun r.at c.requires.there) c.begin.ensures.began
