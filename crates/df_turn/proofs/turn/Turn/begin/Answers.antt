use Rattle.std.proofs.Common.{sym}
use Rattle.df_turn.specs.declared.turn.Rest.TheVariants as rests
use Rattle.df_turn.proofs.AloneGoes.{answered_begun, ready_kept, runs_begun, stays_begun}
use Rattle.df_turn.proofs.turn.Turn.begin.Goals as goal

pub returns-in-Nowhere : goal.returns-in-Nowhere
returns-in-Nowhere c = record {
  began = answered_begun c.args.shards c.args.command.now c.answered.new.command _ c.answered.result
      (ready_kept c.args.shards c.args.command.now c.args.self.now rests.Nowhere (sym c.in-Nowhere.ensures.value) c.requires.ready) c.answered.ensures;
}

pub returns-in-Waiting : goal.returns-in-Waiting
returns-in-Waiting c =
    let r = c.requires.ready in
    record {
      began = runs_begun c.args.shards c.in-Waiting.shard c.args.command.now c.run_there.new.command c.args.self.now c.run_there.new.self c.run_there.result
          c.requires.some (ready_kept c.args.shards c.args.command.now c.args.self.now (rests.Waiting c.in-Waiting.shard c.in-Waiting.room) (sym c.in-Waiting.ensures.value) r) r c.run_there.ensures.asks
          (let h = c.run_there.ensures.runs in record { rest = h.rest; hop = h.hop; count = h.count; here = h.here; others = h.others });
    }

pub returns-in_default : goal.returns-in_default
returns-in_default c = record {
  began = stays_begun c.args.shards c.args.command.now c.args.self.now c.replace.result c.requires.some c.requires.ready c.replace.ensures.value c.in_default.not-Nowhere c.in_default.not-Waiting;
}
