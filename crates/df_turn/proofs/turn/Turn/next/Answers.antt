use Rattle.std.proofs.Common.{sym}
use Rattle.df_turn.proofs.AloneGoes.{not_nowhere, not_waiting, ran_goes, ran_within}
use Rattle.df_turn.proofs.WholeGoes.{clear_goes, cleared_goes, counted_goes, saved_goes, walked_goes}
use Rattle.df_turn.proofs.SeveralGoes.{ended_goes, reads_ready, run_goes, show_goes}
use Rattle.df_turn.proofs.turn.Turn.next.Goals as goal

pub unreachable-requires : goal.unreachable-requires
unreachable-requires c =
    let a = c.requires.answered in
    not_nowhere c.args.shards a.0 a.2 c.args.self.now c.args.command.now c.args.outcomes.now a.1 (sym c.in-Nowhere.ensures.value) a.3

pub unreachable-requires-in-Waiting : goal.unreachable-requires-in-Waiting
unreachable-requires-in-Waiting c =
    let a = c.requires.answered in
    not_waiting c.args.shards a.0 a.2 c.args.self.now c.args.command.now c.args.outcomes.now a.1 _ _ (sym c.in-Waiting.ensures.value) a.3

pub ran-requires : goal.ran-requires
ran-requires c =
    let a = c.requires.answered in
    ran_within c.args.shards a.0 a.2 c.args.self.now c.args.command.now c.args.outcomes.now a.1 c.in-Running.shard (sym c.in-Running.ensures.value) a.3

pub run-requires-clause-values : goal.run-requires-clause-values
run-requires-clause-values c =
    let a = c.requires.answered in
    (reads_ready c.args.shards a.0 a.2 c.args.self.now c.args.command.now c.args.outcomes.now a.1 c.in-Reading.keys (sym c.in-Reading.ensures.value) a.3).values

pub returns-in-Running : goal.returns-in-Running
returns-in-Running c = record {
  went = λ asked standing told a. ran_goes c.args.shards asked told c.args.self.now c.args.command.now c.args.outcomes.now standing _ c.ran.result c.in-Running.shard (sym c.in-Running.ensures.value) a c.ran.ensures;
}

pub returns-in-Cutting : goal.returns-in-Cutting
returns-in-Cutting c = record {
  went = λ asked standing told a. saved_goes c.args.shards asked told c.args.self.now c.args.command.now c.args.outcomes.now standing _ c.not_saved.result (sym c.in-Cutting.ensures.value) a c.not_saved.ensures;
}

pub returns-in-Counting : goal.returns-in-Counting
returns-in-Counting c = record {
  went = λ asked standing told a. counted_goes c.args.shards asked told c.args.self.now c.args.command.now c.args.outcomes.now standing _ c.counted.result (sym c.in-Counting.ensures.value) a c.counted.ensures;
}

pub returns-in-Walking : goal.returns-in-Walking
returns-in-Walking c = record {
  went = λ asked standing told a. walked_goes c.args.shards asked told c.args.self.now c.args.command.now c.args.outcomes.now standing _ c.walked.result (sym c.in-Walking.ensures.value) a c.walked.ensures;
}

pub returns-in-Clearing : goal.returns-in-Clearing
returns-in-Clearing c = record {
  went = λ asked standing told a. clear_goes c.args.shards asked told c.args.self.now c.args.command.now c.args.outcomes.now standing c.clear.new.self c.clear.result (sym c.in-Clearing.ensures.value) a c.clear.ensures.asks c.clear.ensures.ends c.clear.ensures.rest;
}

pub returns-in-Cleared : goal.returns-in-Cleared
returns-in-Cleared c = record {
  went = λ asked standing told a. cleared_goes c.args.shards asked told c.args.self.now c.args.command.now c.args.outcomes.now standing _ c.cleared.result c.in-Cleared.wanted (sym c.in-Cleared.ensures.value) a c.cleared.ensures;
}

pub returns-in-Reading : goal.returns-in-Reading
returns-in-Reading c = record {
  went = λ asked standing told a. run_goes c.args.shards asked told c.args.self.now c.args.command.now c.args.outcomes.now standing c.run.new.self c.run.result c.in-Reading.keys (sym c.in-Reading.ensures.value) a c.run.ensures;
}

pub returns-in-Staging : goal.returns-in-Staging
returns-in-Staging c = record {
  went = λ asked standing told a. show_goes c.args.shards asked told c.args.self.now c.args.command.now c.args.outcomes.now standing c.show.new.self c.show.result c.in-Staging.reply (sym c.in-Staging.ensures.value) a c.show.ensures.asks c.show.ensures.ends c.show.ensures.rest;
}

pub returns-in-Ending : goal.returns-in-Ending
returns-in-Ending c = record {
  went = λ asked standing told a. ended_goes c.args.shards asked told c.args.self.now c.args.command.now c.args.outcomes.now standing _ c.ended.result c.in-Ending.wanted c.in-Ending.reply (sym c.in-Ending.ensures.value) a c.ended.ensures;
}
