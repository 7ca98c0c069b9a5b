use Rattle.std.proofs.Common.{◌+◌, ◌≤◌, length, arith}
use Rattle.df_values.proofs.JoinedLaws.{one_more, run_within}
use Rattle.df_values.proofs.pieces.Pieces.add_all.Goals as goal

pub overflow_add-at : goal.overflow_add-at
overflow_add-at c =
    let within : c.runs.at + length c.run-run.result.now ≤ length c.args.other.now = run_within c.args.other.now c.run-run.result.now c.runs.at c.run-run.ensures.front c.runs.invariant.within in
    omega (arith, within, c.len.ensures, c.len.auto)

pub runs-preserved : goal.runs-preserved
runs-preserved c = record {
  within = run_within c.args.other.now c.run-run.result.now c.runs.at c.run-run.ensures.front c.runs.invariant.within;
  said = one_more c.args.other.now c.run-run.result.now c.runs.self c.args.self.now c.add.new.self c.runs.at c.run-run.ensures.front c.runs.invariant.said c.in_ok-add.ensures.ok;
}
