use Rattle.std.proofs.Common.{◌≤◌, ◌+◌, length, arith, rules}
use Rattle.std.specs.FinMap as fin
use Rattle.df_rdbcore.specs.Written.{short, written_pair}
use Rattle.df_rdbwrite.proofs.RunLaws.{grown_not, grown_on, grown_behind, hash_starts, run_on, run_within, told_all}
use Rattle.df_rdbwrite.proofs.value.push_hash.Goals as goal

pub runs-init : goal.runs-init
runs-init c = record {
  grows = grown_on c.args.to.now.items c.args.to.now.items c.push_len.new.to.items (short c.len.result) (grown_not c.args.to.now.items) c.in_ok-push_len.ensures.ok;
  within = omega arith;
  told = hash_starts c.args.hash.now.fields c.len.result c.args.to.now.items c.push_len.new.to.items c.len.ensures c.in_ok-push_len.ensures.ok;
}

pub overflow_add-at : goal.overflow_add-at
overflow_add-at c =
    let m = c.args.hash.now.fields in
    let long = fin.len-entries m in
    let inside : c.runs.at ≤ length (fin.entries m) = omega (arith, long, c.runs.invariant.within) in
    let within : c.runs.at + length c.run-run.result.now ≤ length (fin.entries m) = run_within written_pair (fin.entries m) c.run-run.result.now c.runs.at inside c.run-run.ensures.front in
    omega (arith, long, within, c.len.ensures)

pub runs-preserved : goal.runs-preserved
runs-preserved c =
    let m = c.args.hash.now.fields in
    let long = fin.len-entries m in
    let inside : c.runs.at ≤ length (fin.entries m) = omega (arith, long, c.runs.invariant.within) in
    let within : c.runs.at + length c.run-run.result.now ≤ length (fin.entries m) = run_within written_pair (fin.entries m) c.run-run.result.now c.runs.at inside c.run-run.ensures.front in
    record {
      grows = grown_on c.args.to.now.items c.runs.to.items c.push_fields.new.to.items _ c.runs.invariant.grows c.in_ok-push_fields.ensures.ok;
      within = omega (arith, long, within);
      told = run_on written_pair (fin.entries m) c.run-run.result.now c.runs.at c.runs.to.items _ _ c.run-run.ensures.front c.in_ok-push_fields.ensures.ok c.runs.invariant.told;
    }

pub returns-clause-ok : goal.returns-clause-ok
returns-clause-ok c =
    let m = c.args.hash.now.fields in
    told_all written_pair (fin.entries m) c.runs.at c.runs.to.items _ (omega (arith, fin.len-entries m, c.runs-test.false, c.len-in-runs.ensures)) c.runs.invariant.told

pub returns-in_err-push_fields-clause-err : goal.returns-in_err-push_fields-clause-err
returns-in_err-push_fields-clause-err c =
    let grown = grown_behind c.args.to.now.items c.runs.to.items c.push_fields.new.to.items c.runs.invariant.grows c.in_err-push_fields.ensures.err in
    search (rules, grown)
