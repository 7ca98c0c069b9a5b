use Rattle.std.proofs.Common.{arith}
use Rattle.std.specs.FinMap as map
use Rattle.df_colls.proofs.BodyLaws.{front_len, run_step, run_end}
use Rattle.df_colls.proofs.entries.Entries.append_from.Goals as goal

pub overflow_add-at : goal.overflow_add-at
overflow_add-at g c =
    let es = map.entries c.args.self.now.contents in
    let len = map.len-entries c.args.self.now.contents in
    let le = front_len es c.run-run.result.now c.runs.at c.run-run.ensures.front (omega (arith, len)) in
    omega (arith, le, len)

pub runs-preserved : goal.runs-preserved
runs-preserved g c =
    run_step (map.entries c.args.self.now.contents) c.run-run.result.now c.runs.to.items c.append.new.to.items _ c.runs.at c.run-run.ensures.front c.in_ok-append.ensures c.runs.invariant

pub returns : goal.returns
returns g c =
    run_end (map.entries c.args.self.now.contents) c.runs.to.items _ c.runs.at (omega (arith, map.len-entries c.args.self.now.contents)) c.runs.invariant
