use Rattle.std.proofs.Common.{◌≡◌, ◌++◌, drop, ap, ◌∙◌, arith}
use Rattle.std.specs.FinMap as map
use Rattle.df_colls.proofs.BodyLaws.{front_len}
use Rattle.df_colls.proofs.MergeLaws.{merged_step, left_ended, right_ended}
use Rattle.df_colls.proofs.combine.united.Goals as goal
use Rattle.df_colls.proofs.combine.united.Goals.{then-runs-test+else-j-len, else-runs-test}

pub overflow_add-i : goal.overflow_add-i
overflow_add-i c =
    let len = map.len-entries c.args.left.now.contents in
    let le = front_len (map.entries c.args.left.now.contents) c.run.result.now c.runs.i c.run.ensures.front (omega (arith, len)) in
    let taken = c.in_ok-taken.ensures.taken in
    omega (arith, le, len, taken.0, c.len.ensures)

pub overflow_add-j : goal.overflow_add-j
overflow_add-j c =
    let len = map.len-entries c.args.right.now.contents in
    let le = front_len (map.entries c.args.right.now.contents) c.run-in-runs.result.now c.runs.j c.run-in-runs.ensures.front (omega (arith, len)) in
    let taken = c.in_ok-taken.ensures.taken in
    omega (arith, le, len, taken.1, c.len-in-runs.ensures)

pub runs-preserved : goal.runs-preserved
runs-preserved c =
    let left = map.entries c.args.left.now.contents in
    let right = map.entries c.args.right.now.contents in
    let left_len = map.len-entries c.args.left.now.contents in
    let right_len = map.len-entries c.args.right.now.contents in
    let ours = front_len left c.run.result.now c.runs.i c.run.ensures.front (omega (arith, left_len)) in
    let theirs = front_len right c.run-in-runs.result.now c.runs.j c.run-in-runs.ensures.front (omega (arith, right_len)) in
    let taken = c.in_ok-taken.ensures.taken in
    record {
      left_within = omega (arith, left_len, ours, taken.0);
      right_within = omega (arith, right_len, theirs, taken.1);
      items = merged_step left right c.runs.merged.items c.merge.new.to.items c.run.result.now c.run-in-runs.result.now _ c.runs.i c.runs.j c.in_ok-taken.taken.0 c.in_ok-taken.taken.1 (map.entries_sorted c.args.right.now.contents) c.run.ensures.front c.run-in-runs.ensures.front c.in_ok-taken.ensures.merged c.runs.invariant.items;
    }

pub returns : goal.returns
returns c =
    let left = map.entries c.args.left.now.contents in
    let right = map.entries c.args.right.now.contents in
    let all : c.append_from-2.new.to.items ≡ (c.runs.merged.items ++ drop c.runs.i left) ++ drop c.runs.j right =
    c.in_ok-append_from-2.ensures ∙ ap (λ xs. xs ++ drop c.runs.j right) c.in_ok-append_from.ensures in
    elim c.runs-test.branch [
      | then-runs-test+else-j-len w ↦ right_ended left right c.runs.merged.items _ _ c.runs.i c.runs.j (omega (arith, map.len-entries c.args.right.now.contents, w.len-in-runs.ensures)) (c.runs.invariant.items, all)
      | else-runs-test w ↦ left_ended left right c.runs.merged.items _ _ c.runs.i c.runs.j (map.entries_sorted c.args.right.now.contents) (omega (arith, map.len-entries c.args.left.now.contents)) (c.runs.invariant.items, all)
    ]
