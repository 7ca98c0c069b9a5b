use Rattle.std.proofs.Common.{◌≤◌, ◌+◌, ◌++◌, length, codes, decimal, ap, sym, ◌∙◌, arith}
use Rattle.std.specs.List.{flat_map}
use Rattle.std.specs.FinMap as map
use Rattle.df_model.specs.Replies.{crlf}
use Rattle.df_hashes.specs.Parts.{entry_bytes, bulk_count}
use Rattle.df_hashes.proofs.ListingLaws.{part_is, run_on, run_within, told_all}
use Rattle.df_hashes.proofs.listing.list.Goals as goal

pub runs-init : goal.runs-init
runs-init c =
    let m = c.args.hash.now.fields in
    record {
      within = omega arith;
      told = ap (λ x. x ++ flat_map (entry_bytes c.args.part) (map.entries m))
          (c.in_ok-put_array_head.ensures
          ∙ ap (λ n. codes "*" ++ decimal n ++ crlf) (c.in_ok-bulk_count.ensures ∙ ap (bulk_count c.args.part) c.len.ensures))
          ∙ sym (part_is c.args.part m);
    }

pub overflow_add-at : goal.overflow_add-at
overflow_add-at c =
    let m = c.args.hash.now.fields in
    let long = map.len-entries m in
    let inside : c.runs.at ≤ length (map.entries m) = omega (arith, long, c.runs.invariant.within) in
    let within : c.runs.at + length c.run-run.result.now ≤ length (map.entries m) = run_within (map.entries m) c.run-run.result.now c.runs.at inside c.run-run.ensures.front in
    omega (arith, long, within, c.len.ensures)

pub runs-preserved : goal.runs-preserved
runs-preserved c =
    let m = c.args.hash.now.fields in
    let long = map.len-entries m in
    let inside : c.runs.at ≤ length (map.entries m) = omega (arith, long, c.runs.invariant.within) in
    let within : c.runs.at + length c.run-run.result.now ≤ length (map.entries m) = run_within (map.entries m) c.run-run.result.now c.runs.at inside c.run-run.ensures.front in
    record {
      within = omega (arith, long, within);
      told = run_on (entry_bytes c.args.part) (map.entries m) c.run-run.result.now c.runs.at c.runs.reply _ _ c.run-run.ensures.front c.in_ok-add_run.ensures c.runs.invariant.told;
    }

pub returns : goal.returns
returns c =
    let m = c.args.hash.now.fields in
    told_all (entry_bytes c.args.part) (map.entries m) c.runs.at c.runs.reply _ (omega (arith, map.len-entries m, c.runs-test.false, c.len-in-runs.ensures)) c.runs.invariant.told
