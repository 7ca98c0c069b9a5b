use Rattle.std.proofs.Common.{◌≡◌, ◌≤◌, ◌+◌, length, codes, decimal, ◌++◌, ap, ◌∙◌, arith}
use Rattle.std.specs.FinMap as map
use Rattle.df_model.specs.Members as members
use Rattle.df_model.specs.Replies.{crlf, encoding_of}
use Rattle.df_model.specs.declared.reply.Reply.TheVariants.{Bulk}
use Rattle.df_sets.proofs.ReplyLaws.{bulks_of, begins, run_on, run_within, ends}
use Rattle.df_sets.proofs.look.put_members.Goals as goal

pub runs-init : goal.runs-init
runs-init c =
    let all = map.entries c.args.set.now.members in (
      begins (codes "*" ++ decimal (length all) ++ crlf) c.put_array_head.new.self _ _
          (c.in_ok-put_array_head.ensures ∙ ap (λ n. codes "*" ++ decimal n ++ crlf) (c.len.ensures ∙ map.len-entries c.args.set.now.members))
          (bulks_of all),
      omega arith,
    )

pub runs-preserved : goal.runs-preserved
runs-preserved c =
    let all = map.entries c.args.set.now.members in
    let long : members.len c.args.set.now.members ≡ length all = map.len-entries c.args.set.now.members in
    let within : c.runs.at + length c.run-run.result.now ≤ length all = run_within all c.run-run.result.now c.runs.at c.run-run.ensures.front (omega arith) in (
      run_on (λ entry. encoding_of (Bulk entry.0)) c.runs.reply c.add_bulks.new.reply _ all c.run-run.result.now c.runs.at c.run-run.ensures.front c.in_ok-add_bulks.ensures c.runs.invariant.0,
      omega arith,
    )

pub overflow_add-at : goal.overflow_add-at
overflow_add-at c =
    let all = map.entries c.args.set.now.members in
    let long : members.len c.args.set.now.members ≡ length all = map.len-entries c.args.set.now.members in
    let within : c.runs.at + length c.run-run.result.now ≤ length all = run_within all c.run-run.result.now c.runs.at c.run-run.ensures.front (omega arith) in
    omega (arith, c.len-in-runs.ensures, c.len-in-runs.type_inv)

pub returns : goal.returns
returns c =
    let all = map.entries c.args.set.now.members in
    let long : members.len c.args.set.now.members ≡ length all = map.len-entries c.args.set.now.members in
    ends (λ entry. encoding_of (Bulk entry.0)) c.runs.reply _ all c.runs.at (omega (arith, c.len-in-runs.ensures)) c.runs.invariant.0
