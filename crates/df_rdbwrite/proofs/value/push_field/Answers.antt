use Rattle.std.proofs.Common.{rules}
use Rattle.df_rdbwrite.proofs.RunLaws.{grown_not, grown_on, grown_behind, pair_whole}
use Rattle.df_rdbwrite.proofs.value.push_field.Goals as goal

pub returns-in_err-push_text-2-clause-err : goal.returns-in_err-push_text-2-clause-err
returns-in_err-push_text-2-clause-err c =
    let old = c.args.to.now.items in
    let here = c.push_text.new.to.items in
    let grown = grown_behind old here c.push_text-2.new.to.items (grown_on old old here _ (grown_not old) c.in_ok-push_text.ensures.ok) c.in_err-push_text-2.ensures.err in
    search (rules, grown)

pub returns-clause-ok : goal.returns-clause-ok
returns-clause-ok c = pair_whole c.args.to.now.items c.push_text.new.to.items c.push_text-2.new.to.items _ _ c.in_ok-push_text.ensures.ok c.in_ok-push_text-2.ensures.ok
