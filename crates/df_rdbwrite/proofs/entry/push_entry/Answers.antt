use Rattle.std.proofs.Common.{rules}
use Rattle.df_rdbwrite.proofs.RunLaws.{grown_not, grown_on, grown_behind, entry_whole}
use Rattle.df_rdbwrite.proofs.entry.push_entry.Goals as goal

pub returns-clause-ok : goal.returns-clause-ok
returns-clause-ok c =
    entry_whole c.args.to.now.items c.extend_from_slice.new.self.items c.push_string.new.to.items c.push_value.new.to.items _ _ c.kind_byte.result _
    c.kind_byte.ensures c.in_ok-extend_from_slice.ensures.items c.in_ok-push_string.ensures.ok c.in_ok-push_value.ensures.ok

pub returns-in_err-push_value-clause-err : goal.returns-in_err-push_value-clause-err
returns-in_err-push_value-clause-err c =
    let old = c.args.to.now.items in
    let kind = c.extend_from_slice.new.self.items in
    let key = c.push_string.new.to.items in
    let whole = grown_on old kind key _ (grown_on old old kind _ (grown_not old) c.in_ok-extend_from_slice.ensures.items) c.in_ok-push_string.ensures.ok in
    let grown = grown_behind old key c.push_value.new.to.items whole c.in_err-push_value.ensures.err in
    search (rules, grown)
