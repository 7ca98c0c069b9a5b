use Rattle.std.proofs.Common.{ap, ◌∙◌, ◌+◌, ◌≤◌, subst}
use Rattle.df_lists.proofs.PushLaws.{push_gives}
use Rattle.df_lists.proofs.push.push.Goals as goal

pub returns-clause-ok : goal.returns-clause-ok
returns-clause-ok c =
    push_gives c.args.side c.args.words c.reserve.new.self c.args.list.now.items c.len-before.result c.in_ok-after.after _ _ _
    c.reserve.ensures.items c.len-before.ensures (c.in_ok-after.ensures ∙ ap (λ n. c.len-before.result + n) c.len.ensures)
    (subst (λ n. n ≤ c.reserve.new.self.spare) c.len-2.ensures c.in_ok-reserve.ensures.ok) c.edit_of.ensures c.in_ok-put_count.ensures c.resized.ensures
