use Rattle.std.proofs.Common.{sym, ap, ◌∙◌}
use Rattle.std.specs.Option.{option_copied}
use Rattle.df_model.specs.Replies.{encoding_of}
use Rattle.df_model.specs.declared.reply.Reply.TheVariants.{Bulk}
use Rattle.df_lists.proofs.PopLaws.{one_gives, from_some}
use Rattle.df_lists.proofs.pop.pop_one.Goals as goal

pub returns : goal.returns
returns c =
    one_gives c.args.side c.args.list.now _ c.in-Some.element.now c.len-before.result c.saturating_sub.result _ _ _
    (from_some c.args.side c.args.list.now.items c.in-Some.element.now (sym c.element_from.ensures ∙ ap option_copied c.in-Some.is))
    c.len-before.ensures c.saturating_sub.ensures c.edit_of.ensures
    (c.in_ok-put_bulk.ensures ∙ ap (λ bytes. encoding_of (Bulk bytes)) c.as_slice.ensures) c.resized.ensures
