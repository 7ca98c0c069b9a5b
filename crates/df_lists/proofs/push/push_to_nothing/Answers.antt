use Rattle.std.proofs.Common.{refl, ap, ◌∙◌, arith}
use Rattle.df_model.specs.Values as plain
use Rattle.df_model.specs.Outcomes.{count}
use Rattle.df_model.specs.Replies.{encoding_of}
use Rattle.df_values.specs.declared.value.Value.TheVariants as values
use Rattle.df_values.specs.Edits.{edited}
use Rattle.df_values.specs.Seen.{seen}
use Rattle.df_lists.proofs.PushLaws.{push_puts}
use Rattle.df_lists.proofs.push.push_to_nothing.Goals as goal

pub returns : goal.returns
returns c =
    push_puts c.args.side c.args.words (values.List c.reserve.new.self) c.apply.new.value _ _ (omega (arith, c.len-2.ensures, c.if-len-eq0.false))
    (ap plain.Value.Elements (c.reserve.ensures.items ∙ c.new-list.ensures))
    (c.apply.ensures ∙ ap (λ edit. edited edit (seen (values.List c.reserve.new.self))) c.edit_of.ensures)
    (c.in_ok-put_count.ensures ∙ ap (λ n. encoding_of (count n)) c.len.ensures) refl
