use Rattle.std.proofs.Common.{sym, ap, ◌∙◌}
use Rattle.std.proofs.lemmas.Simd.{map-map}
use Rattle.df_model.specs.Outcomes.{array}
use Rattle.df_model.specs.Replies.{encoding_of}
use Rattle.df_model.specs.declared.reply.Reply.TheVariants.{Bulk}
use Rattle.df_table.proofs.SeveralLaws.{array_begun}
use Rattle.df_table.proofs.whole.put_names.Goals as goal

pub names-init : goal.names-init
names-init c =
    array_begun (λ name. Bulk name.now) c.args.names.now c.put_array_head.new.self c.in_ok-put_array_head.ensures
    ∙ ap (λ replies. encoding_of (array replies)) (sym (map-map Bulk (λ name. name.now) c.args.names.now))
