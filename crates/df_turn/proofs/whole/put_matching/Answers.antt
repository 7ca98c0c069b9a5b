use Rattle.std.proofs.Common.{◌≡◌, ◌++◌, length, ap, ◌∙◌}
use Rattle.std.specs.Prelude.{codes, decimal}
use Rattle.std.specs.List.{filter}
use Rattle.df_model.specs.Members as members
use Rattle.df_model.specs.Outcomes.{bulks}
use Rattle.df_model.specs.Patterns.{is_match}
use Rattle.df_model.specs.Replies.{encoding_of, crlf}
use Rattle.df_model.specs.declared.reply.Reply.TheVariants.{Bulk}
use Rattle.df_footprints.proofs.GatherLaws.{on_ok}
use Rattle.df_table.proofs.SeveralLaws.{array_begun}
use Rattle.df_turn.proofs.whole.put_matching.Goals as goal

pub returns : goal.returns
returns c =
    let p = is_match c.args.pattern.now in
    let names = filter p (members.items c.in_ok-names.names.members) in
    let begun : c.put_array_head.new.self ≡ codes "*" ++ decimal (length names) ++ crlf =
    c.in_ok-put_array_head.ensures ∙ ap (λ n. codes "*" ++ decimal n ++ crlf) c.matching.ensures in
    on_ok c.add_matching.result
    (λ e. e ∙ array_begun Bulk names c.put_array_head.new.self begun ∙ ap (λ m. encoding_of (bulks (filter p (members.items m)))) c.in_ok-names.ensures)
    c.add_matching.ensures
