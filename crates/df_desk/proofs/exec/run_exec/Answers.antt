use Rattle.std.proofs.Common.{◌≡◌, ◌++◌, length, codes, decimal, ap, ◌∙◌}
use Rattle.std.specs.List.{flat_map}
use Rattle.df_model.specs.Replies.{crlf}
use Rattle.df_desk.specs.Parts.{bytes_of, marks_of}
use Rattle.df_desk.specs.Replies.{told_on}
use Rattle.df_desk.proofs.OutcomeLaws.{exec_given, exec_said}
use Rattle.df_desk.proofs.exec.run_exec.Goals as goal

pub returns-in-Ok-join : goal.returns-in-Ok-join
returns-in-Ok-join c =
    let K = c.args.table.now.keys in
    let call = c.args.call.value in
    let parts = c.run_each.new.parts.items in
    let after = c.run_each.new.table.keys in
    let reply = c.join.new.reply in
    let ran : c.exec-ran.result ≡ told_on call (marks_of parts) K =
    c.exec-ran.ensures ∙ ap (λ p. told_on call (marks_of p.items) c.of-before.result.value.keys) c.of.ensures ∙ ap (λ t. told_on call (marks_of parts) t.keys) c.of-before.ensures in
    let joined : reply ≡ codes "*" ++ decimal (length parts) ++ crlf ++ flat_map bytes_of parts =
    c.in-Ok-join.ensures
    ∙ ap (λ l. codes "*" ++ decimal (length l) ++ crlf ++ flat_map bytes_of l) c.as_slice.ensures in (
      exec_given call c.args.commands parts K after c.exec-ran.result c.requires ran c.run_each.ensures,
      exec_said call c.args.commands parts K after c.exec-ran.result reply c.requires ran c.run_each.ensures joined,
    )

pub returns : goal.returns
returns c =
    let K = c.args.table.now.keys in
    let call = c.args.call.value in
    let parts = c.run_each.new.parts.items in
    let ran : c.exec-ran.result ≡ told_on call (marks_of parts) K =
    c.exec-ran.ensures ∙ ap (λ p. told_on call (marks_of p.items) c.of-before.result.value.keys) c.of.ensures ∙ ap (λ t. told_on call (marks_of parts) t.keys) c.of-before.ensures in
    exec_given call c.args.commands parts K c.run_each.new.table.keys c.exec-ran.result c.requires ran c.run_each.ensures
