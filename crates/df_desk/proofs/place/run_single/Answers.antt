use Rattle.std.proofs.Common.{◌≡◌, [], ap, ◌∙◌}
use Rattle.df_desk.specs.Replies.{told_on}
use Rattle.df_desk.proofs.OutcomeLaws.{single_given}
use Rattle.df_desk.proofs.place.run_single.Goals as goal

pub returns-in-Ok : goal.returns-in-Ok
returns-in-Ok c =
    let K = c.args.table.now.keys in
    let call = c.args.call.value in
    let after = c.run_command.new.table.keys in
    let reply = c.run_command.new.reply in
    let ran : c.single.result ≡ told_on call [] K = c.single.ensures ∙ ap (λ t. told_on call [] t.keys) c.of-before.ensures in
    single_given call c.args.command.now [] K after c.single.result reply c.requires ran c.in-Ok.ensures.ok
