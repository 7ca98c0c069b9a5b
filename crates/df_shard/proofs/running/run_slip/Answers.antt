use Rattle.std.proofs.Common.{◌≡◌, ◌∙◌, ap, sym, subst}
use Rattle.std.specs.Prelude.{OnOk}
use Rattle.df_model.specs.Meaning.{meaning}
use Rattle.df_model.specs.Reads.{IsLinked}
use Rattle.df_model.specs.declared.command.Command.{Command}
use Rattle.df_model.specs.declared.command.Call.{Call}
use Rattle.df_footprints.specs.Footprints.{commands_of}
use Rattle.df_table.specs.Responses.{Gives}
use Rattle.df_hops.specs.Parts.{command_at}
use Rattle.df_shard.proofs.Commands.{linked-inside, command-got}
use Rattle.df_shard.proofs.running.run_slip.Goals as goal

pub replace-command-requires : goal.replace-command-requires
replace-command-requires c =
    linked-inside _ c.args.at (subst (λ (d : Call). IsLinked (command_at (commands_of d) c.args.at)) c.in-Exec.is c.requires)

pub run_command-requires-in-Exec : goal.run_command-requires-in-Exec
run_command-requires-in-Exec c =
    let e : command_at (commands_of c.args.slip.now.call) c.args.at ≡ c.replace-command.result =
    ap (λ (d : Call). command_at (commands_of d) c.args.at) c.in-Exec.is ∙ command-got _ c.args.at c.replace-command.result c.replace-command.ensures.old in
    subst IsLinked e c.requires

pub returns-in-Exec-clause-ok : goal.returns-in-Exec-clause-ok
returns-in-Exec-clause-ok c =
    let e : command_at (commands_of c.args.slip.now.call) c.args.at ≡ c.replace-command.result =
    ap (λ (d : Call). command_at (commands_of d) c.args.at) c.in-Exec.is ∙ command-got _ c.args.at c.replace-command.result c.replace-command.ensures.old in
    subst (λ (d : Command). OnOk c.run_command-in-Exec.result (Gives (meaning d c.args.table.now.keys) c.run_command-in-Exec.new.self.keys c.run_command-in-Exec.new.reply))
    (sym e) c.run_command-in-Exec.ensures.ok
