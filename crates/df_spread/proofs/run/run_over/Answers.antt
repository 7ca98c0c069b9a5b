use Rattle.std.proofs.Common.{sym, ap, subst, ◌∙◌}
use Rattle.std.proofs.lemmas.Result.{IfOk-weaker}
use Rattle.df_model.specs.Keyspace.{no_keys}
use Rattle.df_spread.specs.Gathered.{gathered}
use Rattle.df_spread.specs.Written.{AreApart}
use Rattle.df_spread.proofs.RunLaws.{all_apart, runs_over}
use Rattle.df_spread.proofs.run.run_over.Goals as goal

pub take_changes-requires : goal.take_changes-requires
take_changes-requires c =
    subst AreApart (sym c.in_ok-written.ensures)
    (all_apart c.args.shards c.args.command.now c.in_ok-table.table.keys c.args.keys.items c.requires.keys)

pub returns : goal.returns
returns c =
    IfOk-weaker c.take_changes.result _ _
    (λ changes took told tells.
    runs_over c.args.shards c.args.command.now c.args.keys.items c.args.values.items told c.in_ok-table.table.keys
    c.run_command.new.self.keys c.in_ok-written.written.items changes.items c.run_command.new.reply c.requires.keys c.requires.values tells
    (c.in_ok-table.ensures ∙ ap (λ l. gathered l c.args.values.items no_keys) c.as_slice.ensures.value) c.in_ok-written.ensures c.in_ok-run_command.ensures.ok took)
    c.take_changes.ensures
