use Rattle.std.proofs.Common.{◌+◌, ap, sym, refl, subst, ℕ}
use Rattle.std.specs.Prelude.{Some}
use Rattle.df_model.specs.declared.command.Call.{Call}
use Rattle.df_caller.specs.declared.slip.Slip.{Slip}
use Rattle.df_shard.specs.Holds.{changes_seen, hopping, puts_in, call_act}
use Rattle.df_shard.specs.Came.{RanTo}
use Rattle.df_shard.proofs.Bare.{none-some}
use Rattle.df_shard.proofs.RanLaws.{quick-ran}
use Rattle.df_shard.proofs.serving.serve_quick.Goals as goal

pub returns : goal.returns
returns c =
    let w = c.args.call.now in let hop : ℕ = c.args.hop in let call : Call = c.args.slip.value.call in
    let K = c.args.table.now.keys in
    let ran : RanTo w.number hop call K c.run_call-entry.new.table.keys c.run_call-entry.new.slip.reply c.run_call-entry.result.0 c.run_call-entry.result.1 =
    subst (λ (v : Slip). RanTo w.number hop v.call K c.run_call-entry.new.table.keys c.run_call-entry.new.slip.reply c.run_call-entry.result.0 c.run_call-entry.result.1) c.deref_mut.ensures.value c.run_call-entry.ensures.ran in
    let t = quick-ran c.args.shards c.args.index w.number hop call K _ _ _ _ (changes_seen w.staged.items) ran in
    record {
      ran = record { hop = hop; act = call_act call hop; call = Some call };
      told = t.told;
      changes = changes_seen w.staged.items;
      armed = refl;
      entry = t.entry;
      hop = refl;
      after = λ j. record { number = w.number; conn = w.conn; above = hop + 1; armed = hopping (c.requires.idle j); staged = changes_seen w.staged.items };
      is_told = t.is_told;
      keys = t.keys;
      staged = t.changes;
      room = ap (λ k. k + puts_in (changes_seen w.staged.items)) c.run_call-entry.ensures.kept;
      said = (t.said, t.given, λ e. none-some call (sym e));
      bare = λ e. refl;
    }
