use Rattle.df_model.specs.Meaning.{one}
use Rattle.std.proofs.Common.{refl, ap, ◌∙◌}
use Rattle.df_model.specs.Keyspace.{with_held}
use Rattle.std.specs.Prelude.{Some}
use Rattle.df_values.specs.Seen.{seen}
use Rattle.df_table.proofs.OneLaws.{put_new, kept_nothing}
use Rattle.df_table.proofs.table.Table.run_on_nothing.Goals as goal

pub returns-in-Put-clause-ok : goal.returns-in-Put-clause-ok
returns-in-Put-clause-ok c =
    put_new (one c.args.op.now) c.args.key.now c.args.self.now.keys c.reserve.new.self.keys c.put.new.self.keys c.in_ok-value.field-0 c.in-Put.value c.prepare_on_nothing.new.reply
    c.requires c.reserve.ensures.keys c.in_ok-value.ensures c.in-Put.is
    (c.put.ensures.keys ∙ ap (λ k. with_held c.reserve.new.self.keys k (Some (seen c.in-Put.value))) c.take.ensures.taken)

pub returns : goal.returns
returns c = record {
  ok = kept_nothing (one c.args.op.now) c.args.key.now c.args.self.now.keys c.in_ok-value.field-0 c.prepare_on_nothing.new.reply c.requires c.in_ok-value.ensures c.in_default.not-Put;
  keys = tt;
  kept = refl;
}
