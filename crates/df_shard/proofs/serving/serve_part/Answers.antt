use Rattle.std.proofs.Common.{◌+◌, ◌∙◌, refl, ℕ}
use Rattle.std.specs.Prelude.{None}
use Rattle.std.proofs.lemmas.Bool.{false≢true}
use Rattle.df_log.specs.Acts.{Act, Told}
use Rattle.df_hops.specs.Parts.{act_of}
use Rattle.df_hops.specs.Came.{given_as}
use Rattle.df_shard.specs.Holds.{changes_seen, hopping}
use Rattle.df_shard.proofs.RanLaws.{linked-plain, told-as}
use Rattle.df_shard.proofs.serving.serve_part.Goals as goal

pub returns : goal.returns
returns c =
    let w = c.args.call.now in let hop : ℕ = c.args.hop in let act : Act = act_of c.args.part in
    let K = c.args.table.now.keys in let d = c.do_part-outcome.ensures in let outcome = c.do_part-outcome.result in
    let told : Told = given_as outcome c.args.shards c.args.index K act in
    record {
      ran = record { hop = hop; act = act; call = None };
      told = told;
      changes = changes_seen c.do_part-outcome.new.staged.items;
      armed = refl;
      entry = c.did-entry.ensures
          ∙ (λ j. record { number = w.number; hop = hop; act = act_of (c.of-asked.ensures j); told = given_as outcome c.args.shards c.args.index (c.of-keys.ensures j).keys (act_of (c.of-asked.ensures j)) });
      hop = refl;
      after = λ j. record { number = w.number; conn = w.conn; above = hop + 1; armed = hopping (c.requires.idle j); staged = changes_seen c.do_part-outcome.new.staged.items };
      is_told = told-as c.args.shards c.args.index K act outcome (linked-plain act c.requires.linked) d.wants;
      keys = d.keys;
      staged = d.changes;
      room = d.room;
      said = (refl, d.said, d.wants, refl);
      bare = λ e. absurd (false≢true e);
    }
