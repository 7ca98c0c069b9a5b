use Rattle.std.proofs.Common.{◌≡◌, ◌∙◌, ap, sym, subst, ℕ}
use Rattle.std.specs.Prelude.{Some}
use Rattle.df_model.specs.Hash.{shard_of}
use Rattle.df_model.specs.Keyspace.{Keyspace, with_held}
use Rattle.df_values.specs.Seen.{seen}
use Rattle.df_table.specs.Tables.{Roomy}
use Rattle.df_shard.specs.Fields.{view_of}
use Rattle.df_shard.specs.Holds.{View, Holds}
use Rattle.df_shard.proofs.Loads.{loads-key}
use Rattle.df_shard.proofs.shard.Shard.load.Goals as goal

pub invariant_of-self : goal.invariant_of-self
invariant_of-self c =
    subst (λ (t : Keyspace × ℕ). Holds (record (view_of c.self.inside) { keys = t.0; kept = t.1 })) (λ j. (sym c.reserve.ensures.keys j, sym c.reserve.ensures.kept j)) c.self.invariant

pub invariant_of-self-2 : goal.invariant_of-self-2
invariant_of-self-2 c =
    let x : View = view_of c.self.inside in
    let K : Keyspace = c.put.new.self.keys in
    let is : K ≡ with_held x.keys c.args.key (Some (seen c.args.value)) =
    c.put.ensures.keys ∙ ap (λ L. with_held L c.args.key (Some (seen c.args.value))) c.reserve.ensures.keys in
    subst (λ (t : Keyspace × ℕ). Holds (record x { first = t.0; keys = K; kept = t.1 }))
    (λ j. (sym (ap (λ (t : Roomy). t.keys) c.of.ensures) j, sym (c.put.ensures.kept ∙ c.reserve.ensures.kept) j))
    (loads-key x K c.args.key (Some (seen c.args.value)) c.self.invariant (ap (λ (v : View). v.pass.log) c.self.view_is ∙ c.requires.fresh.0)
    (ap (λ (v : View). v.places) c.self.view_is ∙ c.requires.fresh.1)
    (subst (λ (v : View). shard_of c.args.key v.shards ≡ v.index) (sym c.self.view_is) c.requires.own) is)
