use Rattle.std.proofs.Common.{inl, inr, sym, subst}
use Rattle.std.specs.Prelude.{None}
use Rattle.df_model.specs.declared.command.Call.TheVariants.{Single}
use Rattle.df_footprints.proofs.GatherLaws.{on_ok}
use Rattle.df_keys.specs.Asked.{FootprintsStand}
use Rattle.df_keys.specs.Gathered.{StandAs}
use Rattle.df_keys.proofs.GatheredLaws.{one_stands, plain_stands, wrong_stands}
use Rattle.df_keys.proofs.find.find_keys_of.Goals as goal

pub returns-in-One-clause-found : goal.returns-in-One-clause-found
returns-in-One-clause-found c =
    let keys = c.put_one.new.keys.items in
    on_ok c.put_one.result
    (λ stand. subst (λ command. FootprintsStand c.args.shards (Single command) keys) (sym c.in-One.is)
    (one_stands c.args.shards c.in-One.key c.in-One.op c.mode_of.result keys c.mode_of.ensures stand))
    c.put_one.ensures.put

pub returns-in-Plain-clause-found : goal.returns-in-Plain-clause-found
returns-in-Plain-clause-found c =
    let keys = c.put_none.new.keys.items in
    let stand : StandAs c.args.shards (λ s. None) keys = subst (λ n. StandAs n (λ s. None) keys) c.requires.room c.put_none.ensures in
    elim c.in-Plain.is [
      | inl p ↦ subst (λ command. FootprintsStand c.args.shards (Single command) keys) (sym p.1) (plain_stands c.args.shards p.0 keys stand)
      | inr p ↦ subst (λ command. FootprintsStand c.args.shards (Single command) keys) (sym p.1) (wrong_stands c.args.shards p.0 keys stand)
    ]
