use Rattle.std.proofs.Common.{◌∙◌, ap, sym, subst}
use Rattle.df_footprints.specs.Footprints.{footprint_of}
use Rattle.df_caller.specs.declared.slip.Slip.{Slip}
use Rattle.df_shard.specs.Fields.{view_of}
use Rattle.df_shard.specs.Holds.{View}
use Rattle.df_shard.specs.Came.{Brought}
use Rattle.df_shard.proofs.Turns.{asks-some}
use Rattle.df_shard.proofs.shard.Shard.asks.Goals as goal

pub unreachable-requires : goal.unreachable-requires
unreachable-requires c =
    let x : View = view_of c.self.inside in let a = c.args.asked.now in
    let b : Brought x a.number a.hop a.slip.value.call = subst (λ (v : View). Brought v a.number a.hop a.slip.value.call) (sym c.self.view_is) c.requires.brought in
    asks-some x a.number a.hop a.slip.value.call b
    (ap (λ (v : Slip). footprint_of x.shards v.call x.index) (sym c.deref.ensures) ∙ sym c.in_ok-keys.ensures ∙ c.in-None.is)
