use Rattle.std.proofs.Common.{sym, subst}
use Rattle.df_footprints.specs.Footprints.{AsksAlone}
use Rattle.df_caller.specs.declared.slip.Slip.{Slip}
use Rattle.df_shard.specs.Fields.{view_of}
use Rattle.df_shard.specs.Holds.{View}
use Rattle.df_shard.specs.Came.{Brought}
use Rattle.df_shard.specs.Turns.{IsHeld}
use Rattle.df_shard.proofs.Turns.{key-held, grant-waits}
use Rattle.df_shard.proofs.shard.Shard.turn.Goals as goal

pub turn_of_key-requires-clause-held : goal.turn_of_key-requires-clause-held
turn_of_key-requires-clause-held c =
    let x : View = view_of c.self.inside in let a = c.args.asked.now in
    let b : Brought x a.number a.hop a.slip.value.call = subst (λ (v : View). Brought v a.number a.hop a.slip.value.call) (sym c.self.view_is) c.requires.brought in
    let alone : AsksAlone a.slip.value.call c.in-Some.key.now c.in-Some.mode =
    subst (λ (v : Slip). AsksAlone v.call c.in-Some.key.now c.in-Some.mode) c.deref.ensures c.in-Some.ensures.alone in
    subst (λ (v : View). IsHeld v a.slip.value.call) c.self.view_is
    (key-held x a.number a.hop a.slip.value.call c.in-Some.key.now c.in-Some.mode c.self.invariant.some b alone (grant-waits _ c.in-Waits.ensures))
