use Rattle.std.proofs.Common.{◌∙◌, [], ◌∷◌, length, ap, arith, length-append}
use Rattle.df_post.specs.Rounds.{slot_at}
use Rattle.df_post.specs.declared.slot.Slot.TheVariants as in_slot
use Rattle.df_post.proofs.RoundLaws.{idle-push}
use Rattle.df_post.proofs.round.new_slots.Goals as goal

pub shards-preserved : goal.shards-preserved
shards-preserved c =
    let slots = c.shards.slots.items in let e = c.in_ok-push.ensures.items in (
      omega (arith, ap length e, length-append slots (in_slot.Idle ∷ []), c.shards.invariant.0),
      λ s. ap (slot_at s) e ∙ idle-push slots c.shards.invariant.1 s,
    )
