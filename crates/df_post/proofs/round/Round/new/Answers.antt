use Rattle.std.proofs.Common.{◌∙◌, ap, sym, subst, arith}
use Rattle.std.proofs.lemmas.List.{length-map}
use Rattle.df_post.specs.Rounds.{IsMine, place_of}
use Rattle.df_post.specs.declared.slot.Slot.{Slot}
use Rattle.df_post.proofs.RoundLaws.{place-read}
use Rattle.df_post.proofs.round.Round.new.Goals as goal

pub invariant_of-result : goal.invariant_of-result
invariant_of-result c = record {
  few = omega (arith, c.in_ok-slots.ensures.room);
  mine = λ s. subst (λ (x : Slot). IsMine c.of.result.value s x) (sym (c.in_ok-slots.ensures.idle s)) tt;
}

pub returns-clause-room : goal.returns-clause-room
returns-clause-room c = length-map c.in_ok-slots.slots.items place_of ∙ c.in_ok-slots.ensures.room

pub returns-clause-idle : goal.returns-clause-idle
returns-clause-idle c = λ s. place-read c.in_ok-slots.slots.items s ∙ ap place_of (c.in_ok-slots.ensures.idle s)
