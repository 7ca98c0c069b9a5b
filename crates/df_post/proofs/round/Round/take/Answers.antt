use Rattle.std.proofs.Common.{◌≡◌, ◌∙◌, ◌<◌, length, ap, sym, subst, arith, true}
use Rattle.std.specs.Prelude.{IfSome, map, set}
use Rattle.std.proofs.lemmas.List.{length-map, map-set}
use Rattle.df_hops.specs.Shown.{book_shown}
use Rattle.df_post.specs.Fits.{fits}
use Rattle.df_post.specs.declared.awaited.Awaited.{Awaited}
use Rattle.df_post.specs.Rounds.{Answered, Idle, IsMine, Lies, RoundView, place_at, place_of, round_of, slot_at}
use Rattle.df_post.specs.declared.slot.Slot.{Slot}
use Rattle.df_post.specs.declared.slot.Slot.TheVariants as in_slot
use Rattle.df_post.proofs.RowLaws.{if-some}
use Rattle.df_post.proofs.RoundLaws.{each-set, few-set, left-mine, lies-fits, place-read, slot-read, with_places}
use Rattle.df_post.proofs.round.Round.take.Goals as goal

pub invariant_of-self : goal.invariant_of-self
invariant_of-self c =
    let slots = c.self.inside.slots.items in let s = c.args.shard in let z = c.self.inside.book.value in
    let there : s < length slots = omega (arith, length-map slots place_of, subst (λ (x : RoundView). s < length x.places) (sym c.self.view_is) c.requires.there) in
    let read : slot_at s slots ≡ c.replace.result = slot-read slots s c.index_mut-slot.result.now there c.index_mut-slot.ensures.value ∙ sym c.replace.ensures.value in
    let left : Slot = c.hand_out-left.result.0 in
    let mine = subst (IsMine z s) read (c.self.invariant.mine s) in record {
      few = few-set slots s left _ c.self.invariant.few;
      mine = each-set (IsMine z) slots s left in_slot.Idle c.self.invariant.mine
          (left-mine z s c.replace.result left c.hand_out-left.result.1 c.hand_out-left.ensures.came c.hand_out-left.ensures.none mine);
    }

pub returns-clause-took : goal.returns-clause-took
returns-clause-took c =
    let r : RoundView = round_of c.self.inside in let slots = c.self.inside.slots.items in let s = c.args.shard in let z = c.self.inside.book.value in
    let there : s < length slots = omega (arith, length-map slots place_of, subst (λ (x : RoundView). s < length x.places) (sym c.self.view_is) c.requires.there) in
    let read : slot_at s slots ≡ c.replace.result = slot-read slots s c.index_mut-slot.result.now there c.index_mut-slot.ensures.value ∙ sym c.replace.ensures.value in
    let left : Slot = c.hand_out-left.result.0 in let mine = subst (IsMine z s) read (c.self.invariant.mine s) in
    subst (λ (x : RoundView). IfSome c.hand_out-left.result.1 (λ answer. (a : Awaited) × (place_at s x ≡ Answered a) × (fits a s answer ≡ true)
    × (book_shown x.book answer.body ≡ x.book) × (with_places r (map place_of (set slots s left)) ≡ with_places x (set x.places s Idle)))) c.self.view_is
    (if-some c.hand_out-left.result.1 _ _ (λ answer (h : Lies c.replace.result answer × (left ≡ in_slot.Idle)).
    let f = lies-fits z s c.replace.result answer mine h.0 in (
      f.0,
      place-read slots s ∙ ap place_of read ∙ f.1,
      f.2,
      f.3,
      ap (with_places r) (map-set place_of slots s left ∙ ap (λ (x : Slot). set (map place_of slots) s (place_of x)) h.1),
    )) c.hand_out-left.ensures.came)
