use Rattle.std.proofs.Common.{◌≡◌, ◌∙◌, ap, refl, sym, subst}
use Rattle.std.specs.Prelude.{map, set}
use Rattle.std.proofs.lemmas.List.{map-set}
use Rattle.df_post.specs.Fits.{awaited_by}
use Rattle.df_post.specs.Rounds.{IsMine, RoundView, Unsent, place_of, round_of}
use Rattle.df_post.specs.declared.slot.Slot.{Slot}
use Rattle.df_post.specs.declared.slot.Slot.TheVariants as in_slot
use Rattle.df_post.proofs.RoundLaws.{each-set, few-set, with_places}
use Rattle.df_post.proofs.round.Round.add.Goals as goal

pub invariant_of-self : goal.invariant_of-self
invariant_of-self c =
    let slots = c.self.inside.slots.items in let z = c.self.inside.book.value in let m = c.args.m in let slot : Slot = in_slot.Unsent m in record {
      few = few-set slots m.shard slot _ c.self.invariant.few;
      mine = each-set (IsMine z) slots m.shard slot in_slot.Idle c.self.invariant.mine
          (refl, c.requires.book ∙ sym (ap (λ (x : RoundView). x.book) c.self.view_is));
    }

pub returns : goal.returns
returns c =
    let r : RoundView = round_of c.self.inside in let slots = c.self.inside.slots.items in let m = c.args.m in let slot : Slot = in_slot.Unsent m in
    subst (λ (x : RoundView). with_places r (map place_of (set slots m.shard slot)) ≡ with_places x (set x.places m.shard (Unsent (awaited_by m)))) c.self.view_is
    (ap (with_places r) (map-set place_of slots m.shard slot))
