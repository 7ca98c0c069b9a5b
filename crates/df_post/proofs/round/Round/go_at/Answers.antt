use Rattle.std.proofs.Common.{◌≡◌, ◌∙◌, ◌<◌, length, refl, ap, sym, subst, arith}
use Rattle.std.specs.Prelude.{map, set}
use Rattle.std.proofs.lemmas.List.{length-map, map-set}
use Rattle.df_post.specs.Postings.{Posting}
use Rattle.df_post.specs.Rounds.{Counts, Goes, IsMine, Matches, Place, RoundView, is_done, place_at, place_of, round_of, slot_at}
use Rattle.df_post.specs.declared.slot.Slot.{Slot}
use Rattle.df_post.specs.declared.slot.Slot.TheVariants as in_slot
use Rattle.df_post.proofs.RoundLaws.{each-set, few-set, matches-set, place-new, place-read, slot-read}
use Rattle.df_post.proofs.round.Round.go_at.Goals as goal

pub invariant_of-self : goal.invariant_of-self
invariant_of-self g c =
    let slots = c.self.inside.slots.items in let s = c.args.shard in let z = c.self.inside.book.value in
    let p : Posting = g.P.Post.posting c.args.post.now in let next : Slot = c.go-next.result in
    let book : z ≡ p.book = ap (λ (x : RoundView). x.book) c.self.view_is ∙ c.requires.matches.book in
    record {
      few = few-set slots s next _ c.self.invariant.few;
      mine = each-set (IsMine z) slots s next in_slot.Idle c.self.invariant.mine (subst (λ b. IsMine b s next) (sym book) c.go-next.ensures.mine);
    }

pub returns-clause-matches : goal.returns-clause-matches
returns-clause-matches g c =
    let slots = c.self.inside.slots.items in let s = c.args.shard in let p : Posting = g.P.Post.posting c.args.post.now in
    let next : Slot = c.go-next.result in let r : RoundView = round_of c.self.inside in
    let m : Matches r p = subst (λ (x : RoundView). Matches x p) (sym c.self.view_is) c.requires.matches in
    matches-set r (record r { places = map place_of (set slots s next) }) p (g.P.Post.posting c.go-next.new.post) s (place_of next) refl
    (map-set place_of slots s next) m c.go-next.ensures.only

pub returns-clause-one : goal.returns-clause-one
returns-clause-one g c =
    let slots = c.self.inside.slots.items in let s = c.args.shard in let next : Slot = c.go-next.result in
    let there : s < length slots = omega (arith, length-map slots place_of, subst (λ (x : RoundView). s < length x.places) (sym c.self.view_is) c.requires.there) in
    let now : RoundView = record (round_of c.self.inside) { places = map place_of (set slots s next) } in
    subst (λ (x : RoundView). now.places ≡ set x.places s (place_at s now)) c.self.view_is
    (map-set place_of slots s next ∙ ap (set (map place_of slots) s) (sym (place-new slots s next there)))

pub returns-clause-goes : goal.returns-clause-goes
returns-clause-goes g c =
    let slots = c.self.inside.slots.items in let s = c.args.shard in let next : Slot = c.go-next.result in
    let there : s < length slots = omega (arith, length-map slots place_of, subst (λ (x : RoundView). s < length x.places) (sym c.self.view_is) c.requires.there) in
    let read : slot_at s slots ≡ c.replace.result = slot-read slots s c.index_mut-slot.result.now there c.index_mut-slot.ensures.value ∙ sym c.replace.ensures.value in
    let now : RoundView = record (round_of c.self.inside) { places = map place_of (set slots s next) } in
    subst (λ (x : RoundView). Goes (place_at s x) (place_at s now)) c.self.view_is
    (subst (λ (x : Place). Goes x (place_at s now)) (sym (place-read slots s ∙ ap place_of read))
    (subst (λ (x : Place). Goes (place_of c.replace.result) x) (sym (place-new slots s next there)) c.go-next.ensures.goes))

pub returns-clause-counts : goal.returns-clause-counts
returns-clause-counts g c =
    let slots = c.self.inside.slots.items in let s = c.args.shard in let next : Slot = c.go-next.result in
    let n = (g.P.Post.posting c.args.post.now).stalls in let m = (g.P.Post.posting c.go-next.new.post).stalls in
    let there : s < length slots = omega (arith, length-map slots place_of, subst (λ (x : RoundView). s < length x.places) (sym c.self.view_is) c.requires.there) in
    let read : slot_at s slots ≡ c.replace.result = slot-read slots s c.index_mut-slot.result.now there c.index_mut-slot.ensures.value ∙ sym c.replace.ensures.value in
    let now : RoundView = record (round_of c.self.inside) { places = map place_of (set slots s next) } in
    subst (λ (x : RoundView). Counts (place_at s x) (place_at s now) n m) c.self.view_is
    (subst (λ (x : Place). Counts x (place_at s now) n m) (sym (place-read slots s ∙ ap place_of read))
    (subst (λ (x : Place). Counts (place_of c.replace.result) x n m) (sym (place-new slots s next there)) c.go-next.ensures.counts))

pub returns-clause-done : goal.returns-clause-done
returns-clause-done g c =
    let slots = c.self.inside.slots.items in let s = c.args.shard in let next : Slot = c.go-next.result in
    let there : s < length slots = omega (arith, length-map slots place_of, subst (λ (x : RoundView). s < length x.places) (sym c.self.view_is) c.requires.there) in
    c.is_done-done.ensures ∙ ap is_done (sym (place-new slots s next there))
