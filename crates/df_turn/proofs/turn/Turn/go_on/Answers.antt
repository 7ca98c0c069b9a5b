use Rattle.std.proofs.Common.{◌≡◌, length, sym, ap, subst, ◌∙◌}
use Rattle.std.specs.Vec.{with_items}
use Rattle.std.proofs.lemmas.List.{with_items_is}
use Rattle.df_rounds.specs.Standing.{then_told}
use Rattle.df_turn.specs.Turns.{IsAnswered, WentOn}
use Rattle.df_turn.proofs.OverLaws.{went_on}
use Rattle.df_turn.proofs.turn.Turn.go_on.Goals as goal

pub returns : goal.returns
returns c =
    let v = c.args.outcomes.now in
    let w = with_items v c.next-next.new.outcomes in
    let left = c.forget.new.outcomes in
    let count : length left ≡ v.len = c.forget.auto.outcomes ∙ ap length c.as_mut_slice-2.ensures.value ∙ sym w.ok.0 in
    let is : (with_items w left).items ≡ left = with_items_is w left count in
    record {
      went = λ asked standing told a.
          subst (WentOn c.next-next.result c.args.shards asked (then_told told standing) c.next-next.new.self) (sym is)
          (went_on c.args.shards asked (then_told told standing) c.next-next.new.self left c.next-next.result
          (c.next-next.ensures.went asked standing told
          (subst (IsAnswered c.args.shards asked standing told c.args.self.now c.args.command.now) (sym c.as_mut_slice.ensures.value) a))
          (count ∙ v.ok.0 ∙ a.count, c.forget.ensures));
    }
