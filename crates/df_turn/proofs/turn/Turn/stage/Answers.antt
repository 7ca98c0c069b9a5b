use Rattle.std.proofs.Common.{◌≡◌, ◌<◌, length, inr, refl, sym, ap, subst, ◌∙◌}
use Rattle.std.specs.Option.{option_map}
use Rattle.std.specs.Vec.{with_items}
use Rattle.std.proofs.lemmas.List.{with_items_is}
use Rattle.df_rounds.specs.Standing.{stage_of}
use Rattle.df_hops.specs.Parts.{act_of}
use Rattle.df_spread.specs.Spread.{changes_at, changes_seen}
use Rattle.df_turn.specs.Steps.{changes_any}
use Rattle.df_turn.specs.Turns.{part_for}
use Rattle.df_turn.proofs.turn.Turn.stage.Goals as goal

pub returns-in-Ok-false : goal.returns-in-Ok-false
returns-in-Ok-false c =
    inr (
      refl,
      ap (λ n. changes_any n (λ s. changes_seen (changes_at c.args.changes.items s))) (sym c.requires)
          ∙ ap (λ l. changes_any (length l) (λ s. changes_seen (changes_at l s))) (sym c.as_mut_slice-2.ensures.value)
          ∙ sym c.in-Ok-false.ensures.any ∙ c.in-Ok-false.field-0-test,
    )

pub returns : goal.returns
returns c =
    let v = c.args.self.now.parts in
    let new = c.ask_to_stage.new.parts in
    let count : length new ≡ length v.items = c.ask_to_stage.auto.parts ∙ ap length c.as_mut_slice.ensures.value in
    let is : (with_items v new).items ≡ new = with_items_is v new (count ∙ sym v.ok.0) in
    let made : length c.as_mut_slice-2.result.now ≡ length v.items = ap length c.as_mut_slice-2.ensures.value ∙ c.requires in
    inr (record {
      any =
          ap (λ n. changes_any n (λ s. changes_seen (changes_at c.args.changes.items s))) (sym c.requires)
          ∙ ap (λ l. changes_any (length l) (λ s. changes_seen (changes_at l s))) (sym c.as_mut_slice-2.ensures.value)
          ∙ sym c.in-Ok-true.ensures.any ∙ c.in-Ok-true.field-0-test;
      rest = refl;
      hop = refl;
      count = ap length is ∙ count;
      parts = λ s lt.
          ap (λ l. option_map act_of (part_for s l)) is
          ∙ c.in-Ok-true.ensures.parts s (subst (λ n. s < n) (sym made) lt)
          ∙ ap (λ l. stage_of (changes_seen (changes_at l s))) c.as_mut_slice-2.ensures.value;
    })
