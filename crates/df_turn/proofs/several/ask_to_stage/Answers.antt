use Rattle.std.proofs.Common.{◌≡◌, ℕ, [], ◌<◌, length, get_or, sym, ap, ◌∙◌, arith}
use Rattle.std.specs.Prelude.{None}
use Rattle.std.specs.Option.{option_map}
use Rattle.std.proofs.lemmas.List.{get_or_default}
use Rattle.df_model.specs.Spared.{all_of}
use Rattle.df_rounds.specs.Standing.{stage_of}
use Rattle.df_hops.specs.Parts.{act_of}
use Rattle.df_spread.specs.Spread.{changes_at, changes_seen}
use Rattle.df_turn.proofs.Places.{changes-get, each-set, left-set}
use Rattle.df_turn.proofs.SeveralGoes.{some-more, none-more}
use Rattle.df_turn.proofs.several.ask_to_stage.Goals as goal
use Rattle.df_turn.proofs.several.ask_to_stage.Goals.{then-is_some, else-is_some}

pub shards-preserved : goal.shards-preserved
shards-preserved c =
    let s = c.shards.s in
    let before = c.args.changes.now in
    let f = λ (n : ℕ). changes_seen (changes_at before n) in
    let inside : s < length c.shards.changes = omega arith in
    let within : s < length c.shards.parts = omega (arith, c.requires) in
    let here : c.take.result ≡ get_or before s (all_of []) =
    c.take.ensures.all ∙ get_or_default c.shards.changes s c.index-changes-s.result (all_of []) inside
    ∙ c.shards.invariant.left s (omega arith) in
    let part : option_map act_of c.in_ok-part.part ≡ stage_of (f s) =
    c.in_ok-part.ensures ∙ ap (λ x. stage_of (changes_seen x.items)) here ∙ ap (λ x. stage_of (changes_seen x)) (sym (changes-get before s)) in
    record {
      any = elim c.if-is_some.branch [
        | then-is_some w ↦ w.any-is ∙ some-more s f c.in_ok-part.part part (sym c.is_some.ensures ∙ w.if-is_some.true)
        | else-is_some w ↦ w.any-is ∙ none-more s f c.in_ok-part.part c.shards.any part (sym c.is_some.ensures ∙ w.if-is_some.false) c.shards.invariant.any
      ];
      parts = each-set (λ n x. option_map act_of x ≡ stage_of (f n)) c.shards.parts c.replace-old.new.dest None s within c.shards.invariant.parts
          (ap (option_map act_of) c.replace-old.ensures.after ∙ part);
      left = left-set c.shards.changes before c.take.new.self (all_of []) s c.shards.invariant.left;
    }
