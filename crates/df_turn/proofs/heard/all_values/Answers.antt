use Rattle.std.proofs.Common.{◌≡◌, ◌++◌, [], ◌∷◌, ◌<◌, length, get_or, inl, inr, sym, ap, ◌∙◌, arith}
use Rattle.std.specs.Prelude.{None}
use Rattle.std.proofs.lemmas.Bool.{cases_lt}
use Rattle.std.proofs.lemmas.List.{length-append, get_or_default, get_or_past}
use Rattle.df_spread.specs.Spread.{values_at}
use Rattle.df_turn.specs.Heard.{values_heard}
use Rattle.df_turn.proofs.Places.{left-set, values-past, values-pushed}
use Rattle.df_turn.proofs.heard.all_values.Goals as goal

pub shards-preserved : goal.shards-preserved
shards-preserved c =
    let i = c.shards.outcome-index in
    let old = c.shards.values.items in
    let before = c.args.outcomes.now in
    let pushed : c.push.new.self.items ≡ old ++ c.take_values.result ∷ [] = c.in_ok-push.ensures.items in
    let within : i < length c.shards.outcomes = omega arith in
    let here = sym (c.shards.invariant.left i (omega arith)) ∙ get_or_default c.shards.outcomes i None c.outcome-item.result within in
    record {
      count = omega (arith, ap length pushed, length-append old (c.take_values.result ∷ []), c.shards.invariant.count);
      values = λ k lt.
          ap (λ l. values_at l k) pushed
          ∙ values-pushed (λ n. values_heard (get_or before n None)) old c.take_values.result i c.shards.invariant.count c.shards.invariant.values
          (c.take_values.ensures ∙ sym (ap values_heard here)) k lt;
      left = left-set c.shards.outcomes before c.take_values.new.outcome None i c.shards.invariant.left;
    }

pub returns-clause-values : goal.returns-clause-values
returns-clause-values c s =
    let before = c.args.outcomes.now in
    elim (cases_lt s (length before)) [
      | inl lt ↦ c.shards.invariant.values s (omega (arith, lt, c.shards-test.false))
      | inr le ↦
          values-past c.shards.values.items s (omega (arith, le, c.shards.invariant.count, c.shards.auto.outcome-index-end))
          ∙ sym (ap values_heard (get_or_past before s None le))
    ]
