use Rattle.std.proofs.Common.{◌≡◌, ◌++◌, [], ◌∷◌, length, inl, inr, sym, ap, ◌∙◌, arith}
use Rattle.std.specs.Prelude.{None}
use Rattle.std.specs.Option.{option_map}
use Rattle.std.proofs.lemmas.Bool.{cases_lt}
use Rattle.std.proofs.lemmas.List.{length-append, get_or_default, get_or_past}
use Rattle.df_hops.specs.Parts.{act_of}
use Rattle.df_spread.specs.Spread.{modes_at}
use Rattle.df_keys.specs.Asked.{footprint_there}
use Rattle.df_turn.specs.Asked.{keys_named, read_named}
use Rattle.df_turn.specs.Turns.{part_for}
use Rattle.df_turn.proofs.Places.{each-pushed, modes-past, modes-pushed}
use Rattle.df_turn.proofs.named.reads.Goals as goal

pub shards-preserved : goal.shards-preserved
shards-preserved c =
    let i = c.shards.asked-index in
    let keys = c.args.keys.now in
    let parts : c.push.new.self.items ≡ c.shards.parts.items ++ c.in_ok-part.part ∷ [] = c.in_ok-push.ensures.items in
    let kept : c.push-in-shards.new.self.items ≡ c.shards.kept.items ++ c.in_ok-part.modes ∷ [] = c.in_ok-push-2.ensures.items in
    let here : option_map (λ k. k.value) c.asked-item.result ≡ footprint_there i keys =
    ap (option_map (λ k. k.value)) (c.asked-item.is ∙ sym (get_or_default keys i None c.asked-item.result c.shards-test.true)) in
    record {
      counts = (
        omega (arith, ap length parts, length-append c.shards.parts.items (c.in_ok-part.part ∷ []), c.shards.invariant.counts.0),
        omega (arith, ap length kept, length-append c.shards.kept.items (c.in_ok-part.modes ∷ []), c.shards.invariant.counts.1),
      );
      parts = λ k lt.
          ap (λ l. option_map act_of (part_for k l)) parts
          ∙ each-pushed (λ n part. option_map act_of part ≡ read_named (footprint_there n keys)) c.shards.parts.items c.in_ok-part.part None i
          c.shards.invariant.counts.0 c.shards.invariant.parts (c.in_ok-part.ensures.part ∙ ap read_named here) k lt;
      kept = λ k lt.
          ap (λ l. modes_at l k) kept
          ∙ modes-pushed (λ n. keys_named (footprint_there n keys)) c.shards.kept.items c.in_ok-part.modes i c.shards.invariant.counts.1 c.shards.invariant.kept
          (c.in_ok-part.ensures.keys ∙ ap keys_named here) k lt;
    }

pub returns-clause-keys : goal.returns-clause-keys
returns-clause-keys c s =
    let keys = c.args.keys.now in
    elim (cases_lt s (length keys)) [
      | inl lt ↦ c.shards.invariant.kept s (omega (arith, lt, c.shards-test.false))
      | inr le ↦
          modes-past c.shards.kept.items s (omega (arith, le, c.shards.invariant.counts.1, c.shards.auto.asked-index-end))
          ∙ sym (ap (λ o. keys_named (option_map (λ k. k.value) o)) (get_or_past keys s None le))
    ]
