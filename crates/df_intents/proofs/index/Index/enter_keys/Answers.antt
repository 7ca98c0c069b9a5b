use Rattle.std.proofs.Common.{◌≡◌, ◌<◌, ◌+◌, ◌||◌, ◌∷◌, ◌++◌, length, drop, take, sym, ap, ◌∙◌, arith}
use Rattle.std.proofs.lemmas.List.{drop_more}
use Rattle.df_footprints.specs.Asks.{Ask, asks_for, clashes_with, some_clash}
use Rattle.df_intents.specs.Counting.{for_key, held}
use Rattle.df_intents.proofs.AskLaws.{or_assoc}
use Rattle.df_intents.proofs.IndexLaws.{alike_next, retold, room_next}
use Rattle.df_intents.proofs.index.Index.enter_keys.Goals as goal

pub asks-preserved : goal.asks-preserved
asks-preserved c =
    let modes = c.args.modes.now in
    let k = c.asks.key-index in
    let item = c.asks-item.result in
    let a : Ask = for_key item.0 item.1 in
    let within : k < length modes = c.asks-test.true in
    let next : drop k modes ≡ item ∷ drop (k + 1) modes = drop_more modes k item within ∙ ap (λ x. x ∷ drop (k + 1) modes) (sym c.asks-item.is) in
    record {
      counts = λ bs lt h.
          retold c.enter_key-is_opposed.new.self (a ∷ (asks_for (take k modes) ++ bs)) (asks_for (take (k + 1) modes) ++ bs) (alike_next modes k item bs within c.asks-item.is)
          (c.enter_key-is_opposed.ensures.counts (asks_for (take k modes) ++ bs) (room_next k modes bs within lt) (c.asks.invariant.counts bs lt h));
      exact = λ hs once tells lt h.
          ap (λ r. r || some_clash (asks_for (drop (k + 1) modes)) (held hs)) (c.enter_key-is_opposed.ensures.exact (take k modes) hs once tells (c.asks.invariant.counts (held hs) lt h))
          ∙ or_assoc c.asks.is_opposed (clashes_with a (held hs)) (some_clash (asks_for (drop (k + 1) modes)) (held hs))
          ∙ ap (λ ms. c.asks.is_opposed || some_clash (asks_for ms) (held hs)) (sym next)
          ∙ c.asks.invariant.exact hs once tells lt h;
      spare = omega (arith, c.asks.invariant.spare, c.enter_key-is_opposed.ensures.spare);
    }
