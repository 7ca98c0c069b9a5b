use Rattle.std.proofs.Common.{◌≡◌, ◌<◌, true, false, length, sym, ◌∙◌, arith, rules}
use Rattle.std.specs.Prelude.{slice_get}
use Rattle.df_model.specs.Words.{same}
use Rattle.df_spread.specs.Pairs.{both}
use Rattle.df_spread.proofs.PointLaws.{place_holds, place_fails}
use Rattle.df_spread.proofs.same.same_lists.Goals as goal

pub returns-then-not-same_word : goal.returns-then-not-same_word
returns-then-not-same_word c =
    let xs = c.args.a.now.items in
    let ys = c.args.b.now.items in
    let n = c.elements.at in
    let lt : n < length xs = omega arith in
    let long : length xs ≡ length ys = omega arith in
    let said : c.same_word.result ≡ false = search rules in
    let here : both same (slice_get xs n) (slice_get ys n) ≡ false =
    sym (λ i. both same (c.get.ensures i) (c.get-in-elements.ensures i)) ∙ sym c.same_word.ensures ∙ said in
    place_fails same xs ys n _ lt long c.elements.invariant here

pub elements-preserved : goal.elements-preserved
elements-preserved c =
    let xs = c.args.a.now.items in
    let ys = c.args.b.now.items in
    let n = c.elements.at in
    let lt : n < length xs = omega arith in
    let long : length xs ≡ length ys = omega arith in
    let said : c.same_word.result ≡ true = search rules in
    let here : both same (slice_get xs n) (slice_get ys n) ≡ true =
    sym (λ i. both same (c.get.ensures i) (c.get-in-elements.ensures i)) ∙ sym c.same_word.ensures ∙ said in
    place_holds same xs ys n _ lt long c.elements.invariant here
