use Rattle.std.proofs.Common.{◌≡◌, ◌<◌, ◌≤◌, true, false, length, sym, ◌∙◌, arith, rules}
use Rattle.std.specs.Prelude.{slice_get}
use Rattle.std.specs.Cmp.Lexicographic.{unequal}
use Rattle.df_model.specs.Words.{same}
use Rattle.df_model.specs.Members.{items}
use Rattle.df_spread.specs.Pairs.{both}
use Rattle.df_spread.proofs.PointLaws.{count_items, place_holds, place_fails, places_end}
use Rattle.df_spread.proofs.same.same_sets.Goals as goal

pub returns-then-count-len : goal.returns-then-count-len
returns-then-count-len c =
    let count = count_items c.args.a.now.members in
    let other = count_items c.args.b.now.members in
    sym (unequal same (items c.args.a.now.members) (items c.args.b.now.members) (λ e. omega arith))

pub returns-then-not-same_word : goal.returns-then-not-same_word
returns-then-not-same_word c =
    let xs = items c.args.a.now.members in
    let ys = items c.args.b.now.members in
    let count = count_items c.args.a.now.members in
    let other = count_items c.args.b.now.members in
    let n = c.members.at in
    let lt : n < length xs = omega arith in
    let long : length xs ≡ length ys = omega arith in
    let said : c.same_word.result ≡ false = search rules in
    let here : both same (slice_get xs n) (slice_get ys n) ≡ false =
    sym (λ i. both same (c.at.ensures i) (c.at-in-members.ensures i)) ∙ sym c.same_word.ensures ∙ said in
    place_fails same xs ys n _ lt long c.members.invariant here

pub members-preserved : goal.members-preserved
members-preserved c =
    let xs = items c.args.a.now.members in
    let ys = items c.args.b.now.members in
    let count = count_items c.args.a.now.members in
    let other = count_items c.args.b.now.members in
    let n = c.members.at in
    let lt : n < length xs = omega arith in
    let long : length xs ≡ length ys = omega arith in
    let said : c.same_word.result ≡ true = search rules in
    let here : both same (slice_get xs n) (slice_get ys n) ≡ true =
    sym (λ i. both same (c.at.ensures i) (c.at-in-members.ensures i)) ∙ sym c.same_word.ensures ∙ said in
    place_holds same xs ys n _ lt long c.members.invariant here

pub returns : goal.returns
returns c =
    let xs = items c.args.a.now.members in
    let ys = items c.args.b.now.members in
    let count = count_items c.args.a.now.members in
    let other = count_items c.args.b.now.members in
    let n = c.members.at in
    let le : length xs ≤ n = omega arith in
    let long : length xs ≡ length ys = omega arith in
    places_end same xs ys n _ le long c.members.invariant
