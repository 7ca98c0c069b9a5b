use Rattle.std.proofs.Common.{◌≡◌, ◌<◌, ◌≤◌, true, false, length, sym, ◌∙◌, arith, rules}
use Rattle.std.specs.Prelude.{slice_get}
use Rattle.std.specs.Cmp.Lexicographic.{unequal}
use Rattle.std.specs.FinMap.{len-entries}
use Rattle.std.specs.FinMap as fin
use Rattle.df_spread.specs.Pairs.{both, same_field}
use Rattle.df_spread.proofs.PointLaws.{place_holds, place_fails, places_end}
use Rattle.df_spread.proofs.same.same_hashes.Goals as goal

pub returns-then-count-len : goal.returns-then-count-len
returns-then-count-len c =
    let count = len-entries c.args.a.now.fields in
    let other = len-entries c.args.b.now.fields in
    sym (unequal same_field (fin.entries c.args.a.now.fields) (fin.entries c.args.b.now.fields) (λ e. omega arith))

pub returns-then-not-same_pair : goal.returns-then-not-same_pair
returns-then-not-same_pair c =
    let xs = fin.entries c.args.a.now.fields in
    let ys = fin.entries c.args.b.now.fields in
    let count = len-entries c.args.a.now.fields in
    let other = len-entries c.args.b.now.fields in
    let n = c.fields.at in
    let lt : n < length xs = omega arith in
    let long : length xs ≡ length ys = omega arith in
    let said : c.same_pair.result ≡ false = search rules in
    let here : both same_field (slice_get xs n) (slice_get ys n) ≡ false =
    sym (λ i. both same_field (c.at.ensures i) (c.at-in-fields.ensures i)) ∙ sym c.same_pair.ensures ∙ said in
    place_fails same_field xs ys n _ lt long c.fields.invariant here

pub fields-preserved : goal.fields-preserved
fields-preserved c =
    let xs = fin.entries c.args.a.now.fields in
    let ys = fin.entries c.args.b.now.fields in
    let count = len-entries c.args.a.now.fields in
    let other = len-entries c.args.b.now.fields in
    let n = c.fields.at in
    let lt : n < length xs = omega arith in
    let long : length xs ≡ length ys = omega arith in
    let said : c.same_pair.result ≡ true = search rules in
    let here : both same_field (slice_get xs n) (slice_get ys n) ≡ true =
    sym (λ i. both same_field (c.at.ensures i) (c.at-in-fields.ensures i)) ∙ sym c.same_pair.ensures ∙ said in
    place_holds same_field xs ys n _ lt long c.fields.invariant here

pub returns : goal.returns
returns c =
    let xs = fin.entries c.args.a.now.fields in
    let ys = fin.entries c.args.b.now.fields in
    let count = len-entries c.args.a.now.fields in
    let other = len-entries c.args.b.now.fields in
    let n = c.fields.at in
    let le : length xs ≤ n = omega arith in
    let long : length xs ≡ length ys = omega arith in
    places_end same_field xs ys n _ le long c.fields.invariant
