use Rattle.std.proofs.Common.{arith, sym, ◌∙◌, ap, ◌≡◌, ◌≢◌, [], length, drop, min}
use Rattle.df_outside.proofs.CutLemmas.{IsAt, at_of, drop_at, cut_at-passes, cut_at-takes}
use Rattle.std.proofs.lemmas.List.{nil_from_length}
use Rattle.std.proofs.lemmas.Bool.Decides.{nat_tests}
use Rattle.df_outside.specs.Cuts.{cut_after}
use Rattle.df_outside.proofs.pieces.Pieces.take.Goals as goal

pub rest_of-rest-requires : goal.rest_of-rest-requires
rest_of-rest-requires c =
    let found = c.in-Some.ensures.lookup.3 in
    let here : IsAt c.pieces.self-inside.pieces.items c.pieces.self-inside.number c.in-Some.piece.now = at_of _ _ _ _ c.as_slice.ensures found.0 (found.1 []) in
    rw (drop_at here) at c.pieces.invariant.3

pub returns-then-not-is_empty-clause-cut : goal.returns-then-not-is_empty-clause-cut
returns-then-not-is_empty-clause-cut c =
    let found = c.in-Some.ensures.lookup.3 in
    let here : IsAt c.pieces.self-inside.pieces.items c.pieces.self-inside.number c.in-Some.piece.now = at_of _ _ _ _ c.as_slice.ensures found.0 (found.1 []) in
    let some : drop c.pieces.self-inside.at c.in-Some.piece.now ≢ [] =
    λ none. let nothing : length c.rest_of-rest.result.now ≡ 0 = ap length (c.rest_of-rest.ensures.rest ∙ none) in grind (arith, nat_tests) in
    let least : c.copy_front-count.result ≡ min (length (drop c.pieces.self-inside.at c.in-Some.piece.now)) (length c.args.buf.now) =
    rw (← c.rest_of-rest.ensures.rest, ← c.pieces.invariant.1) c.copy_front-count.ensures.count in
    cut_at-takes _ _ _ here some least ∙ ap (λ cut. cut_after (length c.args.buf.now) cut) c.pieces.invariant.0

pub pieces-preserved : goal.pieces-preserved
pieces-preserved c =
    let found = c.in-Some.ensures.lookup.3 in
    let here : IsAt c.pieces.self-inside.pieces.items c.pieces.self-inside.number c.in-Some.piece.now = at_of _ _ _ _ c.as_slice.ensures found.0 (found.1 []) in
    let none : drop c.pieces.self-inside.at c.in-Some.piece.now ≡ [] =
    let nothing : length c.rest_of-rest.result.now ≡ 0 = grind (arith, nat_tests) in sym c.rest_of-rest.ensures.rest ∙ nil_from_length _ nothing in
    let within = here.within in
    (cut_at-passes _ here none ∙ c.pieces.invariant.0, c.pieces.invariant.1, omega arith, omega arith)
