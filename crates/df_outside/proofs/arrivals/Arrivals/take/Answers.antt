use Rattle.std.proofs.Common.{arith, rules, ◌<◌, ◌++◌, ◌≤◌, ◌+◌, sym, ◌∙◌, ap, subst, ◌≡◌, ◌≢◌, ℕ, List, ◌∷◌, [], length, drop, take, min}
use Rattle.std.proofs.lemmas.Bool.Decides.{nat_tests}
use Rattle.std.proofs.lemmas.List.{nil_from_length, take_min}
use Rattle.df_outside.proofs.ArrivalLemmas.{IsAt, at_of, drop_at, taken_at-passes, taken_at-waits, taken_at-waits-taken, taken_at-takes, taken_at-next}
use Rattle.df_outside.specs.Arrivals.{Taken, taken_after, taken_at, first_bytes, next_bytes}
use Rattle.df_outside.specs.declared.arrivals.Arrival.TheVariants as arrival
use Rattle.df_outside.proofs.arrivals.Arrivals.take.Goals as goal

pub returns-in-NotYet : goal.returns-in-NotYet
returns-in-NotYet c =
    let found = c.in-Some.ensures.lookup.3 in
    let here : IsAt c.arrivals.self-inside.arrivals.items c.arrivals.self-inside.number arrival.NotYet =
    at_of _ _ _ _ c.as_slice.ensures.value found.0 (sym c.in-NotYet.is ∙ found.1 arrival.NotYet) in
    let none : c.arrivals.self-inside.at ≤ length (first_bytes (arrival.NotYet ∷ drop (c.arrivals.self-inside.number + 1) c.arrivals.self-inside.arrivals.items)) =
    subst (λ left. c.arrivals.self-inside.at ≤ length (first_bytes left)) (drop_at here) c.arrivals.invariant.3 in
    let zero : c.arrivals.self-inside.at ≡ 0 = omega arith in
    let same : taken_at c.arrivals.self-inside.number 0 c.arrivals.self-inside.arrivals.items ≡ c.args.self.now =
    subst (λ at. taken_at c.arrivals.self-inside.number at c.arrivals.self-inside.arrivals.items ≡ c.args.self.now) zero c.arrivals.invariant.0 in
    rw (zero) (
      ap (λ (t : Taken). t.left) (sym same) ∙ taken_at-waits here,
      c.arrivals.invariant.1,
      taken_at-waits-taken here ∙ ap (λ (t : Taken). t.taken) same,
    )

pub returns-then-not-is_empty : goal.returns-then-not-is_empty
returns-then-not-is_empty c =
    let found = c.in-Some.ensures.lookup.3 in
    let here : IsAt c.arrivals.self-inside.arrivals.items c.arrivals.self-inside.number (arrival.Bytes c.in-Bytes.piece) =
    at_of _ _ _ _ c.as_slice.ensures.value found.0 (sym c.in-Bytes.is ∙ found.1 arrival.NotYet) in
    let some : drop c.arrivals.self-inside.at c.in-Bytes.piece ≢ [] =
    λ none. let nothing : length c.rest_of-rest.result.now ≡ 0 = ap length (c.rest_of-rest.ensures.rest ∙ none) in grind (arith, nat_tests) in
    let least : c.copy_front-count.result ≡ min (length (drop c.arrivals.self-inside.at c.in-Bytes.piece)) (length c.args.buf.now) =
    rw (← c.rest_of-rest.ensures.rest, ← c.arrivals.invariant.1) c.copy_front-count.ensures.count in
    let next : next_bytes (length c.args.buf.now) c.args.self.now.left ≡ take (length c.args.buf.now) (drop c.arrivals.self-inside.at c.in-Bytes.piece) =
    ap (λ (t : Taken). next_bytes (length c.args.buf.now) t.left) (sym c.arrivals.invariant.0) ∙ taken_at-next _ _ here some in
    let more : 0 < length c.rest_of-rest.result.now = grind (arith, nat_tests) in
    let long : length c.rest_of-rest.result.now ≡ length (drop c.arrivals.self-inside.at c.in-Bytes.piece) = ap length c.rest_of-rest.ensures.rest in
    let room : 0 < length c.args.buf.now = c.requires in
    let swapped : c.copy_front-count.result ≡ min (length c.args.buf.now) (length (drop c.arrivals.self-inside.at c.in-Bytes.piece)) = omega arith in
    let front : take c.copy_front-count.result c.rest_of-rest.result.now ≡ take (length c.args.buf.now) (drop c.arrivals.self-inside.at c.in-Bytes.piece) =
    ap (λ (bytes : List ℕ). take c.copy_front-count.result bytes) c.rest_of-rest.ensures.rest
    ∙ ap (λ (n : ℕ). take n (drop c.arrivals.self-inside.at c.in-Bytes.piece)) swapped
    ∙ take_min (length c.args.buf.now) (drop c.arrivals.self-inside.at c.in-Bytes.piece) in
    let buffer : c.copy_front-count.new.buf ≡ take (length c.args.buf.now) (drop c.arrivals.self-inside.at c.in-Bytes.piece) ++ drop c.copy_front-count.result c.args.buf.now =
    c.copy_front-count.ensures.copied
    ∙ ap (λ (bytes : List ℕ). bytes ++ drop c.copy_front-count.result c.arrivals.buf) front
    ∙ ap (λ (bytes : List ℕ). take (length c.args.buf.now) (drop c.arrivals.self-inside.at c.in-Bytes.piece) ++ drop c.copy_front-count.result bytes) c.arrivals.invariant.1 in
    (omega arith, rw (next) (search rules), rw (next) buffer, taken_at-takes _ _ _ here some least ∙ ap (λ t. taken_after (length c.args.buf.now) t) c.arrivals.invariant.0)

pub arrivals-preserved : goal.arrivals-preserved
arrivals-preserved c =
    let found = c.in-Some.ensures.lookup.3 in
    let here : IsAt c.arrivals.self-inside.arrivals.items c.arrivals.self-inside.number (arrival.Bytes c.in-Bytes.piece) =
    at_of _ _ _ _ c.as_slice.ensures.value found.0 (sym c.in-Bytes.is ∙ found.1 arrival.NotYet) in
    let none : drop c.arrivals.self-inside.at c.in-Bytes.piece ≡ [] =
    let nothing : length c.rest_of-rest.result.now ≡ 0 = grind (arith, nat_tests) in sym c.rest_of-rest.ensures.rest ∙ nil_from_length _ nothing in
    let within = here.within in
    (taken_at-passes _ here none ∙ c.arrivals.invariant.0, c.arrivals.invariant.1, omega arith, omega arith)
