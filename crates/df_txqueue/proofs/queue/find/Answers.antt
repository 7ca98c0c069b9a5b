use Rattle.std.proofs.Common.{◌≡◌, ◌<◌, ◌≤◌, false, length, get_or, ap, arith, rules}
use Rattle.df_txqueue.proofs.PlaceLaws.{found, missing}
use Rattle.df_txqueue.proofs.queue.find.Goals as goal

pub returns-in-Some : goal.returns-in-Some
returns-in-Some c =
    let within : c.count_below-at.result < length c.args.ring.now.items = search rules in
    found c.args.number c.args.ring.now.items c.count_below-at.result c.in-Some.place.now c.requires within
    c.count_below-at.ensures.split c.in-Some.ensures.lookup c.if-place-number.true

pub returns-in_default : goal.returns-in_default
returns-in_default c =
    let place = c.in-Some.place.now in
    let at = c.count_below-at.result in
    let places = c.args.ring.now.items in
    let within : at < length places = search rules in
    let apart = c.if-place-number.false in
    let is : place.number ≡ (get_or places at place).number = ap (λ p. p.number) c.in-Some.ensures.lookup in
    let le : c.args.number ≤ (get_or places at place).number = c.count_below-at.ensures.split.1 at place (omega arith) within in
    missing c.args.number places at place c.requires c.count_below-at.ensures.bound c.count_below-at.ensures.split (λ _. omega (arith, le, is, apart))

pub returns-in_default-2 : goal.returns-in_default-2
returns-in_default-2 c =
    let at = c.count_below-at.result in
    let places = c.args.ring.now.items in
    let past : length places ≤ at = search rules in
    missing c.args.number places at (record { number = 0; granted = false; slot = 0 }) c.requires c.count_below-at.ensures.bound c.count_below-at.ensures.split (λ lt. absurd (omega (arith, lt, past)))
