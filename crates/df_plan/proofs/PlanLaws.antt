-- How a call goes from command to command.
use Rattle.std.proofs.Common.{◌≡◌, ℕ, suc, ◌+◌, ◌-◌, ◌*◌, ◌<◌, ◌≤◌, Bool, true, false, cond, List, [], ◌∷◌, ◌++◌, length, drop, get_or, slice_set, refl, sym, ap, ◌∙◌, subst, arith, length-append, length-drop, drop_of_length-le}
use Rattle.std.specs.Prelude.{Option, Some, slice_get}
use Rattle.std.proofs.lemmas.Option.{get_or_from_slice_get, slice_get_within}
use Rattle.df_model.specs.Session.{MAX_QUEUED}
use Rattle.df_model.specs.Values.{Bytes}
use Rattle.df_model.specs.declared.command.Command.{Command}
use Rattle.df_model.specs.declared.command.Call.{Call}
use Rattle.df_model.specs.declared.reply.Reply.{Reply}
use Rattle.df_footprints.specs.Footprints.{commands_of}
use Rattle.df_log.specs.Acts.{Told}
use Rattle.df_core.specs.Courses.{Course, Nowhere, Alone, Spread, Counts, Cuts, Clears, course_of}
use Rattle.df_core.specs.Courses as courses
use Rattle.df_core.specs.Steps.{Step}
use Rattle.df_rounds.specs.Standing.{Standing, Fresh, Once, Twice, Thrice, first_hop, hop_of, second_hop, round_wanted, first_asked, second_asked, then_told, AllMayBeTold}
use Rattle.df_rounds.specs.Progress.{Progress, Stands, after_command, after_round, asks_in, hop_in, hop_next, progress_of}
use Rattle.df_rounds.proofs.ProgressLaws.{over_goes_on, stop_goes_on}
use Rattle.df_caller.specs.declared.slip.Slip.{Slip}
use Rattle.df_hops.specs.declared.answer.Outcome.{Outcome}
use Rattle.df_exchange.specs.Asks.{AllHeard}
use Rattle.df_turn.specs.Turns.{Asking, Began, IsClear, IsLent, Ready, WentOn}
use Rattle.df_turn.specs.Turns as turns
use Rattle.df_turn.specs.declared.turn.Next.{Next}
use Rattle.df_turn.specs.declared.turn.Next.TheVariants as nexts
use Rattle.df_turn.specs.declared.turn.Turn.{Turn}
use Rattle.df_plan.specs.Commands.{CameTo, ComesBy, Follow, IsAdded, IsDone, Rests}
use Rattle.df_plan.specs.Plans.{AllReady, AlikeCalls, Asks, GoesTo, IsAnswered, IsOver, IsSoFar, Moves, Planned}
use Rattle.df_plan.specs.declared.plan.Plan.{Plan}
use Rattle.df_plan.proofs.ReplyLaws.{so-far-all, so-far-more}
use Rattle.df_plan.proofs.TurnLists.{alike-on, alike-self, drop-set-behind, drop-there, get-set-at, next-ready, none-left, ready-length}

-- ---- numbers

choice-small : (z : Bool) → cond z 3 2 ≤ 3
choice-small true = omega arith
choice-small false = omega arith

first-small : (course : Course) → first_hop course ≤ 3
first-small Nowhere = omega arith
first-small (Alone t) = omega arith
first-small Spread = omega arith
first-small courses.Names = omega arith
first-small Counts = omega arith
first-small Cuts = omega arith
first-small Clears = omega arith

second-small : (shards : ℕ) (command : Command) (course : Course) (a : ℕ → Told) → second_hop shards command course a ≤ 3
second-small shards command Nowhere a = omega arith
second-small shards command (Alone t) a = omega arith
second-small shards command Spread a = omega arith
second-small shards command courses.Names a = omega arith
second-small shards command Counts a = omega arith
second-small shards command Cuts a = omega arith
second-small shards command Clears a = choice-small (round_wanted shards (first_asked shards command Clears) a)

-- a command has four hops
pub hop-small : (shards : ℕ) (command : Command) (course : Course) (standing : Standing) → hop_of shards command course standing ≤ 3
hop-small shards command course Fresh = first-small course
hop-small shards command course (Once a) = second-small shards command course a
hop-small shards command course (Twice a b) = choice-small (round_wanted shards (second_asked shards command course a) b)
hop-small shards command course (Thrice a b c) = omega arith

-- the turn at the plan's place is that of the command under way
pub turn-so : (shards t : ℕ) (call : Call) (progress : Progress) (plan : Plan) (slip : Slip) (a : Asks shards t call progress plan slip) (turn : Turn) →
    turn ≡ get_or plan.turns.items plan.at turn → turn ≡ a.turn
turn-so shards t call progress plan slip a turn e =
    e ∙ ap (λ i. get_or plan.turns.items i turn) a.at ∙ get_or_from_slice_get plan.turns.items progress.at a.turn turn a.there

-- the next hop of the call is that of its command, behind four for each command before it
pub hop-so : (shards t : ℕ) (call : Call) (progress : Progress) (plan : Plan) (slip : Slip) (a : Asks shards t call progress plan slip) (turn : Turn) →
    turn ≡ get_or plan.turns.items plan.at turn → 4 * plan.at + turn.hop ≡ hop_next shards progress
hop-so shards t call progress plan slip a turn e =
    ap (λ i. 4 * i + turn.hop) a.at
    ∙ ap (λ h. 4 * progress.at + h) (ap (λ (u : Turn). u.hop) (turn-so shards t call progress plan slip a turn e) ∙ a.asking.hop)
    ∙ ap (λ left. 4 * progress.at + hop_in shards left progress.standing) (sym a.left)

pub hop-fits : (shards t : ℕ) (call : Call) (progress : Progress) (plan : Plan) (slip : Slip) (a : Asks shards t call progress plan slip) (turn : Turn) →
    turn ≡ get_or plan.turns.items plan.at turn → 4 * plan.at + turn.hop < 4 * MAX_QUEUED
hop-fits shards t call progress plan slip a turn e =
    let same : turn.hop ≡ hop_of shards a.command (course_of shards a.command) progress.standing =
    ap (λ (u : Turn). u.hop) (turn-so shards t call progress plan slip a turn e) ∙ a.asking.hop in
    let small = hop-small shards a.command (course_of shards a.command) progress.standing in
    let long : length progress.left ≡ suc (length a.commands) = ap length a.left in
    omega (arith, same, small, long, a.at, a.few)

-- ---- moves

pub moves-on : (shards : ℕ) (call : Call) (progress now after : Progress) → Moves shards call progress now → Moves shards call now after →
    Moves shards call progress after
moves-on shards call progress now after m n = λ steps stands. n steps (m steps stands)

-- where its command is over the call goes on
pub moves-over : (shards : ℕ) (call : Call) (progress : Progress) (command : Command) (commands : List Command) (reply : Reply) → 0 < shards →
    progress.left ≡ command ∷ commands → turns.IsOver shards command progress.standing reply → Moves shards call progress (after_command reply commands progress)
moves-over shards call progress command commands reply pos left is-over = λ steps stands. moved reply is-over steps stands
  where
    moved : (r : Reply) → turns.IsOver shards command progress.standing r → (steps : ℕ → List Step) → Stands shards call progress steps →
        Stands shards call (after_command r commands progress) steps
    moved r (turns.over saved is e) steps stands = over_goes_on shards call progress steps command commands saved pos stands left e (λ cuts. is)
    moved r (turns.stopped e) steps stands = stop_goes_on shards call progress steps command commands pos stands left e

-- ---- a command begins

ready-behind : (ts us : List Turn) (i j : ℕ) → i ≡ j → drop (suc i) us ≡ drop (suc i) ts → drop (suc j) ts ≡ drop (suc j) us
ready-behind ts us i j e same = subst (λ k. drop (suc k) ts ≡ drop (suc k) us) e (sym same)

-- where a turn is left, so is its command
pub within-so : (shards : ℕ) (call : Call) (progress : Progress) (plan : Plan) (slip : Slip) → Rests shards call progress plan slip →
    plan.at < length plan.turns.items → plan.at < length (commands_of slip.call)
within-so shards call progress plan slip r lt =
    let turned : length (drop progress.at plan.turns.items) ≡ length plan.turns.items - progress.at = length-drop progress.at plan.turns.items in
    let held : length progress.left ≡ length (commands_of slip.call) - progress.at =
    ap length (sym r.holds) ∙ length-drop progress.at (commands_of slip.call) in
    let each : length progress.left ≡ length (drop progress.at plan.turns.items) = ready-length shards progress.left (drop progress.at plan.turns.items) r.ready in
    omega (arith, lt, r.at, turned, held, each)

pub follow-rests : (shards : ℕ) (call : Call) (progress : Progress) (plan now : Plan) (slip after : Slip) (command : Command) (turn : Turn) →
    Rests shards call progress plan slip → slice_get plan.turns.items plan.at ≡ Some turn →
    slice_get (commands_of slip.call) plan.at ≡ Some command → AlikeCalls slip.call after.call →
    drop (suc plan.at) (commands_of after.call) ≡ drop (suc plan.at) (commands_of slip.call) → after.reply ≡ slip.reply →
    now.at ≡ plan.at → now.said ≡ plan.said → drop (suc plan.at) now.turns.items ≡ drop (suc plan.at) plan.turns.items →
    (commands : List Command) × Follow shards call progress command commands now after × Ready shards command turn
follow-rests shards call progress plan now slip after command turn r there taken alike behind same at said turns =
    let n = next-ready shards progress.left plan.turns.items plan.at turn there (subst (λ i. AllReady shards progress.left (drop i plan.turns.items)) (sym r.at) r.ready) in
    let whole : n.command ∷ n.commands ≡ command ∷ drop (suc plan.at) (commands_of slip.call) =
    sym n.left_is ∙ sym r.holds ∙ ap (λ i. drop i (commands_of slip.call)) (sym r.at) ∙ drop-there (commands_of slip.call) plan.at command taken in
    let first : n.command ≡ command = cc in
    let rest : n.commands ≡ drop (suc plan.at) (commands_of slip.call) = cc in (
      n.commands,
      record {
        left = n.left_is ∙ ap (λ c. c ∷ n.commands) first;
        at = at ∙ r.at;
        few = r.few;
        alike = alike-on call slip.call after.call r.alike alike;
        holds = ap (λ i. drop (suc i) (commands_of after.call)) (sym r.at) ∙ behind ∙ sym rest;
        ready = subst (λ ts. AllReady shards n.commands ts) (sym turns ∙ ap (λ i. drop (suc i) now.turns.items) r.at) n.behind;
        counted = r.counted;
        so_far = λ e. subst (λ b. IsSoFar call progress.replies b) (sym same) (r.so_far (sym said ∙ e));
      },
      subst (λ c. Ready shards c turn) first n.ready,
    )

-- the call that is at a command asks for it
pub asks-so : (shards : ℕ) (call : Call) (progress : Progress) (plan : Plan) (slip : Slip) (command : Command) (commands : List Command) (turn : Turn) →
    Follow shards call progress command commands plan slip → slice_get plan.turns.items progress.at ≡ Some turn →
    Asking shards 0 command progress.standing turn → IsLent shards progress.standing command plan.command →
    Asks shards 0 call progress plan slip
asks-so shards call progress plan slip command commands turn f there asking lent = record {
  command = command;
  commands = commands;
  left = f.left;
  at = f.at;
  few = f.few;
  alike = f.alike;
  holds = f.holds;
  lent = lent;
  turn = turn;
  there = there;
  asking = asking;
  ready = f.ready;
  counted = f.counted;
  so_far = f.so_far;
}

pub came-begun : (next : Next) (shards : ℕ) (call : Call) (progress : Progress) (plan : Plan) (slip : Slip) (command : Command) (commands : List Command) (turn : Turn) →
    Follow shards call progress command commands plan slip → progress.standing ≡ Fresh → slice_get plan.turns.items progress.at ≡ Some turn →
    Began next shards command turn plan.command → CameTo next shards call progress plan slip
came-begun nexts.Asks shards call progress plan slip command commands turn f fresh there b =
    asks-so shards call progress plan slip command commands turn f there
    (subst (λ s. Asking shards 0 command s turn) (sym fresh) b.0) (subst (λ s. IsLent shards s command plan.command) (sym fresh) b.1)
came-begun (nexts.Over said) shards call progress plan slip command commands turn f fresh there b =
    (b.0, record { command = command; commands = commands; follow = f; over = subst (λ s. turns.IsOver shards command s b.0) (sym fresh) b.1 }, b.2)
came-begun nexts.Unsaid shards call progress plan slip command commands turn f fresh there b =
    (b.0, record { command = command; commands = commands; follow = f; over = subst (λ s. turns.IsOver shards command s b.0) (sym fresh) b.1 })

-- ---- a command is asked

-- the plan for whose command another turn stands
pub asks-again : (shards t u : ℕ) (call : Call) (progress : Progress) (plan now : Plan) (slip : Slip) (turn : Turn) (a : Asks shards t call progress plan slip) →
    Asking shards u a.command progress.standing turn → now.at ≡ plan.at → now.said ≡ plan.said → now.command ≡ plan.command →
    slice_get now.turns.items progress.at ≡ Some turn → drop (suc plan.at) now.turns.items ≡ drop (suc plan.at) plan.turns.items →
    Asks shards u call progress now slip
asks-again shards t u call progress plan now slip turn a asking at said same there behind = record {
  command = a.command;
  commands = a.commands;
  left = a.left;
  at = at ∙ a.at;
  few = a.few;
  alike = a.alike;
  holds = a.holds;
  lent = subst (λ c. IsLent shards progress.standing a.command c) (sym same) a.lent;
  turn = turn;
  there = there;
  asking = asking;
  ready = subst (λ ts. AllReady shards a.commands ts) (ready-behind plan.turns.items now.turns.items plan.at progress.at a.at behind) a.ready;
  counted = a.counted;
  so_far = λ e. a.so_far (sym said ∙ e);
}

-- ---- a command goes on

-- behind a round the same command is under way
pub follow-asks : (shards t : ℕ) (call : Call) (progress : Progress) (told : ℕ → Told) (plan now : Plan) (slip : Slip) (a : Asks shards t call progress plan slip) →
    now.at ≡ plan.at → now.said ≡ plan.said → drop (suc plan.at) now.turns.items ≡ drop (suc plan.at) plan.turns.items →
    Follow shards call (after_round told progress) a.command a.commands now slip
follow-asks shards t call progress told plan now slip a at said turns = record {
  left = a.left;
  at = at ∙ a.at;
  few = a.few;
  alike = a.alike;
  holds = a.holds;
  ready = subst (λ ts. AllReady shards a.commands ts) (ready-behind plan.turns.items now.turns.items plan.at progress.at a.at turns) a.ready;
  counted = a.counted;
  so_far = λ e. a.so_far (sym said ∙ e);
}

-- behind the first round nobody needs the command
lent-on : (shards : ℕ) (standing : Standing) (told : ℕ → Told) (command rest : Command) → IsLent shards (then_told told standing) command rest
lent-on shards Fresh told command rest = tt
lent-on shards (Once a) told command rest = tt
lent-on shards (Twice a b) told command rest = tt
lent-on shards (Thrice a b c) told command rest = tt

pub came-on : (next : Next) (shards : ℕ) (call : Call) (progress : Progress) (told : ℕ → Told) (plan : Plan) (slip : Slip) (command : Command) (commands : List Command)
    (turn : Turn) (outcomes : List (Option Outcome)) → Follow shards call (after_round told progress) command commands plan slip →
    slice_get plan.turns.items progress.at ≡ Some turn → WentOn next shards command (then_told told progress.standing) turn outcomes →
    CameTo next shards call (after_round told progress) plan slip
came-on nexts.Asks shards call progress told plan slip command commands turn outcomes f there w =
    asks-so shards call (after_round told progress) plan slip command commands turn f there w.0 (lent-on shards progress.standing told command plan.command)
came-on (nexts.Over said) shards call progress told plan slip command commands turn outcomes f there w =
    (w.0, record { command = command; commands = commands; follow = f; over = w.1 }, w.2)
came-on nexts.Unsaid shards call progress told plan slip command commands turn outcomes f there w =
    (w.0, record { command = command; commands = commands; follow = f; over = w.1 })

-- what was asked of the call was asked of its command
pub answered-so : (shards : ℕ) (call : Call) (progress : Progress) (told : ℕ → Told) (plan : Plan) (slip : Slip) (outcomes : List (Option Outcome)) (turn : Turn)
    (a : IsAnswered shards call progress told plan slip outcomes) → turn ≡ get_or plan.turns.items plan.at turn →
    turns.IsAnswered shards a.asks.command progress.standing told turn plan.command outcomes
answered-so shards call progress told plan slip outcomes turn a e = record {
  some = a.some;
  asking = subst (λ u. Asking shards shards a.asks.command progress.standing u) (sym (turn-so shards shards call progress plan slip a.asks turn e)) a.asks.asking;
  lent = a.asks.lent;
  may = subst (λ left. AllMayBeTold shards (asks_in shards left progress.standing) told) a.asks.left a.may;
  count = a.count;
  heard = subst (λ left. AllHeard (asks_in shards left progress.standing) told outcomes) a.asks.left a.heard;
}

-- and so the call goes where its command goes
pub went-so : (next : Next) (shards : ℕ) (call : Call) (progress : Progress) (told : ℕ → Told) (plan now : Plan) (slip : Slip) (outcomes : List (Option Outcome)) (turn : Turn)
    (a : Asks shards shards call progress plan slip) → WentOn next shards a.command (then_told told progress.standing) turn outcomes →
    now.at ≡ plan.at → now.said ≡ plan.said → slice_get now.turns.items progress.at ≡ Some turn →
    drop (suc plan.at) now.turns.items ≡ drop (suc plan.at) plan.turns.items → CameTo next shards call (after_round told progress) now slip
went-so next shards call progress told plan now slip outcomes turn a w at said there behind =
    came-on next shards call progress told now slip a.command a.commands turn outcomes
    (follow-asks shards shards call progress told plan now slip a at said behind) there w

-- the turn of the command under way took the answers, and stands in its place again
pub came-round : (next : Next) (shards : ℕ) (call : Call) (progress : Progress) (told : ℕ → Told) (plan now : Plan) (slip : Slip)
    (outcomes left : List (Option Outcome)) (new : Turn) (a : IsAnswered shards call progress told plan slip outcomes) → now.at ≡ plan.at →
    now.said ≡ plan.said → now.turns.items ≡ slice_set plan.turns.items plan.at new →
    WentOn next shards a.asks.command (then_told told progress.standing) new left → CameTo next shards call (after_round told progress) now slip
came-round next shards call progress told plan now slip outcomes left new a at said set w =
    let lt : plan.at < length plan.turns.items = subst (λ i. i < length plan.turns.items) (sym a.asks.at) (slice_get_within plan.turns.items progress.at a.asks.turn a.asks.there) in
    went-so next shards call progress told plan now slip left new a.asks w at said
    (ap (λ ts. slice_get ts progress.at) set ∙ get-set-at plan.turns.items plan.at progress.at new a.asks.at lt)
    (ap (drop (suc plan.at)) set ∙ drop-set-behind plan.turns.items plan.at new)

pub clear-so : (next : Next) (shards : ℕ) (command : Command) (standing : Standing) (turn : Turn) (outcomes : List (Option Outcome)) →
    WentOn next shards command standing turn outcomes → IsClear shards outcomes
clear-so nexts.Asks shards command standing turn outcomes w = w.1
clear-so (nexts.Over said) shards command standing turn outcomes w = w.3
clear-so nexts.Unsaid shards command standing turn outcomes w = w.2

-- ---- a command is over

-- the next one may begin
pub rests-done : (shards : ℕ) (call : Call) (progress : Progress) (reply : Reply) (plan now : Plan) (slip after : Slip) (d : IsDone shards call progress reply plan slip) →
    after.call ≡ slip.call → now.at ≡ plan.at + 1 → now.turns ≡ plan.turns → (now.said ≡ true → IsSoFar call (progress.replies ++ reply ∷ []) after.reply) →
    Rests shards call (after_command reply d.commands progress) now after
rests-done shards call progress reply plan now slip after d same at turns so =
    let f = d.follow in
    let long : length progress.left ≡ suc (length d.commands) = ap length f.left in record {
      fresh = refl;
      at = omega (arith, at, f.at);
      few = omega (arith, f.few, long);
      alike = subst (λ c. AlikeCalls call c) (sym same) f.alike;
      holds = ap (λ c. drop (suc progress.at) (commands_of c)) same ∙ f.holds;
      ready = subst (λ ts. AllReady shards d.commands (drop (suc progress.at) ts.items)) (sym turns) f.ready;
      counted = omega (arith, f.counted, long, length-append progress.replies (reply ∷ []));
      so_far = so;
    }

pub done-few : (shards : ℕ) (call : Call) (progress : Progress) (reply : Reply) (plan : Plan) (slip : Slip) → IsDone shards call progress reply plan slip →
    plan.at < MAX_QUEUED
done-few shards call progress reply plan slip d =
    let long : length progress.left ≡ suc (length d.commands) = ap length d.follow.left in omega (arith, d.follow.at, d.follow.few, long)

-- its reply is one of as many as there are commands
pub replies-few : (shards : ℕ) (call : Call) (progress : Progress) (reply : Reply) (plan : Plan) (slip : Slip) → IsDone shards call progress reply plan slip →
    length progress.replies < length (commands_of call)
replies-few shards call progress reply plan slip d =
    let long : length progress.left ≡ suc (length d.commands) = ap length d.follow.left in omega (arith, d.follow.counted, long)

pub comes-over : (shards : ℕ) (call : Call) (progress : Progress) (said : Bytes) (plan now : Plan) (slip after : Slip) → 0 < shards →
    CameTo (nexts.Over said) shards call progress plan slip → after.call ≡ slip.call → now.at ≡ plan.at + 1 → now.turns ≡ plan.turns →
    (now.said ≡ true → (plan.said ≡ true) × IsAdded slip.call slip.reply said after.reply) → ComesBy false shards call progress now after
comes-over shards call progress said plan now slip after pos c same at turns added =
    let reply : Reply = c.0 in let d : IsDone shards call progress reply plan slip = c.1 in (
      after_command reply d.commands progress,
      moves-over shards call progress d.command d.commands reply pos d.follow.left d.over,
      rests-done shards call progress reply plan now slip after d same at turns
          (λ e. so-far-more call slip.call progress.replies reply slip.reply said after.reply d.follow.alike
          (replies-few shards call progress reply plan slip d) (d.follow.so_far (added e).0) c.2 (added e).1),
    )

pub comes-unsaid : (shards : ℕ) (call : Call) (progress : Progress) (plan now : Plan) (slip : Slip) → 0 < shards →
    CameTo nexts.Unsaid shards call progress plan slip → now.at ≡ plan.at + 1 → now.turns ≡ plan.turns →
    (now.said ≡ true → ⊥) → ComesBy false shards call progress now slip
comes-unsaid shards call progress plan now slip pos c at turns unsaid =
    let reply : Reply = c.0 in let d : IsDone shards call progress reply plan slip = c.1 in (
      after_command reply d.commands progress,
      moves-over shards call progress d.command d.commands reply pos d.follow.left d.over,
      rests-done shards call progress reply plan now slip slip d refl at turns (λ e. absurd (unsaid e)),
    )

-- ---- all are over

pub over-so : (shards : ℕ) (call : Call) (progress : Progress) (plan now : Plan) (slip : Slip) → Rests shards call progress plan slip →
    length plan.turns.items ≤ plan.at → now.said ≡ plan.said → IsOver call progress now slip
over-so shards call progress plan now slip r past said =
    let none : progress.left ≡ [] = none-left shards progress.left (drop progress.at plan.turns.items) (none-there plan.turns.items progress.at (omega (arith, past, r.at))) r.ready in record {
      left = none;
      says = λ e. so-far-all call progress.replies slip.reply (omega (arith, r.counted, ap length none)) (r.so_far (sym said ∙ e));
    }
  where
    none-there : (ts : List Turn) (i : ℕ) → length ts ≤ i → drop i ts ≡ []
    none-there ts i le = drop_of_length-le ts le

-- ---- before the first command

pub rests-planned : (shards : ℕ) (plan : Plan) (slip : Slip) → Planned shards slip.call plan slip.reply → Rests shards slip.call (progress_of slip.call) plan slip
rests-planned shards plan slip p = record {
  fresh = refl;
  at = p.at;
  few = omega (arith, p.few);
  alike = alike-self slip.call;
  holds = refl;
  ready = p.ready;
  counted = omega arith;
  so_far = λ e. p.begun;
}

-- ---- from one to the next

-- a call that moved on goes where it goes from there
pub goes-on : (asks : Bool) (shards : ℕ) (call : Call) (progress now : Progress) (plan : Plan) (slip : Slip) → Moves shards call progress now →
    GoesTo asks shards call now plan slip → GoesTo asks shards call progress plan slip
goes-on true shards call progress now plan slip m g = (g.0, moves-on shards call progress now g.0 m g.1, g.2)
goes-on false shards call progress now plan slip m g = (g.0, moves-on shards call progress now g.0 m g.1, g.2)
