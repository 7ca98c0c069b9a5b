-- A line from one state of its call to the next.
use Rattle.std.proofs.Common.{◌≡◌, ℕ, ◌<◌, Bool, true, false, is_some, length, List, refl, sym, ap, ◌∙◌, subst}
use Rattle.std.specs.Prelude.{Option, None}
use Rattle.std.proofs.lemmas.Bool.{false≢true}
use Rattle.df_model.specs.Calls.{IsCall}
use Rattle.df_model.specs.declared.command.Call.{Call}
use Rattle.df_book.specs.Draws.{Bounded}
use Rattle.df_book.specs.Passes.{BookName, Caller}
use Rattle.df_caller.specs.declared.caller.Went.{Went}
use Rattle.df_caller.specs.declared.caller.Went.TheVariants as went
use Rattle.df_rounds.specs.Progress.{Progress, GoesOn as RoundGoesOn, progress_of}
use Rattle.df_rounds.specs.Between.{Between}
use Rattle.df_rounds.proofs.BetweenLaws.{calls_move}
use Rattle.df_post.specs.Postings.{Posting}
use Rattle.df_post.specs.Rounds.{Place, Idle, RoundView, Goes, stays, sent, came, Matches, is_done, place_at}
use Rattle.df_post.specs.declared.awaited.Kind.{Kind}
use Rattle.df_hops.specs.declared.answer.Outcome.{Outcome}
use Rattle.df_exchange.specs.Exchanges.{Hearing, Rounded, asked_in}
use Rattle.df_exchange.proofs.AskLaws.{exchanges_go}
use Rattle.df_exchange.proofs.HearLaws.{exchanges_go_round}
use Rattle.df_turn.specs.Turns.{IsClear}
use Rattle.df_plan.specs.Plans.{Asks, GoesTo, IsAnswered, Planned}
use Rattle.df_plan.specs.declared.plan.Plan.{Plan}
use Rattle.df_coord.specs.Rows.{CallPassed}
use Rattle.df_many.specs.Rooms.{AllIdle, IsRoom, OfKind, SameWay, is_asked}
use Rattle.df_many.specs.Lines.{GoesOn, HasPost, HasRun, Holds, Hops, IsDue, IsLast, IsThrough, MaySetOut, Places, StandsAs, Stepped, under}
use Rattle.df_many.specs.declared.line.Line.{Line}
use Rattle.df_many.specs.declared.room.Room.{Room}
use Rattle.df_many.specs.declared.state.State.{State}
use Rattle.df_many.specs.declared.state.State.TheVariants as states
use Rattle.df_many.specs.declared.state.Turned.{Turned}
use Rattle.df_caller.specs.declared.slip.Slip.{Slip}
use Rattle.std.specs.Global.{Box}
use Rattle.df_many.proofs.CallLaws.{drawn-so, last-so, may-so, passed-so, ran-so}

-- ---- messages go and answers come

goes-idle : (p q : Place) → Goes p q → p ≡ Idle → q ≡ Idle
goes-idle p q (stays x) e = e
goes-idle p q (sent a) e = absurd (false≢true (ap is_done e))
goes-idle p q (came a) e = absurd (false≢true (ap is_done e))

goes-asked : (p q : Place) → Goes p q → asked_in p ≡ asked_in q
goes-asked p q (stays x) = refl
goes-asked p q (sent a) = refl
goes-asked p q (came a) = refl

goes-kind : (kind : Kind) (p q : Place) → Goes p q → OfKind kind (asked_in p) → OfKind kind (asked_in q)
goes-kind kind p q g k = subst (OfKind kind) (goes-asked p q g) k

-- the room with another round
abbrev pub with-round : RoundView → Room → Room
with-round round room = record room { round = round }

-- ---- a room

pub room-goes : (z : BookName) (n : ℕ) (room : Room) (round : RoundView) → IsRoom z n room → round.book ≡ room.round.book →
    length round.places ≡ length room.round.places → IsRoom z n (with-round round room)
room-goes z n room round r book places = record {
  book = book ∙ r.book;
  places = places ∙ r.places;
  clear = r.clear;
  taken = r.taken;
  keys = r.keys;
}

pub room-heard : (z : BookName) (n : ℕ) (old new : Room) → IsRoom z n old → new.round.book ≡ old.round.book → length new.round.places ≡ n →
    length new.taken.items ≡ n → new.outcomes ≡ old.outcomes → new.keys ≡ old.keys → IsRoom z n new
room-heard z n old new r book places taken outcomes keys = record {
  book = book ∙ r.book;
  places = places;
  clear = subst (λ v. IsClear n v.items) (sym outcomes) r.clear;
  taken = taken;
  keys = ap (λ v. length v.items) keys ∙ r.keys;
}

-- ---- what holds

stands-goes : (state : State) (l : Line) (round : RoundView) → length round.places ≡ length l.room.round.places →
    ((s : ℕ) → Goes (place_at s l.room.round) (place_at s round)) → StandsAs state l → StandsAs state (record l { room = with-round round l.room })
stands-goes states.Idle l round places goes h = λ s. goes-idle (place_at s l.room.round) (place_at s round) (goes s) (h s)
stands-goes (states.Due slip) l round places goes h =
    (λ s. goes-idle (place_at s l.room.round) (place_at s round) (goes s) (h.0 s), record { is_call = h.1.is_call; passed = h.1.passed })
stands-goes (states.Placing t) l round places goes h = record {
  whole = h.whole;
  is_call = h.is_call;
  drawer = h.drawer;
  passed = h.passed;
  numbered = h.numbered;
  planned = h.planned;
  messages = λ s. goes-kind _ (place_at s l.room.round) (place_at s round) (goes s) (h.messages s);
  named = λ s asked. h.named s (ap is_some (goes-asked (place_at s l.room.round) (place_at s round) (goes s)) ∙ asked);
}
stands-goes (states.Withdrawing slip again) l round places goes h =
    (λ s. goes-kind _ (place_at s l.room.round) (place_at s round) (goes s) (h.0 s), record { is_call = h.1.is_call; passed = h.1.passed })
stands-goes (states.Hopping t) l round places goes h = record {
  progress = h.progress;
  asks = h.asks;
  drawer = h.drawer;
  passed = h.passed;
  exchanging = exchanges_go l.shards l.shards t.number h.drawer t.call.value h.progress l.pass l.room.round round h.exchanging places goes;
}
stands-goes (states.Leaving slip said call) l round places goes h =
    (λ s. goes-kind _ (place_at s l.room.round) (place_at s round) (goes s) (h.0 s), record { reply = h.1.reply; ran = h.1.ran; lies = h.1.lies })

pub holds-goes : (state : State) (l : Line) (round : RoundView) → round.book ≡ l.room.round.book → length round.places ≡ length l.room.round.places →
    ((s : ℕ) → Goes (place_at s l.room.round) (place_at s round)) → Holds state l → Holds state (record l { room = with-round round l.room })
holds-goes state l round book places goes h = record {
  some = h.some;
  words = h.words;
  pass = h.pass;
  caller = h.caller;
  bounded = h.bounded;
  room = room-goes l.book.now l.shards l.room round h.room book places;
  stands = stands-goes state l round places goes h.stands;
}

-- the state's place in the line may be empty by then, and a wait was counted
stands-taken : (state now : State) (waits : ℕ) (l : Line) → StandsAs state l → StandsAs state (record l { state = now; stalls = waits })
stands-taken states.Idle now waits l h = h
stands-taken (states.Due slip) now waits l h = (h.0, record { is_call = h.1.is_call; passed = h.1.passed })
stands-taken (states.Placing t) now waits l h = record {
  whole = h.whole;
  is_call = h.is_call;
  drawer = h.drawer;
  passed = h.passed;
  numbered = h.numbered;
  planned = h.planned;
  messages = h.messages;
  named = h.named;
}
stands-taken (states.Withdrawing slip again) now waits l h = (h.0, record { is_call = h.1.is_call; passed = h.1.passed })
stands-taken (states.Hopping t) now waits l h = record {
  progress = h.progress;
  asks = h.asks;
  drawer = h.drawer;
  passed = h.passed;
  exchanging = h.exchanging;
}
stands-taken (states.Leaving slip said call) now waits l h = (h.0, record { reply = h.1.reply; ran = h.1.ran; lies = h.1.lies })

pub holds-taken : (state now : State) (waits : ℕ) (l : Line) → Holds state l → Holds state (record l { state = now; stalls = waits })
holds-taken state now waits l h = record {
  some = h.some;
  words = h.words;
  pass = h.pass;
  caller = h.caller;
  bounded = h.bounded;
  room = h.room;
  stands = stands-taken state now waits l h.stands;
}

-- all answers were heard
pub holds-heard : (state : State) (l : Line) (u : Caller) (room : Room) → Holds state l → u.book ≡ l.pass.book → u.first ≡ l.pass.first →
    Bounded u.own u.made u.seen → IsRoom l.book.now l.shards room → AllIdle room.round → Holds states.Idle (record l { pass = u; room = room })
holds-heard state l u room h book first bounded r idle = record {
  some = h.some;
  words = h.words;
  pass = book ∙ h.pass;
  caller = first ∙ h.caller;
  bounded = bounded;
  room = r;
  stands = idle;
}

-- nothing is on its way, and no call is under way yet or any more
pub holds-idle : (state : State) (l : Line) (room : Room) → Holds state l → IsRoom l.book.now l.shards room → AllIdle room.round →
    Holds states.Idle (record l { room = room })
holds-idle state l room h r idle = record {
  some = h.some;
  words = h.words;
  pass = h.pass;
  caller = h.caller;
  bounded = h.bounded;
  room = r;
  stands = idle;
}

-- the call is due again
pub holds-due : (state : State) (l : Line) (room : Room) (slip : Box Slip) → Holds state l → IsRoom l.book.now l.shards room → AllIdle room.round →
    IsDue slip.value.call l → Holds (states.Due slip) (record l { room = room })
holds-due state l room slip h r idle d = record {
  some = h.some;
  words = h.words;
  pass = h.pass;
  caller = h.caller;
  bounded = h.bounded;
  room = r;
  stands = (idle, record { is_call = d.is_call; passed = d.passed });
}

pub idle-so : (state : State) (l : Line) → under state ≡ None → StandsAs state l → AllIdle l.room.round
idle-so states.Idle l none h = h
idle-so (states.Due slip) l none h = absurd (false≢true (sym (ap is_some none)))
idle-so (states.Placing t) l none h = absurd (false≢true (sym (ap is_some none)))
idle-so (states.Withdrawing slip again) l none h = absurd (false≢true (sym (ap is_some none)))
idle-so (states.Hopping t) l none h = absurd (false≢true (sym (ap is_some none)))
idle-so (states.Leaving slip said call) l none h = absurd (false≢true (sym (ap is_some none)))

-- ---- the post

pub has-post : (l : Line) (p : Posting) → IsRoom l.book.now l.shards l.room → Matches l.room.round p → HasPost l p
has-post l p r m = record { book = sym m.book ∙ r.book; shards = m.shards ∙ r.places; matches = m }

pub post-stays : (old new : RoundView) (p : Posting) → SameWay old new → Matches old p → Matches new p
post-stays old new p w m = record {
  book = w.book ∙ m.book;
  shards = m.shards ∙ sym w.places;
  awaits = λ s. m.awaits s ∙ sym (w.awaits s);
}

-- ---- its call

-- with all its places it may set out
pub may-set-out : (t : Turned) (l : Line) (room : Room) → Places t l → room.plan ≡ l.room.plan → MaySetOut t (record l { room = room })
may-set-out t l room p same = record {
  whole = p.whole;
  drawer = p.drawer;
  passed = p.passed;
  numbered = p.numbered;
  planned = subst (λ (plan : Plan). Planned l.shards t.call.value plan t.slip.value.reply) (sym same) p.planned;
}

-- without one of them it ran nothing
pub due-again : (t : Turned) (l : Line) (room : Room) → Places t l → (s : ℕ) × (is_asked (place_at s l.room.round) ≡ true) →
    IsDue t.slip.value.call (record l { room = room })
due-again t l room p asked = record {
  is_call = subst IsCall (sym p.whole) p.is_call;
  passed = subst (λ x. CallPassed l.shards l.before.value l.pass x) (sym p.whole)
      (passed-so l.shards l.before.value p.drawer l.pass t.call.value t.number (p.named asked.0 asked.1) p.passed p.numbered);
}

pub last-of : (l : Line) (v : Caller) (call : Call) (n : ℕ) (progress : Progress) → Between l.shards v call n progress l.pass → IsLast n l
last-of l v call n progress b =
    let h = last-so l.shards v l.pass call n progress b in record { own = h.0; drawn = h.1; last = h.2 }

pub last-placed : (t : Turned) (l : Line) (room : Room) → Places t l → IsLast t.number (record l { room = room })
last-placed t l room p =
    let h = last-so l.shards p.drawer l.pass t.call.value t.number (progress_of t.call.value) (drawn-so l.shards p.drawer l.pass t.call.value t.number p.numbered) in
    record { own = h.0; drawn = h.1; last = h.2 }

-- ---- a step

-- from a line that differs in its room alone, and a state of the same call
pub step-as : (w : Went) (was now : State) (l new : Line) (room : Room) → under now ≡ under was → Stepped w was (record l { room = room }) new →
    Stepped w now l new
step-as went.Pending was now l new room e s = s ∙ sym e
step-as (went.Finished slip) was now l new room e s = (
  s.0,
  s.1,
  record { ends = record { call_was = e ∙ s.2.ends.call_was; idle = s.2.ends.idle }; ran = s.2.ran },
  s.3,
)
step-as (went.Unsaid slip) was now l new room e s =
    (s.0, s.1, record { ends = record { call_was = e ∙ s.2.ends.call_was; idle = s.2.ends.idle }; ran = s.2.ran })
step-as (went.NoMemory slip) was now l new room e s =
    (s.0, record { ends = record { call_was = e ∙ s.1.ends.call_was; idle = s.1.ends.idle }; passed = s.1.passed })
step-as (went.Spent slip) was now l new room e s =
    (s.0, record { ends = record { call_was = e ∙ s.1.ends.call_was; idle = s.1.ends.idle }; passed = s.1.passed })

-- it goes on
pub pends-so : (w : Went) (was : State) (l new : Line) → w ≡ went.Pending → under new.state ≡ under was → Stepped w was l new
pends-so w was l new is e = subst (λ x. Stepped x was l new) (sym is) e

-- ---- what its commands come to

-- it asks its shards next, or is over
pub goes-on : (b : Bool) (t : Turned) (l : Line) (drawer : Caller) (progress : Progress) → CallPassed l.shards l.before.value drawer t.call.value →
    Between l.shards drawer t.call.value t.number progress l.pass → GoesTo b l.shards t.call.value progress l.room.plan t.slip.value → GoesOn b t l
goes-on true t l drawer progress p b g = record {
  progress = g.0;
  asks = g.2;
  drawer = drawer;
  passed = p;
  between = calls_move l.shards drawer t.call.value t.number progress g.0 l.pass b g.1;
}
goes-on false t l drawer progress p b g = record {
  progress = g.0;
  is_over = g.2;
  drawer = drawer;
  passed = p;
  between = calls_move l.shards drawer t.call.value t.number progress g.0 l.pass b g.1;
}

-- where it is over it ran
pub has-run : (t : Turned) (l : Line) (said : Bool) → said ≡ l.room.plan.said → IsThrough t l → HasRun t.call.value said t.slip.value.reply l
has-run t l said is h = record {
  reply = _;
  ran = ran-so l.shards l.before.value h.drawer l.pass t.call.value t.number h.progress h.passed h.between h.is_over.left;
  lies = λ e. h.is_over.says (sym is ∙ e);
}

-- ---- a round that was heard

-- a shard was asked
round-goes : (t : Turned) (l : Line) (h : Hops t l) → RoundGoesOn l.shards h.progress.left h.progress.standing
round-goes t l h = subst (λ left. RoundGoesOn l.shards left h.progress.standing) (sym h.asks.left) h.asks.asking.goes

-- it is one round further, by what its shards told
pub hop-rounds : (t : Turned) (l : Line) (h : Hops t l) (u : Caller) (round : RoundView) (outcomes : List (Option Outcome)) → 0 < l.shards →
    Hearing l.shards l.shards t.number h.drawer t.call.value h.progress u round outcomes →
    Rounded l.shards t.number h.drawer t.call.value h.progress u round outcomes
hop-rounds t l h u round outcomes pos heard =
    exchanges_go_round l.shards t.number h.drawer t.call.value h.progress u round outcomes pos (round-goes t l h) heard

-- the plan may go on by it
pub answered-so : (t : Turned) (l : Line) (h : Hops t l) (u : Caller) (round : RoundView) (outcomes : List (Option Outcome)) (plan : Plan) (slip : Slip) →
    0 < l.shards → length outcomes ≡ l.shards → plan ≡ l.room.plan → slip ≡ t.slip.value →
    (r : Rounded l.shards t.number h.drawer t.call.value h.progress u round outcomes) →
    IsAnswered l.shards t.call.value h.progress r.told plan slip outcomes
answered-so t l h u round outcomes plan slip pos count same kept r = record {
  some = pos;
  asks = subst (λ (p : Plan). Asks l.shards l.shards t.call.value h.progress p slip) (sym same)
      (subst (λ (x : Slip). Asks l.shards l.shards t.call.value h.progress l.room.plan x) (sym kept) h.asks);
  may = may-so l.shards h.drawer u t.call.value t.number h.progress r.told (round-goes t l h) r.between;
  count = count;
  heard = r.heard;
}
