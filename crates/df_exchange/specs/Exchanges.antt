-- A round of hops of a call, from its first message to its last answer.
use Rattle.std.specs.Prelude.{◌≡◌, ℕ, ◌<◌, ◌≤◌, true, nat_lt, cond, is_some, Option, Some, None, List, length}
use Rattle.std.specs.Option.{option_map}
use Rattle.df_model.specs.declared.command.Call.{Call}
use Rattle.df_order.specs.Puts.{put}
use Rattle.df_log.specs.Acts.{Act, Told}
use Rattle.df_log.specs.declared.entry.Entry.{Entry}
use Rattle.df_core.specs.Due.{due}
use Rattle.df_core.specs.Steps.{steps_of}
use Rattle.df_book.specs.Draws.{call_at, draws_of, last_number}
use Rattle.df_book.specs.Passes.{Caller}
use Rattle.df_end.specs.Logs.{entries_in}
use Rattle.df_rounds.specs.Standing.{Asked, MayBeTold}
use Rattle.df_rounds.specs.Progress.{Progress, Answers, GoesOn, asks_next, hop_next, after_round}
use Rattle.df_rounds.specs.Underway.{Underway}
use Rattle.df_rounds.specs.Between.{Between}
use Rattle.df_hops.specs.Parts.{act_of}
use Rattle.df_hops.specs.declared.message.Part.{Part}
use Rattle.df_hops.specs.declared.answer.Outcome.{Outcome}
use Rattle.df_post.specs.Rounds.{Place, Idle, Unsent, Sent, Answered, RoundView, place_at, is_done, Goes}
use Rattle.df_post.specs.declared.awaited.Awaited.{Awaited}
use Rattle.df_post.specs.declared.awaited.Kind.{Kind}
use Rattle.df_post.specs.declared.awaited.Kind.TheVariants as kinds
use Rattle.df_exchange.specs.Asks.{awaited_hop, Tells, Heard, heard_of, AllHeard}

-- ---- the messages

-- what the message in a place awaits, wherever it is by now
abbrev pub asked_in : Place → Option Awaited
asked_in Idle = None
asked_in (Unsent a) = Some a
asked_in (Sent a) = Some a
asked_in (Answered a) = Some a

-- what the call asks next of the shards below t
abbrev pub asks_below : ℕ → ℕ → Progress → Asked
asks_below t shards progress s = cond (nat_lt s t) (asks_next shards progress s) None

-- The messages of the call's next round were made for the shards below t, and none was heard yet: u is the caller's pass now.
pub record Exchanging (shards t n : ℕ) (before : Caller) (call : Call) (progress : Progress) (u : Caller) (round : RoundView) : Type 0 where
  -- the pass before the round
  pub v : Caller
  pub between : Between shards before call n progress v
  pub seen : u.seen ≡ v.seen
  pub underway : Underway shards n v u (λ s. is_some (asks_below t shards progress s)) (λ s. None)
  pub places : length round.places ≡ shards
  pub asked : (s : ℕ) → asked_in (place_at s round) ≡ option_map (awaited_hop n (hop_next shards progress)) (asks_below t shards progress s)

-- ---- the answers

-- where an answer is there to what was asked
abbrev pub answered_by : Option Awaited → Place
answered_by None = Idle
answered_by (Some a) = Answered a

-- those of the shards from t on
abbrev pub places_from : ℕ → ℕ → ℕ → Progress → ℕ → Place
places_from t shards n progress s =
    cond (nat_lt s t) Idle (answered_by (option_map (awaited_hop n (hop_next shards progress)) (asks_next shards progress s)))

-- All have answered, and the answers of the shards below t were heard.
pub record Hearing (shards t n : ℕ) (before : Caller) (call : Call) (progress : Progress) (u : Caller) (round : RoundView) (outcomes : List (Option Outcome)) : Type 0 where
  pub v : Caller
  pub between : Between shards before call n progress v
  pub told : ℕ → Told
  pub back : ℕ → Option Entry
  pub underway : Underway shards n v u (λ s. is_some (asks_next shards progress s)) back
  pub places : length round.places ≡ shards
  pub answered : (s : ℕ) → place_at s round ≡ places_from t shards n progress s
  pub count : length outcomes ≡ shards
  pub answers : (s : ℕ) → s < t → Answers (hop_next shards progress) (asks_next shards progress s) (told s) (back s)
  pub may : (s : ℕ) → s < t → MayBeTold shards s (asks_next shards progress s) (told s)
  pub heard : (s : ℕ) → s < t → Heard (asks_next shards progress s) (told s) (heard_of s outcomes)
  pub unheard : (s : ℕ) → t ≤ s → (back s ≡ None) × (heard_of s outcomes ≡ None)

-- ---- what is asked and answered

-- What a shard is asked is due there, by all that its message's ticket tells.
pub record HopDue (shards n s hop : ℕ) (act : Act) (u : Caller) : Type 0 where
  pub own : 0 < length u.own
  pub drawn : 0 < draws_of n u.own
  pub last : last_number u.own ≡ n
  pub is_due : Some act ≡ due shards (call_at u.own n) (λ i. steps_of (entries_in shards u.seen n i)) s hop

-- of the part, if there is one
abbrev pub DueIf : ℕ → ℕ → ℕ → ℕ → Option Part → Caller → Type 0
DueIf shards n s hop None u = Unit {0}
DueIf shards n s hop (Some part) u = HopDue shards n s hop (act_of part) u

-- a Hop awaits its answer so
abbrev pub IsHopKind : Kind → Type 0
IsHopKind kinds.Place = ⊥
IsHopKind kinds.Quick = ⊥
IsHopKind (kinds.Hop part) = Unit {0}
IsHopKind kinds.Free = ⊥
IsHopKind kinds.Pull = ⊥

-- no message is there, or the answer to a Hop
abbrev pub IsHopPlace : Place → Type 0
IsHopPlace Idle = Unit {0}
IsHopPlace (Unsent a) = ⊥
IsHopPlace (Sent a) = ⊥
IsHopPlace (Answered a) = IsHopKind a.kind

-- The answer of shard s to what it was asked: its entry came back, and the outcome tells what that was told. v is the
-- caller's pass before the round, u behind the answer, and these entries were back before it.
pub record HopAnswered (shards s n : ℕ) (progress : Progress) (act : Act) (v u : Caller) (back : ℕ → Option Entry) (outcome : Outcome) : Type 0 where
  pub told : Told
  pub entry : Entry
  pub answers : Answers (hop_next shards progress) (Some act) told (Some entry)
  pub may : MayBeTold shards s (Some act) told
  pub tells : Tells act told outcome
  pub underway : Underway shards n v u (λ i. is_some (asks_next shards progress i)) (put s (Some entry) back)

-- ---- the laws

-- a call between two rounds begins the next one with a round that has room everywhere
abbrev pub ExchangesBegin : Type 0
ExchangesBegin =
    (shards n : ℕ) (before : Caller) (call : Call) (progress : Progress) (u : Caller) (round : RoundView) →
    Between shards before call n progress u → length round.places ≡ shards → ((s : ℕ) → place_at s round ≡ Idle) →
    Exchanging shards 0 n before call progress u round

-- what a shard is asked next is due there
abbrev pub NextPartsAreDue : Type 0
NextPartsAreDue =
    (shards n : ℕ) (before : Caller) (call : Call) (progress : Progress) (u : Caller) (round : RoundView) (t : ℕ) (act : Act) → 0 < shards →
    Exchanging shards t n before call progress u round → asks_next shards progress t ≡ Some act →
    HopDue shards n t (hop_next shards progress) act u

-- and there is room for its message
abbrev pub NextPlacesAreIdle : Type 0
NextPlacesAreIdle =
    (shards t n : ℕ) (before : Caller) (call : Call) (progress : Progress) (u : Caller) (round : RoundView) →
    Exchanging shards t n before call progress u round → place_at t round ≡ Idle

-- messages go and answers come
abbrev pub ExchangesGo : Type 0
ExchangesGo =
    (shards t n : ℕ) (before : Caller) (call : Call) (progress : Progress) (u : Caller) (round now : RoundView) →
    Exchanging shards t n before call progress u round → length now.places ≡ length round.places →
    ((s : ℕ) → Goes (place_at s round) (place_at s now)) → Exchanging shards t n before call progress u now

-- once all have answered, each is heard
abbrev pub HearingsBegin : Type 0
HearingsBegin =
    (shards n : ℕ) (before : Caller) (call : Call) (progress : Progress) (u : Caller) (round : RoundView) (outcomes : List (Option Outcome)) →
    Exchanging shards shards n before call progress u round → ((s : ℕ) → is_done (place_at s round) ≡ true) →
    length outcomes ≡ shards → ((s : ℕ) → heard_of s outcomes ≡ None) → Hearing shards 0 n before call progress u round outcomes

-- which is the answer to a Hop, where there is one
abbrev pub AnswersAreOfHops : Type 0
AnswersAreOfHops =
    (shards t n : ℕ) (before : Caller) (call : Call) (progress : Progress) (u : Caller) (round : RoundView) (outcomes : List (Option Outcome)) (s : ℕ) →
    Hearing shards t n before call progress u round outcomes → IsHopPlace (place_at s round)

-- and once all were heard the call is one round further, by what they told
pub record Rounded (shards n : ℕ) (before : Caller) (call : Call) (progress : Progress) (u : Caller) (round : RoundView) (outcomes : List (Option Outcome)) : Type 0 where
  pub told : ℕ → Told
  pub between : Between shards before call n (after_round told progress) u
  pub heard : AllHeard (asks_next shards progress) told outcomes
  pub idle : (s : ℕ) → place_at s round ≡ Idle

abbrev pub ExchangesGoRound : Type 0
ExchangesGoRound =
    (shards n : ℕ) (before : Caller) (call : Call) (progress : Progress) (u : Caller) (round : RoundView) (outcomes : List (Option Outcome)) →
    0 < shards → GoesOn shards progress.left progress.standing → Hearing shards shards n before call progress u round outcomes →
    Rounded shards n before call progress u round outcomes
