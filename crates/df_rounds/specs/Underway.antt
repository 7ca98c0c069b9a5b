-- A round that is under way: a running ticket for each shard that was asked so far, and a receipt from each that
-- answered so far, in any order.
use Rattle.std.specs.Prelude.{◌≡◌, ℕ, ◌+◌, ◌<◌, Bool, true, false, cond, is_some, Option, Some, None, List, ◌++◌}
use Rattle.df_model.specs.declared.command.Call.{Call}
use Rattle.df_order.specs.Lists.{Has}
use Rattle.df_order.specs.Puts.{put}
use Rattle.df_log.specs.Acts.{Act, Told}
use Rattle.df_log.specs.declared.entry.Entry.{Entry}
use Rattle.df_core.specs.Steps.{step_of, steps_of}
use Rattle.df_book.specs.Weights.{Each, below, count}
use Rattle.df_book.specs.Logs.{at_log, Within, BothSeen}
use Rattle.df_book.specs.Draws.{Bounded, draws_of, last_number}
use Rattle.df_book.specs.Passes.{Caller, Receipt, after_running, after_receipt}
use Rattle.df_end.specs.Rounds.{Hopped}
use Rattle.df_rounds.specs.Standing.{MayBeTold, AllMayBeTold}
use Rattle.df_rounds.specs.Progress.{Progress, Stands, Answers, GoesOn, asks_next, hop_next, after_round}

-- the entry that a shard's receipt showed
abbrev pub IsBack : ℕ → ℕ → List (List Entry) → Option Entry → Type 0
IsBack n s seen None = Unit {0}
IsBack n s seen (Some e) = (e.number ≡ n) × Has (at_log seen s) e

-- 1 where a ticket was made for the shard
abbrev pub sent_at : (ℕ → Bool) → ℕ → ℕ
sent_at sent s = cond (sent s) 1 0

-- From the pass v at the round's start to the pass u now: who was sent a ticket, and which entries came back.
pub record Underway (shards n : ℕ) (v u : Caller) (sent : ℕ → Bool) (back : ℕ → Option Entry) : Type 0 where
  pub sessions : u.sessions ≡ v.sessions
  pub own : u.own ≡ v.own
  -- the number is the caller's last one, of which its tickets are
  pub drawn : 0 < draws_of n u.own
  pub last : last_number u.own ≡ n
  pub within : Within v.seen u.seen
  pub bounded : Bounded u.own u.made u.seen
  -- a running ticket for each shard that was sent one, and no other
  pub made : List ℕ
  pub made_is : u.made ≡ v.made ++ made
  pub made_own : Each (λ (m : ℕ). m ≡ n) made
  pub count_is : count n u.made ≡ count n v.made + below (sent_at sent) shards
  pub came : (s : ℕ) → IsBack n s u.seen (back s)

-- ---- the laws

-- at first nobody was sent one
abbrev pub RoundsBegin : Type 0
RoundsBegin =
    (shards n : ℕ) (v : Caller) → 0 < draws_of n v.own → last_number v.own ≡ n → Bounded v.own v.made v.seen →
    Underway shards n v v (λ s. false) (λ s. None)

-- a running ticket is made for a shard
abbrev pub RoundsSend : Type 0
RoundsSend =
    (shards n : ℕ) (v u : Caller) (sent : ℕ → Bool) (back : ℕ → Option Entry) (s : ℕ) → s < shards → sent s ≡ false →
    Underway shards n v u sent back → Underway shards n v (after_running u) (put s true sent) back

-- a receipt comes back that shows an entry of the call
abbrev pub RoundsTake : Type 0
RoundsTake =
    (shards n : ℕ) (v u : Caller) (sent : ℕ → Bool) (back : ℕ → Option Entry) (r : Receipt) (seen : List (List Entry)) (e : Entry) →
    BothSeen u.seen r.seen seen → at_log r.seen r.shard ≡ r.log → Has r.log e → e.number ≡ n →
    Bounded u.own u.made seen → Underway shards n v u sent back →
    Underway shards n v (after_receipt u r seen) sent (put r.shard (Some e) back)

-- any other receipt comes
abbrev pub RoundsSee : Type 0
RoundsSee =
    (shards n : ℕ) (v u : Caller) (sent : ℕ → Bool) (back : ℕ → Option Entry) (r : Receipt) (seen : List (List Entry)) →
    BothSeen u.seen r.seen seen → Bounded u.own u.made seen → Underway shards n v u sent back →
    Underway shards n v (after_receipt u r seen) sent back

-- what answers the next round wasn't seen before, since its hop is above all that was
abbrev pub AnswersAreNew : Type 0
AnswersAreNew =
    (shards n : ℕ) (v : Caller) (es : ℕ → List Entry) (call : Call) (progress : Progress) (s : ℕ) (act : Act) (told : Told) (e : Entry) →
    0 < shards → Hopped shards v n es → Stands shards call progress (λ t. steps_of (es t)) → asks_next shards progress s ≡ Some act →
    MayBeTold shards s (Some act) told → e.number ≡ n → step_of e ≡ record { hop = hop_next shards progress; act = act; told = told } →
    Has (at_log v.seen s) e → ⊥

-- where each shard that is asked next was sent a ticket, no other was, and each has answered, the call is one round further
abbrev pub RoundsEnd : Type 0
RoundsEnd =
    (shards n : ℕ) (v u : Caller) (sent : ℕ → Bool) (back : ℕ → Option Entry) (es : ℕ → List Entry) (call : Call) (progress : Progress)
    (told : ℕ → Told) → 0 < shards → Hopped shards v n es → Stands shards call progress (λ s. steps_of (es s)) →
    Underway shards n v u sent back → GoesOn shards progress.left progress.standing → AllMayBeTold shards (asks_next shards progress) told →
    ((s : ℕ) → sent s ≡ is_some (asks_next shards progress s)) →
    ((s : ℕ) → Answers (hop_next shards progress) (asks_next shards progress s) (told s) (back s)) →
    (fs : ℕ → List Entry) × Hopped shards u n fs × Stands shards call (after_round told progress) (λ s. steps_of (fs s))
