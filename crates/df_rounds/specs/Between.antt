-- What a call keeps between two rounds, from its draw to its reply, and what it leaves.
use Rattle.std.specs.Prelude.{◌≡◌, ℕ, ◌<◌, ◌≤◌, Bool, false, is_some, Option, Some, None, List, [], ◌∷◌, ◌++◌}
use Rattle.df_model.specs.declared.command.Call.{Call}
use Rattle.df_model.specs.declared.reply.Reply.{Reply}
use Rattle.df_log.specs.Acts.{Act, Told, Passed}
use Rattle.df_log.specs.declared.entry.Entry.{Entry}
use Rattle.df_core.specs.Steps.{Step, steps_of}
use Rattle.df_core.specs.Due.{due}
use Rattle.df_core.specs.History.{NamesAShard}
use Rattle.df_book.specs.Weights.{Each, count}
use Rattle.df_book.specs.Logs.{AllBelow, Within, BothSeen, floor_of}
use Rattle.df_book.specs.Draws.{Bounded, OwnAgreed, call_at, draws_of, last_number}
use Rattle.df_book.specs.Passes.{Caller, Receipt, Ticket, draw_by, after_draw, after_receipt, running_of}
use Rattle.df_book.specs.declared.draw.Draw.{Draw}
use Rattle.df_end.specs.Logs.{entries_in}
use Rattle.df_end.specs.Calls.{Row}
use Rattle.df_end.specs.Asked.{PartDue}
use Rattle.df_end.specs.Rounds.{Hopped, CallWent}
use Rattle.df_rounds.specs.Standing.{AllMayBeTold}
use Rattle.df_rounds.specs.Progress.{Progress, Stands, Answers, GoesOn, progress_of, asks_next, hop_next, after_round, reply_to}
use Rattle.df_rounds.specs.Underway.{Underway}

-- The call was drawn with number n by a caller whose pass was `before` then and is u now, and is so far by the entries
-- that u has seen of it.
pub record Between (shards : ℕ) (before : Caller) (call : Call) (n : ℕ) (progress : Progress) (u : Caller) : Type 0 where
  pub es : ℕ → List Entry
  pub hopped : Hopped shards u n es
  pub stands : Stands shards call progress (λ s. steps_of (es s))
  pub sessions : u.sessions ≡ before.sessions
  pub own : u.own ≡ before.own ++ draw_by before call n ∷ []
  -- the running tickets that were made since are of this number
  pub made : List ℕ
  pub made_is : u.made ≡ before.made ++ made
  pub made_own : Each (λ (m : ℕ). m ≡ n) made
  pub within : Within before.seen u.seen
  pub bounded : Bounded u.own u.made u.seen
  -- the number is above all that the caller had seen and drawn
  pub floor : floor_of before.seen < n
  pub above : Each (λ (d : Draw). d.number < n) before.own

-- A running ticket of the call, by which this is due on the shard: the ticket tells of the draw, and shows the entries
-- that its caller had seen of it.
pub record TicketAsks (shards : ℕ) (call : Call) (n s hop : ℕ) (act : Act) (t : Ticket) : Type 0 where
  pub last : last_number t.known ≡ n
  pub drawn : 0 < draws_of n t.known
  pub runs : t.runs ≡ n ∷ []
  pub call_is : call_at t.known n ≡ call
  pub is_due : due shards call (λ i. steps_of (entries_in shards t.seen n i)) s hop ≡ Some act

-- the call's row once it has ended, or where it never ran
abbrev pub row_of : Caller → Call → ℕ → Option Reply → Row
row_of before call n reply = record { draw = draw_by before call n; reply = reply }

-- ---- the laws

-- behind the draw
abbrev pub CallsAreDrawn : Type 0
CallsAreDrawn =
    (shards : ℕ) (before : Caller) (call : Call) (n : ℕ) → Each (λ (d : Draw). d.number < n) before.own → AllBelow n before.seen →
    count n before.made ≡ 0 → 0 < n → Bounded before.own before.made before.seen →
    Between shards before call n (progress_of call) (after_draw before call n)

-- a round begins
abbrev pub CallsAsk : Type 0
CallsAsk =
    (shards : ℕ) (before : Caller) (call : Call) (n : ℕ) (progress : Progress) (u : Caller) → Between shards before call n progress u →
    Underway shards n u u (λ s. false) (λ s. None)

-- each ticket of the round that is made before its first receipt is taken says what is asked
abbrev pub TicketsAsk : Type 0
TicketsAsk =
    (shards : ℕ) (before : Caller) (call : Call) (n : ℕ) (progress : Progress) (v u : Caller) (s : ℕ) (act : Act) → 0 < shards →
    Between shards before call n progress v → u.own ≡ v.own → u.seen ≡ v.seen → asks_next shards progress s ≡ Some act →
    TicketAsks shards call n s (hop_next shards progress) act (running_of u)

-- and what an answer's part was is what was asked, however much more or less of the call its shard had seen
abbrev pub AnswersAgree : Type 0
AnswersAgree =
    (shards : ℕ) (before : Caller) (call : Call) (n : ℕ) (progress : Progress) (v u : Caller) (r : Receipt) (asked act : Act) → 0 < shards →
    Between shards before call n progress v → asks_next shards progress r.shard ≡ Some asked →
    PartDue shards r n (hop_next shards progress) act → Within v.seen u.seen → Within r.seen u.seen → OwnAgreed v.own r.known → act ≡ asked

-- behind a round
abbrev pub CallsGoRound : Type 0
CallsGoRound =
    (shards : ℕ) (before : Caller) (call : Call) (n : ℕ) (progress : Progress) (v u : Caller) (sent : ℕ → Bool) (back : ℕ → Option Entry)
    (told : ℕ → Told) → 0 < shards → Between shards before call n progress v → Underway shards n v u sent back →
    GoesOn shards progress.left progress.standing → AllMayBeTold shards (asks_next shards progress) told →
    ((s : ℕ) → sent s ≡ is_some (asks_next shards progress s)) →
    ((s : ℕ) → Answers (hop_next shards progress) (asks_next shards progress s) (told s) (back s)) →
    Between shards before call n (after_round told progress) u

-- behind any other receipt, as that of a part of a cut: it shows no further entry of the call
abbrev pub CallsSee : Type 0
CallsSee =
    (shards : ℕ) (before : Caller) (call : Call) (n : ℕ) (progress : Progress) (u : Caller) (r : Receipt) (seen : List (List Entry)) →
    Between shards before call n progress u → BothSeen u.seen r.seen seen → Bounded u.own u.made seen →
    Between shards before call n progress (after_receipt u r seen)

-- where a command is over, and whatever else changes by the steps alone
abbrev pub CallsMove : Type 0
CallsMove =
    (shards : ℕ) (before : Caller) (call : Call) (n : ℕ) (progress now : Progress) (u : Caller) → Between shards before call n progress u →
    ((steps : ℕ → List Step) → Stands shards call progress steps → Stands shards call now steps) → Between shards before call n now u

-- at the end
abbrev pub CallsLeave : Type 0
CallsLeave =
    (shards : ℕ) (before : Caller) (call : Call) (n : ℕ) (progress : Progress) (u : Caller) → Between shards before call n progress u →
    progress.left ≡ [] → CallWent shards before u call (row_of before call n (Some (reply_to call progress.replies)) ∷ [])

-- where it was refused before its first hop, and each shard that was sent a ticket passed
abbrev pub CallsPass : Type 0
CallsPass =
    (shards : ℕ) (before : Caller) (call : Call) (n : ℕ) (u : Caller) (sent : ℕ → Bool) (back : ℕ → Option Entry) →
    Each (λ (d : Draw). d.number < n) before.own → AllBelow n before.seen → count n before.made ≡ 0 → 0 < n →
    Underway shards n (after_draw before call n) u sent back → ((s : ℕ) → sent s ≡ is_some (back s)) → ((s : ℕ) → shards ≤ s → back s ≡ None) →
    ((s : ℕ) (e : Entry) → back s ≡ Some e → e.act ≡ Passed) → NamesAShard shards call →
    CallWent shards before u call (row_of before call n None ∷ [])

-- a call that never ran may be drawn again
abbrev pub CallsDrawAgain : Type 0
CallsDrawAgain =
    (shards : ℕ) (v u w : Caller) (call : Call) (more again : List Row) → CallWent shards v u call more →
    Each (λ (r : Row). r.reply ≡ None) more → CallWent shards u w call again → CallWent shards v w call (more ++ again)
