-- A call on its way: what its caller has seen of its number, round by round.
use Rattle.std.specs.Prelude.{◌≡◌, ℕ, ◌+◌, ◌<◌, ◌≤◌, cond, is_some, Option, Some, None, List, [], ◌∷◌, ◌++◌}
use Rattle.df_model.specs.declared.command.Call.{Call}
use Rattle.df_model.specs.declared.reply.Reply.{Reply}
use Rattle.df_order.specs.Lists.{Has, Chain}
use Rattle.df_log.specs.Entries.{acts_of}
use Rattle.df_log.specs.declared.entry.Entry.{Entry}
use Rattle.df_core.specs.Calls.{calls}
use Rattle.df_core.specs.History.{NamesAShard}
use Rattle.df_book.specs.Weights.{Each, below, count, head_or}
use Rattle.df_book.specs.Logs.{at_log, AllBelow, Within, uses, uses_in, floor_of}
use Rattle.df_book.specs.Draws.{Bounded, draws_of}
use Rattle.df_book.specs.Passes.{Caller, draw_by, after_draw, after_running}
use Rattle.df_book.specs.declared.draw.Draw.{Draw}
use Rattle.df_end.specs.Logs.{entries_in}
use Rattle.df_end.specs.Calls.{Row, draws_in, CallLeft, Follows, items_of}
use Rattle.df_end.specs.Sessions.{SessionHolds}

-- between two rounds: an entry or a note was seen for each running ticket of the number, and these are the entries
pub record Hopped (shards : ℕ) (v : Caller) (n : ℕ) (es : ℕ → List Entry) : Type 0 where
  pub used : uses_in n v.seen (shards + 1) ≡ count n v.made
  pub entries : (s : ℕ) → entries_in shards v.seen n s ≡ es s

-- a shard's answer to a running ticket: an entry, or a Passed note, that wasn't seen before
pub record Answered (n s : ℕ) (before now : List (List Entry)) (e : Entry) : Type 0 where
  pub number : e.number ≡ n
  pub uses_one : uses e.act ≡ 1
  pub seen : Has (at_log now s) e
  pub is_new : Has (at_log before s) e → ⊥

-- what each shard answered in a round, or None where it wasn't asked
abbrev pub RoundOf : ℕ → ℕ → List (List Entry) → List (List Entry) → Option Entry → Type 0
RoundOf n s before now None = Unit {0}
RoundOf n s before now (Some e) = Answered n s before now e

-- the entry of an answer, where it is no note
abbrev pub acts_in : Option Entry → List Entry
acts_in None = []
acts_in (Some e) = acts_of (e ∷ [])

-- 1 where the shard was asked
abbrev pub asked : (ℕ → Option Entry) → ℕ → ℕ
asked round s = cond (is_some (round s)) 1 0

-- a round: a running ticket for each shard that is asked, and then its receipt
pub record Round (shards n : ℕ) (v u : Caller) (round : ℕ → Option Entry) : Type 0 where
  pub within : Within v.seen u.seen
  pub bounded : Bounded u.own u.made u.seen
  pub drawn : 0 < draws_of n u.own
  pub made : count n u.made ≡ count n v.made + below (asked round) shards
  pub beyond : (s : ℕ) → shards ≤ s → round s ≡ None
  pub answers : (s : ℕ) → RoundOf n s v.seen u.seen (round s)

-- ---- the laws

-- a number that was just drawn has no entry
abbrev pub CallsBegin : Type 0
CallsBegin =
    (shards : ℕ) (v : Caller) (call : Call) (n : ℕ) → AllBelow n v.seen → count n v.made ≡ 0 → 0 < n →
    Hopped shards (after_draw v call n) n (λ s. []) × ((draw_by v call n).floor < n)

-- a draw keeps the bound of entries by running tickets, and so does a further ticket
abbrev pub DrawsKeepTheBound : Type 0
DrawsKeepTheBound =
    (v : Caller) (call : Call) (n : ℕ) → Bounded v.own v.made v.seen → AllBelow n v.seen →
    Bounded (after_draw v call n).own (after_draw v call n).made (after_draw v call n).seen

abbrev pub TicketsKeepTheBound : Type 0
TicketsKeepTheBound =
    (v : Caller) → Bounded v.own v.made v.seen →
    Bounded (after_running v).own (after_running v).made (after_running v).seen

-- after a round the entries are those of before, and those of the answers
abbrev pub RoundsAreSeen : Type 0
RoundsAreSeen =
    (shards n : ℕ) (v u : Caller) (es : ℕ → List Entry) (round : ℕ → Option Entry) → Hopped shards v n es →
    Round shards n v u round → Hopped shards u n (λ s. es s ++ acts_in (round s))

-- a call whose entries give its reply has ended, and so has one that names a shard and has none
abbrev pub CallsEnd : Type 0
CallsEnd =
    (shards : ℕ) (u : Caller) (d : Draw) (es : ℕ → List Entry) → Hopped shards u d.number es →
    ((reply : Reply) → (calls shards).Gives d.call es reply → CallLeft shards u record { draw = d; reply = Some reply })
    × (NamesAShard shards d.call → ((s : ℕ) → es s ≡ []) → CallLeft shards u record { draw = d; reply = None })

-- What a call that ended left, from its caller's pass before it to that after it: `more` are its draws, of which only
-- the last may have run.
pub record CallWent (shards : ℕ) (v u : Caller) (call : Call) (more : List Row) : Type 0 where
  pub place : u.sessions ≡ v.sessions
  pub own : u.own ≡ v.own ++ draws_in more
  pub made : List ℕ
  pub made_is : u.made ≡ v.made ++ made
  pub made_own : Each (λ (n : ℕ). 0 < draws_of n (draws_in more)) made
  pub within : Within v.seen u.seen
  pub bounded : Bounded u.own u.made u.seen
  pub calls : Each (λ (r : Row). r.draw.call ≡ call) more
  pub session : Each (λ (r : Row). r.draw.session ≡ head_or 0 v.sessions) more
  pub floor : Each (λ (r : Row). (floor_of v.seen ≤ r.draw.floor) × (r.draw.floor < r.draw.number)) more
  pub above : Each (λ (r : Row). Each (λ (d : Draw). d.number < r.draw.number) v.own) more
  pub follow : Chain (Follows shards) more
  pub left : Each (CallLeft shards u) more

-- a session goes on by a call
abbrev pub SessionsGoOn : Type 0
SessionsGoOn =
    (shards id : ℕ) (v u : Caller) (rows more : List Row) (call : Call) → 0 < shards → SessionHolds shards id v rows →
    CallWent shards v u call more → SessionHolds shards id u (rows ++ more)

-- its items of before are as they were, and those of the call stand behind them
abbrev pub ItemsGoOn : Type 0
ItemsGoOn =
    (shards id : ℕ) (v u : Caller) (rows more : List Row) (call : Call) → SessionHolds shards id v rows →
    CallWent shards v u call more →
    items_of shards u.seen (rows ++ more) ≡ items_of shards v.seen rows ++ items_of shards u.seen more
