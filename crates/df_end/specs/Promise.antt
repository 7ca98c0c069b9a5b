-- What all sessions together are promised: one list of calls, and of each session the output of its own items.
use Rattle.std.specs.Prelude.{◌≡◌, ℕ, ◌+◌, ◌<◌, ◌≤◌, ◌==◌, cond, eqb, ltb, List, [], ◌∷◌, length}
use Rattle.std.specs.List.{AllByRecursion}
use Rattle.df_model.specs.Keyspace.{Keyspace}
use Rattle.df_model.specs.History.{Item, Leads, IsLegal, IsOrdered}
use Rattle.df_model.specs.declared.command.WholeOp.TheVariants as wholes
use Rattle.df_model.specs.declared.command.Command.TheVariants.{Whole}
use Rattle.df_model.specs.declared.command.Call.TheVariants.{Single}
use Rattle.df_log.specs.Acts.{Cut}
use Rattle.df_log.specs.Parts.{own_keys}
use Rattle.df_model.specs.declared.command.Call.{Call}
use Rattle.df_model.specs.declared.reply.Reply.{Reply}
use Rattle.df_order.specs.Lists.{Has, only}
use Rattle.df_log.specs.declared.entry.Entry.{Entry}
use Rattle.df_core.specs.History as core
use Rattle.df_core.specs.History.{history_of, NamesAShard}
use Rattle.df_book.specs.Weights.{Each}
use Rattle.df_book.specs.Logs.{at_log}
use Rattle.df_book.specs.Draws.{call_at}
use Rattle.df_book.specs.Closed.{Closed}
use Rattle.df_book.specs.declared.draw.Draw.{Draw}
use Rattle.df_end.specs.Logs.{logs_in}
use Rattle.df_model.specs.Spoken.{Session, Spoke}

abbrev pub of_session : ℕ → List Item → List Item
of_session id items = only (λ i. eqb i.session id) items

-- the session with this place is one of these
abbrev pub IsPlace : List Session → ℕ → Type 0
IsPlace sessions id = (w : Session) × Has sessions w × (w.id ≡ id)

-- the items of the numbers below n
abbrev pub below_number : ℕ → List Item → List Item
below_number n items = only (λ i. ltb i.number n) items

-- one list for all sessions: legal from the keyspace, in order, and each session's output is that of its items
pub record ListPromise (K : Keyspace) (Leaves : Call → Type 0) (items : List Item) (sessions : List Session) : Type 0 where
  pub legal : IsLegal K items
  pub ordered : IsOrdered Leaves items
  pub spoke : AllByRecursion (λ (w : Session). Spoke w (of_session w.id items)) sessions
  pub placed : AllByRecursion (λ (i : Item). IsPlace sessions i.session) items

-- ---- the list of a closed book

abbrev pub session_at : List Draw → ℕ → ℕ
session_at [] n = 0
session_at (d ∷ ds) n = cond (d.number == n) d.session (session_at ds n)

abbrev pub floor_at : List Draw → ℕ → ℕ
floor_at [] n = 0
floor_at (d ∷ ds) n = cond (d.number == n) d.floor (floor_at ds n)

abbrev pub drawn_in : List Draw → ℕ → core.Draw
drawn_in draws n = record { session = session_at draws n; call = call_at draws n; floor = floor_at draws n }

-- an item for each number that was executed, in the order of the numbers, with these replies
abbrev pub list_of : ℕ → Closed → (ℕ → Reply) → List Item
list_of shards c replies = history_of shards (drawn_in c.draws) (logs_in shards c.logs) replies (length c.draws)

-- the cuts of a save are together the keyspace that the items below its number leave
pub record SaveShows (shards : ℕ) (K : Keyspace) (c : Closed) (replies : ℕ → Reply) (n : ℕ) : Type 0 where
  pub keyspace : Keyspace
  pub reached : Leads K (below_number n (list_of shards c replies)) keyspace
  pub cuts : (s : ℕ) (e : Entry) → s < shards → Has (logs_in shards c.logs s) e → e.number ≡ n → e.told ≡ Cut (own_keys shards s keyspace)

-- The promise of a closed book, for these sessions and the keyspace that was loaded; the replies are those of the calls
-- that ran, by number.
pub record Promise (shards : ℕ) (K : Keyspace) (c : Closed) (sessions : List Session) : Type 0 where
  pub replies : ℕ → Reply
  pub list : ListPromise K (NamesAShard shards) (list_of shards c replies) sessions
  pub saves : (n : ℕ) → call_at c.draws n ≡ Single (Whole wholes.Save) → 0 < n → n ≤ length c.draws → SaveShows shards K c replies n
  -- each draw's session is one of these, and each entry's number was drawn
  pub drawn : Each (λ (d : Draw). IsPlace sessions d.session) c.draws
  pub entered : (s : ℕ) → Each (λ (e : Entry). (0 < e.number) × (e.number ≤ length c.draws)) (at_log c.logs s)

-- ---- the list of one session, numbered by place

abbrev pub by_place : ℕ → List Item → List Item
by_place before [] = []
by_place before (i ∷ items) = record i { session = 0; number = before + 1; floor = before } ∷ by_place (before + 1) items

-- an item's number is its place, from 1, and its floor the number before it
abbrev pub IsNumbered : ℕ → List Item → Type 0
IsNumbered before [] = Unit {0}
IsNumbered before (item ∷ items) =
    (item.session ≡ 0) × (item.number ≡ before + 1) × (item.floor ≡ before) × IsNumbered (before + 1) items
