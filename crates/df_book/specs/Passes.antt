-- What contracts see of passes, tickets and receipts, and what each call makes of them.
use Rattle.std.specs.Prelude.{◌≡◌, ℕ, zero, suc, ◌+◌, ◌-◌, ◌<◌, List, [], ◌∷◌, ◌++◌}
use Rattle.atomic_table.specs.Seated.{TableId}
use Rattle.df_model.specs.declared.command.Call.{Call}
use Rattle.df_log.specs.declared.entry.Entry.{Entry}
use Rattle.df_book.specs.Weights.{count, head_or}
use Rattle.df_book.specs.Logs.{with_log, longer, floor_of}
use Rattle.df_book.specs.Draws.{last_number}
use Rattle.df_book.specs.declared.draw.Draw.{Draw}

-- Which book it is. It has a word for the numbers and one for each log, so two more than shards.
abbrev pub BookName : Type 0
BookName = TableId

-- ---- callers

pub record Caller : Type 0 where
  pub book : BookName
  -- 1 for the book's first pass, 0 for a pass that was split from it
  pub first : ℕ
  -- how many passes were split from it
  pub splits : ℕ
  -- how many numbers it may still draw
  pub budget : ℕ
  -- the places, among the passes split from the first one, of those that it stands for: its own and those that were joined into it
  pub sessions : List ℕ
  -- the draws of these
  pub own : List Draw
  -- the number of each running ticket that they made
  pub made : List ℕ
  -- what receipts told of draws
  pub known : List Draw
  -- a beginning of each log
  pub seen : List (List Entry)

abbrev pub first_pass : BookName → ℕ → Caller
first_pass book draws = record { book = book; first = 1; splits = 0; budget = draws; sessions = []; own = []; made = []; known = []; seen = [] }

abbrev pub after_split : Caller → ℕ → Caller
after_split p draws = record p { splits = p.splits + 1; budget = p.budget - draws }

abbrev pub split_off : Caller → ℕ → Caller
split_off p draws = record { book = p.book; first = 0; splits = 0; budget = draws; sessions = p.splits ∷ []; own = []; made = []; known = []; seen = p.seen }

-- its floor is above all that the caller had seen run
abbrev pub draw_by : Caller → Call → ℕ → Draw
draw_by p call n = record { session = head_or 0 p.sessions; number = n; call = call; floor = floor_of p.seen }

abbrev pub after_draw : Caller → Call → ℕ → Caller
after_draw p call n = record p { budget = p.budget - 1; own = p.own ++ draw_by p call n ∷ [] }

abbrev pub after_running : Caller → Caller
after_running p = record p { made = p.made ++ last_number p.own ∷ [] }

-- both, where this is seen of the logs now
abbrev pub joined : Caller → Caller → List (List Entry) → Caller
joined p q seen = record { book = p.book; first = p.first; splits = p.splits; budget = p.budget + q.budget; sessions = p.sessions ++ q.sessions; own = p.own ++ q.own; made = p.made ++ q.made; known = p.known ++ q.known; seen = seen }

-- it is the first pass, and each pass that was split from it was joined into it
abbrev pub AllJoined : Caller → Type 0
AllJoined p = (p.first ≡ 1) × ((i : ℕ) → i < p.splits → 0 < count i p.sessions)

-- ---- tickets

pub record Ticket : Type 0 where
  pub book : BookName
  -- what its caller had drawn and seen
  pub known : List Draw
  pub seen : List (List Entry)
  -- the number of a running ticket
  pub runs : List ℕ

abbrev pub ticket_of : Caller → Ticket
ticket_of p = record { book = p.book; known = p.own; seen = p.seen; runs = [] }

abbrev pub running_of : Caller → Ticket
running_of p = record { book = p.book; known = p.own; seen = p.seen; runs = last_number p.own ∷ [] }

-- ---- shards

pub record Shard : Type 0 where
  pub book : BookName
  pub shard : ℕ
  -- its own log, whole
  pub log : List Entry
  -- what tickets told of draws
  pub known : List Draw
  -- the number of each running ticket that it took
  pub counted : List ℕ
  -- a beginning of each log
  pub seen : List (List Entry)

abbrev pub new_shard : BookName → ℕ → Shard
new_shard book s = record { book = book; shard = s; log = []; known = []; counted = []; seen = [] }

-- those of the shards from s on, n of them
abbrev pub shard_passes : BookName → ℕ → ℕ → List Shard
shard_passes book s zero = []
shard_passes book s (suc n) = new_shard book s ∷ shard_passes book (suc s) n

-- where this is seen of the logs now; its own is as before
abbrev pub after_ticket : Shard → Ticket → List (List Entry) → Shard
after_ticket p t seen = record p { known = p.known ++ t.known; counted = p.counted ++ t.runs; seen = seen }

abbrev pub after_entry : Shard → Entry → Shard
after_entry p e = record p { log = p.log ++ e ∷ []; seen = with_log p.seen p.shard (p.log ++ e ∷ []) }

-- ---- receipts

pub record Receipt : Type 0 where
  pub book : BookName
  pub shard : ℕ
  -- the shard's log, as it was
  pub log : List Entry
  -- what the shard knew of draws
  pub known : List Draw
  -- a beginning of each log, as the shard had seen it
  pub seen : List (List Entry)

abbrev pub receipt_of : Shard → Receipt
receipt_of p = record { book = p.book; shard = p.shard; log = p.log; known = p.known; seen = p.seen }

-- where this is seen of the logs now
abbrev pub after_receipt : Caller → Receipt → List (List Entry) → Caller
after_receipt p r seen = record p { known = p.known ++ r.known; seen = seen }

-- where this is seen of the logs now
abbrev pub met : Receipt → Receipt → List (List Entry) → Receipt
met r q seen = record r { log = longer r.log q.log; known = r.known ++ q.known; seen = seen }
