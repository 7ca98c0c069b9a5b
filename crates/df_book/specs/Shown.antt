-- What contracts see of a seat.
use Rattle.std.specs.Prelude.{ℕ, map, List}
use Rattle.df_book.specs.Logs.{at_log}
use Rattle.df_book.specs.Passes.{BookName, Caller, Ticket, Shard, Receipt}
use Rattle.df_book.specs.Closed.{Closed}
use Rattle.df_book.specs.declared.view.View.{View}

abbrev pub caller_of : BookName → View → Caller
caller_of z v = record { book = z; first = v.first; splits = v.splits; budget = v.budget; sessions = v.sessions; own = v.own; made = v.made; known = v.known; seen = v.seen }

abbrev pub ticket_seen : BookName → View → Ticket
ticket_seen z v = record { book = z; known = v.known; seen = v.seen; runs = v.runs }

-- the numbers of pairs of a log and a number
abbrev pub numbers_of : List (ℕ × ℕ) → List ℕ
numbers_of pairs = map (λ (p : ℕ × ℕ). p.1) pairs

abbrev pub shard_seen : BookName → ℕ → View → Shard
shard_seen z s v = record { book = z; shard = s; log = at_log v.seen s; known = v.known; counted = numbers_of v.counted; seen = v.seen }

abbrev pub receipt_seen : BookName → View → Receipt
receipt_seen z v = record { book = z; shard = v.shows; log = at_log v.seen v.shows; known = v.known; seen = v.seen }

abbrev pub closed_of : View → Closed
closed_of v = record { logs = v.seen; draws = v.own; made = v.made; known = v.known }
