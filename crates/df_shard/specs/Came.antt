-- What a shard knows of a message whose ticket it took, and what its command came to.
use Rattle.std.specs.Prelude.{◌≡◌, ℕ, ◌+◌, ◌<◌, ◌≤◌, Bool, true, false, Some, None, [], ◌∷◌}
use Rattle.df_model.specs.Values.{Bytes}
use Rattle.df_model.specs.Keyspace.{Keyspace}
use Rattle.df_model.specs.Meaning.{meaning}
use Rattle.df_model.specs.Replies.{encoding_of}
use Rattle.df_model.specs.declared.command.Call.{Call}
use Rattle.df_log.specs.Acts.{Act, Told, Ran, NoMemory}
use Rattle.df_log.specs.declared.entry.Entry.{Entry}
use Rattle.df_core.specs.Due.{due}
use Rattle.df_book.specs.Weights.{count}
use Rattle.df_book.specs.Logs.{at_log, Within, uses_of}
use Rattle.df_book.specs.Draws.{call_at, draws_of, Agreed}
use Rattle.df_book.specs.Passes.{Shard, Ticket, after_ticket}
use Rattle.df_shard.specs.Holds.{View, WasDue, armed_in, call_act, call_command}

abbrev pub with_pass : View → Shard → View
with_pass x p = record x { pass = p }

-- The ticket was taken, and nothing else changed. A running ticket is the right to one entry beside those of the armed hops.
pub record Took (x y : View) (t : Ticket) : Type 0 where
  pub pass : y ≡ with_pass x (after_ticket x.pass t y.pass.seen)
  pub agreed : Agreed y.pass.known
  pub book : y.pass.book.words ≡ y.shards + 2
  pub own : at_log y.pass.seen y.pass.shard ≡ y.pass.log
  pub seen : Within t.seen y.pass.seen
  pub room : (n : ℕ) → uses_of n y.pass.log + (armed_in y.waiting n + count n t.runs) ≤ count n y.pass.counted

-- The call was drawn under the number, its command is due here as this hop, and a running ticket is there for it.
pub record Brought (x : View) (n hop : ℕ) (call : Call) : Type 0 where
  pub drawn : 0 < draws_of n x.pass.known
  pub is_call : call_at x.pass.known n ≡ call
  pub is_due : due x.shards call (λ i. []) x.index hop ≡ Some (call_act call hop)
  pub room : (m : ℕ) → uses_of m x.pass.log + (armed_in x.waiting m + count m (n ∷ [])) ≤ count m x.pass.counted

-- The same of a Hop: it was due by what its caller had seen.
pub record Comes (x : View) (n hop : ℕ) (act : Act) : Type 0 where
  pub drawn : 0 < draws_of n x.pass.known
  pub is_due : WasDue x.shards x.index x.pass n hop act None
  pub room : (m : ℕ) → uses_of m x.pass.log + (armed_in x.waiting m + count m (n ∷ [])) ≤ count m x.pass.counted

-- ---- entries of a Quick

abbrev pub done : ℕ → ℕ → Call → Told → Entry
done n hop call told = record { number = n; hop = hop; act = call_act call hop; told = told }

-- The command ran, and its reply is these bytes; or it found no memory and changed nothing.
abbrev pub RanTo : ℕ → ℕ → Call → Keyspace → Keyspace → Bytes → Entry → Bool → Type 0
RanTo n hop call before after bytes e true =
    (e ≡ done n hop call (Ran (meaning (call_command call hop) before).0))
    × (after ≡ (meaning (call_command call hop) before).1)
    × (bytes ≡ encoding_of (meaning (call_command call hop) before).0)
RanTo n hop call before after bytes e false = (e ≡ done n hop call NoMemory) × (after ≡ before)
