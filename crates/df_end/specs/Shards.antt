-- What a shard keeps, and what it hands out at its end, over its pass's record.
use Rattle.std.specs.Prelude.{◌≡◌, ℕ, ◌+◌, ◌<◌, ◌≤◌, []}
use Rattle.df_model.specs.Keyspace.{Keyspace}
use Rattle.df_order.specs.Shards as order
use Rattle.df_order.specs.Shards.{Kept, Place}
use Rattle.df_log.specs.Parts.{Part}
use Rattle.df_log.specs.Entries.{acts_of}
use Rattle.df_log.specs.declared.entry.Entry.{Entry}
use Rattle.df_core.specs.Calls.{calls}
use Rattle.df_core.specs.History.{part_of}
use Rattle.df_book.specs.Weights.{Each, count}
use Rattle.df_book.specs.Logs.{uses_of}
use Rattle.df_book.specs.Draws.{draws_of, call_at}
use Rattle.df_book.specs.Passes.{Shard}

-- a part with these keys, and nothing staged
abbrev pub loaded : Keyspace → Part
loaded K = record { visible = K; staged = λ n. [] }

-- The invariant of a shard: `first` is what was loaded, `armed` counts the hops of a number that wait here, and x is the
-- shard as the order law sees it.
pub record ShardHolds (shards : ℕ) (first : Keyspace) (armed : ℕ → ℕ) (p : Shard) (x : order.Shard (calls shards)) : Type 0 where
  pub kept : Kept (calls shards) (call_at p.known) p.shard (loaded first) x
  pub log : x.log ≡ acts_of p.log
  -- whoever waits or ran was drawn by what the pass knows
  pub waiting : Each (λ (q : Place). 0 < draws_of q.number p.known) x.queue
  pub known : Each (λ (e : Entry). 0 < draws_of e.number p.known) p.log
  -- each armed hop has a running ticket that no entry used
  pub room : (n : ℕ) → uses_of n p.log + armed n ≤ count n p.counted

-- a shard that handed its pass out: nobody waits, and it began with its keys of K
pub record ShardLeft (shards : ℕ) (K : Keyspace) (p : Shard) : Type 0 where
  pub state : Part
  pub ran : ℕ
  pub kept : Kept (calls shards) (call_at p.known) p.shard (part_of shards K p.shard)
      record { state = state; holders = []; queue = []; ran = ran; log = acts_of p.log }
  pub known : Each (λ (e : Entry). 0 < draws_of e.number p.known) p.log
