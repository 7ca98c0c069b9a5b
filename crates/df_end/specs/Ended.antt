-- All that is left at the end of a run.
use Rattle.std.specs.Prelude.{◌≡◌, ℕ, ◌<◌, ◌≤◌, List}
use Rattle.df_model.specs.Keyspace.{Keyspace}
use Rattle.df_order.specs.Lists.{Has}
use Rattle.df_book.specs.Weights.{Each, count}
use Rattle.df_book.specs.Logs.{at_log, Within}
use Rattle.df_book.specs.Draws.{IsDraw}
use Rattle.df_book.specs.Passes.{Caller, Shard}
use Rattle.df_book.specs.Closed.{Closed, Settled}
use Rattle.df_end.specs.Shards.{ShardLeft}
use Rattle.df_end.specs.Sessions.{Gone, Lobby}

-- each shard's pass is among these, with what it hands out
abbrev pub PartsLeft : ℕ → Keyspace → List Shard → Type 0
PartsLeft shards K passes = (s : ℕ) → s < shards → (p : Shard) × Has passes p × (p.shard ≡ s) × ShardLeft shards K p

-- a run that ended: what its parts kept, and what the book tells where it is closed
pub record RunLeft (shards : ℕ) (K : Keyspace) (c : Closed) (first : Caller) (gone : List Gone) (passes : List Shard) : Type 0 where
  pub some : 0 < shards
  -- what the lobby and the shards keep
  pub lobby : Lobby shards first gone
  pub parts : PartsLeft shards K passes
  -- what the close tells
  pub draws : (c.draws ≡ first.own) × (c.made ≡ first.made)
  pub seen : Within first.seen c.logs
  pub whole : Each (λ (p : Shard). at_log c.logs p.shard ≡ p.log) passes
  pub known : Each (λ (p : Shard). Each (IsDraw c.draws) p.known) passes
  pub settled : Settled c
  -- no place was split off twice
  pub once : (i : ℕ) → count i first.sessions ≤ 1
