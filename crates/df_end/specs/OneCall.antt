-- A run of one call: FLUSHALL on one shard.
use Rattle.std.specs.Prelude.{◌≡◌, ℕ, Some, List, [], ◌∷◌}
use Rattle.df_model.specs.Keyspace.{no_keys}
use Rattle.df_model.specs.Outcomes.{ok}
use Rattle.df_model.specs.History.{Item}
use Rattle.df_model.specs.declared.command.WholeOp.TheVariants as wholes
use Rattle.df_model.specs.declared.command.Command.TheVariants.{Whole}
use Rattle.df_model.specs.declared.command.Call.{Call}
use Rattle.df_model.specs.declared.command.Call.TheVariants.{Single}
use Rattle.df_order.specs.Shards as order
use Rattle.df_log.specs.Acts.{Run, Ran}
use Rattle.df_log.specs.declared.entry.Entry.{Entry}
use Rattle.df_core.specs.Calls.{calls}
use Rattle.df_book.specs.Passes.{Caller, Shard, draw_by}
use Rattle.df_end.specs.Calls.{Row}
use Rattle.df_end.specs.Shards.{ShardHolds}
use Rattle.df_model.specs.Spoken.{Session, Spoke}
use Rattle.df_end.specs.Sessions.{Lobby}

abbrev pub flushall : Call
flushall = Single (Whole wholes.Flushall)

abbrev pub flushed : ℕ → Entry
flushed n = record { number = n; hop = 0; act = Run (Whole wholes.Flushall); told = Ran ok }

abbrev pub flush_row : Caller → ℕ → Row
flush_row v n = record { draw = draw_by v flushall n; reply = Some ok }

-- a shard that began empty, where nobody waits
pub record Idle (p : Shard) : Type 0 where
  pub x : order.Shard (calls 1)
  pub holds : ShardHolds 1 no_keys (λ n. 0) p x
  pub none : x.queue ≡ []

-- what this session wrote is the output of one item of this call
pub record SpeaksOfOne (w : Session) : Type 0 where
  pub id : w.id ≡ 0
  pub spoke : (i : Item) → i.call ≡ flushall → i.reply ≡ ok → Spoke w (i ∷ [])

-- the session is all that was joined into the first pass
pub record Visited (w : Session) (first : Caller) : Type 0 where
  pub pass : Caller
  pub rows : List Row
  pub lobby : Lobby 1 first (record { session = w; pass = pass; rows = rows } ∷ [])
