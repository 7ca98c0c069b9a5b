-- What a shard keeps, step by step: the order law's steps and the book's calls together.
use Rattle.std.specs.Prelude.{◌≡◌, ◌≢◌, ◌⊎◌, ℕ, ◌+◌, ◌<◌, ◌≤◌, true, false, Some, List}
use Rattle.df_model.specs.Keyspace.{Keyspace}
use Rattle.df_model.specs.declared.keys.Keys.{Keys}
use Rattle.df_footprints.specs.Footprints.{footprint_of}
use Rattle.df_order.specs.Lists.{Has}
use Rattle.df_order.specs.Model.{own}
use Rattle.df_order.specs.Shards as order
use Rattle.df_order.specs.Shards.{Kept, Place, tail, is_free, enqueue, leave, enter, MayRun}
use Rattle.df_log.specs.Entries.{is_note, acts_of}
use Rattle.df_log.specs.declared.entry.Entry.{Entry}
use Rattle.df_core.specs.Calls.{calls}
use Rattle.df_core.specs.Belongs.{Tells, Good}
use Rattle.df_book.specs.Weights.{count}
use Rattle.df_book.specs.Logs.{uses, use_of, HasRoom, IsFresh}
use Rattle.df_book.specs.Draws.{draws_of, call_at}
use Rattle.df_book.specs.Passes.{Shard, Ticket, after_ticket, after_entry}
use Rattle.df_end.specs.Shards.{ShardHolds}

-- ---- who waits

-- a ticket changes nothing but what is known and counted; a running ticket is the right to arm one hop more
abbrev pub ShardsTakeTickets : Type 0
ShardsTakeTickets =
    (shards : ℕ) (first : Keyspace) (armed armed' : ℕ → ℕ) (p : Shard) (x : order.Shard (calls shards)) (t : Ticket)
    (seen : List (List Entry)) → ShardHolds shards first armed p x → ((n : ℕ) → armed' n ≤ armed n + count n t.runs) →
    ShardHolds shards first armed' (after_ticket p t seen) x

-- a call that was drawn may wait, if it is above all that ran, and free or above all that wait
abbrev pub ShardsLetWait : Type 0
ShardsLetWait =
    (shards : ℕ) (first : Keyspace) (armed : ℕ → ℕ) (p : Shard) (x : order.Shard (calls shards)) (n : ℕ) (keys : Keys) →
    0 < shards → ShardHolds shards first armed p x → 0 < draws_of n p.known →
    footprint_of shards (call_at p.known n) p.shard ≡ Some keys → ((q : Place) → Has x.queue q → q.number ≢ n) →
    x.ran < n → (is_free (calls shards) keys x.holders ≡ true) ⊎ (tail x.queue ≤ n) →
    ShardHolds shards first armed p (enqueue (calls shards) n keys x)

-- a call may leave at any time, and an armed hop be given up
abbrev pub ShardsLetGo : Type 0
ShardsLetGo =
    (shards : ℕ) (first : Keyspace) (armed armed' : ℕ → ℕ) (p : Shard) (x : order.Shard (calls shards)) (n : ℕ) →
    ShardHolds shards first armed p x → ((m : ℕ) → armed' m ≤ armed m) →
    ShardHolds shards first armed' p (leave (calls shards) n x)

-- ---- what the book asks of an entry

-- an armed hop has room in the log
abbrev pub ArmedHasRoom : Type 0
ArmedHasRoom =
    (shards : ℕ) (first : Keyspace) (armed : ℕ → ℕ) (p : Shard) (x : order.Shard (calls shards)) (e : Entry) →
    ShardHolds shards first armed p x → uses e.act ≤ armed e.number → HasRoom p.log p.counted e

-- a hop above the others of its number is new, whatever notes stand there
abbrev pub HopsAreFresh : Type 0
HopsAreFresh =
    (log : List Entry) (e : Entry) → is_note e.act ≡ false →
    ((f : Entry) → Has (acts_of log) f → f.number ≡ e.number → f.hop < e.hop) → IsFresh log e

-- ---- what is entered

-- the next hop of a waiting call runs in its turn, and was told what it gives
abbrev pub ShardsRunInTurn : Type 0
ShardsRunInTurn =
    (shards : ℕ) (first : Keyspace) (armed armed' : ℕ → ℕ) (p : Shard) (x : order.Shard (calls shards)) (e : Entry) →
    0 < shards → ShardHolds shards first armed p x → is_note e.act ≡ false → MayRun x.queue e.number →
    Tells shards p.shard (call_at p.known e.number) e x.state →
    ((f : Entry) → Has (own (calls shards) e.number x.log) f → f.hop < e.hop) →
    ((n : ℕ) → armed' n + use_of n e ≤ armed n) →
    ShardHolds shards first armed' (after_entry p e) (enter (calls shards) e x)

-- a call above all that ran, whose keys are free, runs at once
abbrev pub ShardsRunAtOnce : Type 0
ShardsRunAtOnce =
    (shards : ℕ) (first : Keyspace) (armed armed' : ℕ → ℕ) (p : Shard) (x : order.Shard (calls shards)) (e : Entry)
    (keys : Keys) → 0 < shards → ShardHolds shards first armed p x → is_note e.act ≡ false →
    0 < draws_of e.number p.known → footprint_of shards (call_at p.known e.number) p.shard ≡ Some keys →
    is_free (calls shards) keys x.holders ≡ true → x.ran < e.number →
    Tells shards p.shard (call_at p.known e.number) e x.state → ((n : ℕ) → armed' n + use_of n e ≤ armed n) →
    ShardHolds shards first armed' (after_entry p e) (enter (calls shards) e x)

-- a note leaves the shard of the order law as it is
abbrev pub ShardsNote : Type 0
ShardsNote =
    (shards : ℕ) (first : Keyspace) (armed armed' : ℕ → ℕ) (p : Shard) (x : order.Shard (calls shards)) (e : Entry) →
    ShardHolds shards first armed p x → is_note e.act ≡ true → 0 < draws_of e.number p.known →
    ((n : ℕ) → armed' n + use_of n e ≤ armed n) → ShardHolds shards first armed' (after_entry p e) x

-- at any time, what is staged for a number is its call's to write
abbrev pub StagedStaysOwn : Type 0
StagedStaysOwn =
    (shards : ℕ) (first : Keyspace) (armed : ℕ → ℕ) (p : Shard) (x : order.Shard (calls shards)) (n : ℕ) → 0 < shards →
    ShardHolds shards first armed p x → Good shards p.shard (call_at p.known n) n x.state
