-- The laws of the end.
use Rattle.std.specs.Prelude.{◌≡◌, ℕ, ◌<◌, List, [], ◌∷◌, ◌++◌}
use Rattle.df_model.specs.Keyspace.{Keyspace}
use Rattle.df_model.specs.History.{Item, each_call}
use Rattle.df_order.specs.Shards as order
use Rattle.df_log.specs.Parts.{own_keys}
use Rattle.df_log.specs.declared.entry.Entry.{Entry}
use Rattle.df_core.specs.Calls.{calls}
use Rattle.df_core.specs.History.{NamesAShard}
use Rattle.df_book.specs.Weights.{count}
use Rattle.df_book.specs.Logs.{Within, BothSeen}
use Rattle.df_book.specs.Draws.{Bounded, draws_of}
use Rattle.df_book.specs.Passes.{BookName, Caller, Shard, joined, first_pass, after_split, split_off, new_shard}
use Rattle.df_book.specs.Closed.{Closed}
use Rattle.df_end.specs.Calls.{Row, CallLeft}
use Rattle.df_end.specs.Shards.{ShardHolds, ShardLeft, loaded}
use Rattle.df_model.specs.Spoken.{Session}
use Rattle.df_end.specs.Sessions.{Gone, SessionHolds, SessionLeft, Lobby, sessions_in}
use Rattle.df_end.specs.Ended.{RunLeft}
use Rattle.df_end.specs.Promise.{ListPromise, Promise, by_place, IsNumbered}

-- what is left at the end of a run keeps the promise
abbrev pub EndsKeepThePromise : Type 0
EndsKeepThePromise =
    (shards : ℕ) (K : Keyspace) (c : Closed) (first : Caller) (gone : List Gone) (passes : List Shard) →
    RunLeft shards K c first gone passes → Promise shards K c (sessions_in gone)

-- where one session is all, its list may be numbered by place
abbrev pub OneSessionIsNumbered : Type 0
OneSessionIsNumbered =
    (shards : ℕ) (K : Keyspace) (items : List Item) (w : Session) → w.id ≡ 0 →
    ListPromise K (NamesAShard shards) items (w ∷ []) → ListPromise K each_call (by_place 0 items) (w ∷ []) × IsNumbered 0 (by_place 0 items)

-- a call that ended stays so, while its caller sees more and makes no further ticket of its number
abbrev pub CallsStay : Type 0
CallsStay =
    (shards : ℕ) (v u : Caller) (r : Row) → CallLeft shards v r → Within v.seen u.seen → Bounded u.own u.made u.seen →
    0 < draws_of r.draw.number u.own → count r.draw.number u.made ≡ count r.draw.number v.made → CallLeft shards u r

-- ---- beginnings

abbrev pub LobbiesBegin : Type 0
LobbiesBegin = (shards : ℕ) (z : BookName) (draws : ℕ) → Lobby shards (first_pass z draws) []

-- a pass is split off for a session
abbrev pub SessionsBegin : Type 0
SessionsBegin =
    (shards : ℕ) (first : Caller) (gone : List Gone) (draws : ℕ) → Lobby shards first gone →
    Lobby shards (after_split first draws) gone × SessionHolds shards first.splits (split_off first draws) []

abbrev pub ShardsBegin : Type 0
ShardsBegin =
    (shards s : ℕ) (K : Keyspace) (z : BookName) →
    ShardHolds shards K (λ n. 0) (new_shard z s) (order.empty (calls shards) (loaded K))

-- ---- ends

-- the lobby takes a session in, by the book's join
abbrev pub LobbyTakesIn : Type 0
LobbyTakesIn =
    (shards : ℕ) (first : Caller) (gone : List Gone) (g : Gone) (seen : List (List Entry)) → Lobby shards first gone →
    SessionLeft shards g → BothSeen first.seen g.pass.seen seen →
    Lobby shards (joined first g.pass seen) (gone ++ g ∷ [])

-- a shard where nobody waits, and that began with its keys of K, may hand its pass out
abbrev pub ShardsEnd : Type 0
ShardsEnd =
    (shards : ℕ) (K first : Keyspace) (armed : ℕ → ℕ) (p : Shard) (x : order.Shard (calls shards)) →
    ShardHolds shards first armed p x → x.queue ≡ [] → first ≡ own_keys shards p.shard K → ShardLeft shards K p
