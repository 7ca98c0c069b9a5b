-- What a shard keeps: the scheduler's invariant over the log that its pass shows, and what is armed and staged.
use Rattle.std.specs.Prelude.{◌≡◌, ℕ, ◌+◌, ◌/◌, ◌<◌, ◌≤◌, ◌==◌, Bool, cond, true, Option, Some, None, is_some, List, [], ◌∷◌, map}
use Rattle.std.specs.Option.{option_map}
use Rattle.df_model.specs.Values as plain
use Rattle.df_model.specs.Values.{Bytes}
use Rattle.df_model.specs.Keyspace.{Keyspace}
use Rattle.df_model.specs.declared.command.Command.{Command}
use Rattle.df_model.specs.declared.command.Call.{Call}
use Rattle.df_footprints.specs.Footprints.{commands_of}
use Rattle.df_order.specs.Lists.{Has}
use Rattle.df_order.specs.Shards as order
use Rattle.df_log.specs.Acts as acts
use Rattle.df_log.specs.Acts.{Act, Changes}
use Rattle.df_log.specs.Parts.{Part}
use Rattle.df_log.specs.Entries.{acts_of}
use Rattle.df_log.specs.declared.entry.Entry.{Entry}
use Rattle.df_core.specs.Calls.{calls}
use Rattle.df_core.specs.Due.{due}
use Rattle.df_core.specs.Steps.{steps_of}
use Rattle.df_book.specs.Weights.{Each, total}
use Rattle.df_book.specs.Logs.{at_log, Within}
use Rattle.df_book.specs.Draws.{call_at, draws_of}
use Rattle.df_book.specs.Passes.{Shard}
use Rattle.df_intents.specs.Holders as intents
use Rattle.df_txqueue.specs.Places.{is_queued}
use Rattle.df_txqueue.specs.declared.place.Place.{Place}
use Rattle.df_end.specs.Shards.{ShardHolds}
use Rattle.df_end.specs.Logs.{entries_in}
use Rattle.df_values.specs.Seen.{seen}
use Rattle.df_hops.specs.Parts.{act_of, command_at}
use Rattle.df_shard.specs.Owns.{OwnPart}
use Rattle.df_shard.specs.declared.waiting.Armed.{Armed}
use Rattle.df_shard.specs.declared.waiting.Armed.TheVariants.{Nothing, Quick, Hop}
use Rattle.df_shard.specs.declared.waiting.Waiting.{Waiting}
use Rattle.df_values.specs.declared.value.Value as values

-- ---- what is seen of a shard

-- the command of a call that its hop is of, and that it runs it
abbrev pub call_command : Call → ℕ → Command
call_command call hop = command_at (commands_of call) (hop / 4)

abbrev pub call_act : Call → ℕ → Act
call_act call hop = acts.Run (call_command call hop)

-- a hop that waits for its turn: what it will do, and the call that its slip holds, if it has one
pub record Hopping : Type 0 where
  pub hop : ℕ
  pub act : Act
  pub call : Option Call

-- A call that waits. Each of its hops that ran here is below `above`; a hop of it may be armed, and changes staged.
pub record Wait : Type 0 where
  pub number : ℕ
  pub conn : ℕ
  pub above : ℕ
  pub armed : Option Hopping
  pub staged : Changes

abbrev pub hopping : Armed → Option Hopping
hopping Nothing = None
hopping (Quick hop slip) = Some record { hop = hop; act = call_act slip.value.call hop; call = Some slip.value.call }
hopping (Hop hop part) = Some record { hop = hop; act = act_of part; call = None }

-- changes as they stand in a log
abbrev pub changes_seen : List (Bytes × Option values.Value) → Changes
changes_seen = map (λ c. (c.0, option_map seen c.1))

abbrev pub wait_of : Waiting → Wait
wait_of w = record { number = w.number; conn = w.conn; above = w.above; armed = hopping w.armed; staged = changes_seen w.staged.items }

pub record View : Type 0 where
  pub index : ℕ
  pub shards : ℕ
  -- the greatest number that ran
  pub ran : ℕ
  pub holders : List intents.Holder
  pub places : List Place
  pub waiting : List Wait
  pub keys : Keyspace
  -- for how many keys that are staged there is room
  pub kept : ℕ
  -- what was loaded
  pub first : Keyspace
  pub pass : Shard

-- ---- the calls that wait, by their numbers

abbrev pub wait_at : ℕ → List Wait → Option Wait
wait_at n [] = None
wait_at n (w ∷ ws) = cond (w.number == n) (Some w) (wait_at n ws)

abbrev pub armed_of : Option Wait → Option Hopping
armed_of None = None
armed_of (Some w) = w.armed

abbrev pub staged_of : Option Wait → Changes
staged_of None = []
staged_of (Some w) = w.staged

-- the hop that is armed of the number, and what is staged for it
abbrev pub armed_at : ℕ → List Wait → Option Hopping
armed_at n ws = armed_of (wait_at n ws)

abbrev pub staged_at : ℕ → List Wait → Changes
staged_at n ws = staged_of (wait_at n ws)

abbrev pub staged_in : List Wait → ℕ → Changes
staged_in ws n = staged_at n ws

abbrev pub is_armed : Option Hopping → ℕ
is_armed None = 0
is_armed (Some hop) = 1

-- how many hops of the number are armed
abbrev pub armed_in : List Wait → ℕ → ℕ
armed_in ws n = is_armed (armed_at n ws)

-- no number stands here twice
abbrev pub Once : List Wait → Type 0
Once [] = Unit {0}
Once (w ∷ ws) = (wait_at w.number ws ≡ None) × Once ws

-- ---- the shard of the order law

abbrev pub holder_of : (shards : ℕ) → intents.Holder → order.Holder (calls shards)
holder_of shards h = record { number = h.number; keys = h.keys }

abbrev pub place_of : Place → order.Place
place_of p = record { number = p.number; granted = p.granted }

-- the greatest number that waits, or 0
abbrev pub tail_of : List Place → ℕ
tail_of places = order.tail (map place_of places)

-- a place as it is given
abbrev pub place_for : ℕ → Bool → Place
place_for n granted = record { number = n; granted = granted; slot = 0 }

-- what is seen of its keys, and what is staged
abbrev pub part_in : View → Part
part_in x = record { visible = x.keys; staged = staged_in x.waiting }

abbrev pub world_of : (x : View) → order.Shard (calls x.shards)
world_of x = record {
  state = part_in x;
  holders = map (holder_of x.shards) x.holders;
  queue = map place_of x.places;
  ran = x.ran;
  log = acts_of x.pass.log;
}

-- ---- what is armed

-- What is to be done was due, on this shard by what its pass knows: of a Quick before anything else of its call, which its
-- slip holds, and of a Hop by what its caller had seen.
abbrev pub WasDue : ℕ → ℕ → Shard → ℕ → ℕ → Act → Option Call → Type 0
WasDue shards index p n hop act None =
    (saw : List (List Entry)) × Within saw p.seen
    × (due shards (call_at p.known n) (λ i. steps_of (entries_in shards saw n i)) index hop ≡ Some act)
WasDue shards index p n hop act (Some c) = (c ≡ call_at p.known n) × (due shards c (λ i. []) index hop ≡ Some act)

-- an armed hop was due, and is above the hops of its call that ran here
abbrev pub IsArmed : ℕ → ℕ → Shard → ℕ → ℕ → Option Hopping → Type 0
IsArmed shards index p n above None = Unit {0}
IsArmed shards index p n above (Some a) = (above ≤ a.hop) × WasDue shards index p n a.hop a.act a.call

-- a Quick that waits has staged nothing
abbrev pub BareFor : Option Call → Changes → Type 0
BareFor None staged = Unit {0}
BareFor (Some c) staged = staged ≡ []

abbrev pub IsBare : Option Hopping → Changes → Type 0
IsBare None staged = Unit {0}
IsBare (Some a) staged = BareFor a.call staged

-- a call that waits has its place in the queue and was drawn, and what is armed of it is due
pub record Waits (shards index : ℕ) (places : List Place) (p : Shard) (w : Wait) : Type 0 where
  pub queued : is_queued w.number places ≡ true
  pub known : 0 < draws_of w.number p.known
  pub below : (e : Entry) → Has (acts_of p.log) e → e.number ≡ w.number → e.hop < w.above
  pub armed : IsArmed shards index p w.number w.above w.armed
  pub bare : IsBare w.armed w.staged

-- ---- the room for what is staged

abbrev pub puts_in : Changes → ℕ
puts_in changes = total (λ (c : Bytes × Option plain.Value). cond (is_some c.1) 1 0) changes

abbrev pub puts_staged : List Wait → ℕ
puts_staged ws = total (λ (w : Wait). puts_in w.staged) ws

-- ---- the invariant

pub record Holds (x : View) : Type 0 where
  -- it is a shard of the book of its pass
  pub some : x.index < x.shards
  pub index : x.pass.shard ≡ x.index
  pub book : x.pass.book.words ≡ x.shards + 2
  pub own : at_log x.pass.seen x.pass.shard ≡ x.pass.log
  pub holds : ShardHolds x.shards x.first (armed_in x.waiting) x.pass (world_of x)
  pub once : Once x.waiting
  pub waits : Each (Waits x.shards x.index x.places x.pass) x.waiting
  -- there is room for every key that is staged
  pub room : puts_staged x.waiting ≤ x.kept
  -- it has no keys of other shards
  pub mine : OwnPart x.shards x.index (part_in x)
