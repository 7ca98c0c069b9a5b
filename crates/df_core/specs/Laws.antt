-- The laws of calls on shards.
use Rattle.std.specs.Prelude.{◌≡◌, ℕ, pred, ◌<◌, ◌≤◌, Bool, Some, List, map}
use Rattle.df_model.specs.Keyspace.{Keyspace}
use Rattle.df_model.specs.History.{Leads, IsLegal, IsOrdered}
use Rattle.df_model.specs.declared.command.WholeOp.TheVariants as wholes
use Rattle.df_model.specs.declared.command.Command.TheVariants.{Whole}
use Rattle.df_model.specs.declared.command.Call.{Call}
use Rattle.df_model.specs.declared.command.Call.TheVariants.{Single}
use Rattle.df_model.specs.declared.reply.Reply.{Reply}
use Rattle.df_order.specs.Lists.{Has}
use Rattle.df_order.specs.Model.{Laws}
use Rattle.df_order.specs.Histories as order
use Rattle.df_world.specs.World.{World, first}
use Rattle.df_world.specs.Events.{Event, Happens, after, Runs}
use Rattle.df_world.specs.TheList.{Finds, the_list}
use Rattle.df_world.specs.Invariant.{Invariant}
use Rattle.df_log.specs.Acts.{Changes, Act, Stage, Cut}
use Rattle.df_log.specs.Parts.{Part, own_keys}
use Rattle.df_log.specs.declared.entry.Entry.{Entry}
use Rattle.df_core.specs.Steps.{Step}
use Rattle.df_core.specs.Due.{due}
use Rattle.df_core.specs.OneDue.{Comparable}
use Rattle.df_core.specs.Done.{Gives}
use Rattle.df_core.specs.Joined.{joined}
use Rattle.df_core.specs.Calls.{calls}
use Rattle.df_core.specs.History.{Draw, idle, part_of, with_draw, history_of, NamesAShard}

-- the calls of clients keep what the order law asks of calls, on any number of shards
abbrev pub CallsKeepTheLaws : Type 0
CallsKeepTheLaws = (shards : ℕ) → 0 < shards → Laws (calls shards)

-- ---- logs alone

-- logs in order, told what they give, with all hops of each call that has one: their history is one thread's
abbrev pub LogsAreOneHistory : Type 0
LogsAreOneHistory =
    (shards : ℕ) → 0 < shards → (draws : ℕ → Draw) (count : ℕ) (start : ℕ → Part) (logs : ℕ → List Entry) (replies : ℕ → Reply) →
    order.Recorded (calls shards) (λ n. (draws n).call) count start logs replies →
    IsLegal (joined shards start) (history_of shards draws logs replies count)

-- the cuts of a save that was executed are together the keyspace that the items below its number leave
pub record SaveStands (shards : ℕ) (draws : ℕ → Draw) (start : ℕ → Part) (logs : ℕ → List Entry) (replies : ℕ → Reply) (n : ℕ) : Type 0 where
  pub keyspace : Keyspace
  pub reached : Leads (joined shards start) (history_of shards draws logs replies (pred n)) keyspace
  pub cuts : (s : ℕ) (e : Entry) → s < shards → Has (logs s) e → e.number ≡ n → e.told ≡ Cut (own_keys shards s keyspace)

abbrev pub SavesStandInTheHistory : Type 0
SavesStandInTheHistory =
    (shards : ℕ) → 0 < shards → (draws : ℕ → Draw) (count : ℕ) (start : ℕ → Part) (logs : ℕ → List Entry) (replies : ℕ → Reply) →
    order.Recorded (calls shards) (λ n. (draws n).call) count start logs replies →
    (n : ℕ) → 0 < n → n ≤ count → (draws n).call ≡ Single (Whole wholes.Save) → SaveStands shards draws start logs replies n

-- ---- worlds

-- who drew each number of a world
abbrev pub draws_of : (shards : ℕ) → World (calls shards) → ℕ → Draw
draws_of shards w n = record { session = w.caller n; call = w.call n; floor = w.floor n }

-- whatever happened in whatever order, the finished calls are one thread's, in the order of their numbers
abbrev pub RunsAreOneHistory : Type 0
RunsAreOneHistory =
    (shards : ℕ) → 0 < shards → (K : Keyspace) (events : List (Event (calls shards))) (w : World (calls shards)) →
    Runs (calls shards) (first (calls shards) idle (part_of shards K)) events w →
    (finished : ℕ → Bool) (replies : ℕ → Reply) → Finds (calls shards) w finished replies →
    IsLegal K (map (with_draw shards (draws_of shards w)) (the_list (calls shards) w finished replies))

-- and a caller's later calls are above its earlier ones and all that it had seen
abbrev pub RunsAreInOrder : Type 0
RunsAreInOrder =
    (shards : ℕ) → 0 < shards → (K : Keyspace) (events : List (Event (calls shards))) (w : World (calls shards)) →
    Runs (calls shards) (first (calls shards) idle (part_of shards K)) events w →
    (finished : ℕ → Bool) (replies : ℕ → Reply) → Finds (calls shards) w finished replies →
    IsOrdered (NamesAShard shards) (map (with_draw shards (draws_of shards w)) (the_list (calls shards) w finished replies))

-- every event that may happen keeps the scheduler invariant on every shard
abbrev pub EventsKeepTheInvariant : Type 0
EventsKeepTheInvariant =
    (shards : ℕ) → 0 < shards → (K : Keyspace) (events : List (Event (calls shards))) (w : World (calls shards)) (e : Event (calls shards)) →
    Runs (calls shards) (first (calls shards) idle (part_of shards K)) events w → Happens (calls shards) w e →
    (s : ℕ) → Invariant (calls shards) (after (calls shards) w e) (part_of shards K) s

-- a call whose hops all ran has no hop that is due, but for the stages of a command that ended behind its reads
abbrev pub CompleteCallsRest : Type 0
CompleteCallsRest =
    (shards : ℕ) (call : Call) (steps : ℕ → List Step) (reply : Reply) (s hop : ℕ) (act : Act) → 0 < shards →
    Gives shards call steps reply → due shards call steps s hop ≡ Some act → (changes : Changes) × (act ≡ Stage changes)

-- What is due as a hop is one act, by however many of the call's steps on each shard were seen.
abbrev pub DueIsOne : Type 0
DueIsOne =
    (shards : ℕ) (call : Call) (xs ys : ℕ → List Step) (s hop : ℕ) (a b : Act) → ((t : ℕ) → Comparable (xs t) (ys t)) →
    due shards call xs s hop ≡ Some a → due shards call ys s hop ≡ Some b → a ≡ b
