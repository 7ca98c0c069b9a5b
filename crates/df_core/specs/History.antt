-- The one history of calls on shards: an item for each number that was executed, in the order of the numbers.
use Rattle.std.specs.Prelude.{◌≢◌, ℕ, List, [], map, None}
use Rattle.df_model.specs.Keyspace.{Keyspace}
use Rattle.df_model.specs.History.{Item}
use Rattle.df_model.specs.Spared.{all_of}
use Rattle.df_model.specs.declared.command.Call.{Call}
use Rattle.df_model.specs.declared.command.Call.TheVariants.{Exec}
use Rattle.df_model.specs.declared.reply.Reply.{Reply}
use Rattle.df_footprints.specs.Footprints.{footprint_of}
use Rattle.df_order.specs.Histories as order
use Rattle.df_log.specs.Parts.{Part, own_keys}
use Rattle.df_log.specs.declared.entry.Entry.{Entry}
use Rattle.df_core.specs.Calls.{calls}

-- what was drawn with a number: by which session, for which call, and the greatest number that the session had seen
pub record Draw : Type 0 where
  pub session : ℕ
  pub call : Call
  pub floor : ℕ

-- the call of a number that wasn't drawn: it names no shard, and does nothing
abbrev pub idle : Call
idle = Exec (all_of [])

-- a keyspace split over its shards, with nothing staged
abbrev pub part_of : ℕ → Keyspace → ℕ → Part
part_of shards K s = record { visible = own_keys shards s K; staged = λ n. [] }

-- an item of the order law with its session and floor
abbrev pub with_draw : (shards : ℕ) → (ℕ → Draw) → order.Item (calls shards) → Item
with_draw shards draws i = record {
  session = (draws i.number).session;
  number = i.number;
  call = i.call;
  marks = i.marks;
  floor = (draws i.number).floor;
  reply = i.reply;
}

-- the items of the numbers from 1 to count that were executed, as the logs tell
abbrev pub history_of : ℕ → (ℕ → Draw) → (ℕ → List Entry) → (ℕ → Reply) → ℕ → List Item
history_of shards draws logs replies count =
    map (with_draw shards draws) (order.items (calls shards) (λ n. (draws n).call) logs replies 1 count)

-- the call names a shard, so it has entries once it was executed: sessions see their own such calls
abbrev pub NamesAShard : ℕ → Call → Type 0
NamesAShard shards call = (s : ℕ) × (footprint_of shards call s ≢ None)
