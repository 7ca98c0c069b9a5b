-- The calls of clients on shards, as the order law sees calls.
use Rattle.std.specs.Prelude.{◌≡◌, ℕ, Bool, true, List, []}
use Rattle.df_model.specs.Keyspace.{Keyspace}
use Rattle.df_model.specs.Calls.{Allowed}
use Rattle.df_model.specs.declared.command.Call.{Call}
use Rattle.df_model.specs.declared.keys.Keys.{Keys}
use Rattle.df_model.specs.declared.reply.Reply.{Reply}
use Rattle.df_footprints.specs.Asks.{conflicts}
use Rattle.df_footprints.specs.Footprints.{commands_of, footprint_of}
use Rattle.df_order.specs.Model.{Model}
use Rattle.df_log.specs.Acts.{Changes}
use Rattle.df_log.specs.Parts.{Part, effect, IsTold}
use Rattle.df_log.specs.declared.entry.Entry.{Entry}
use Rattle.df_core.specs.Courses.{are_quick}
use Rattle.df_core.specs.Steps.{steps_of}
use Rattle.df_core.specs.Due.{IsNext}
use Rattle.df_core.specs.Done.{Gives, marks_of}
use Rattle.df_core.specs.Belongs.{Tells, Good}
use Rattle.df_core.specs.Joined.{joined}

-- the entry is the call's next one on the shard, after the entries that it has on each shard
pub record ComesNext (shards : ℕ) (call : Call) (entries : ℕ → List Entry) (s : ℕ) (e : Entry) : Type 0 where
  pub due : IsNext shards call entries s e
  -- it is an answer that such an act may have
  pub answer : (K : Keyspace) × IsTold shards s K e.act e.told
  -- the one hop of a call comes first
  pub first : are_quick shards (commands_of call) ≡ true → (t : ℕ) → entries t ≡ []

abbrev pub calls : ℕ → Model
calls shards = record {
  Call = Call;
  Keys = Keys;
  Entry = Entry;
  State = Part;
  shards = shards;
  number = λ e. e.number;
  hop = λ e. e.hop;
  footprint = footprint_of shards;
  meets = conflicts;
  effect = effect;
  Tells = Tells shards;
  Good = Good shards;
  Next = ComesNext shards;
  quick = λ call. are_quick shards (commands_of call);
  Slot = Changes;
  slot = λ n x. x.staged n;
  bare = [];
  Reply = Reply;
  Space = Keyspace;
  joined = joined shards;
  Gives = λ call es reply. Gives shards call (λ s. steps_of (es s)) reply;
  Marks = List Bool;
  marks = λ call es. marks_of shards call (λ s. steps_of (es s));
  Allowed = λ call marks reply K after. Allowed call marks K reply after;
}
