-- What came of a call that a desk ran.
use Rattle.std.specs.Prelude.{◌≡◌, Bool, List}
use Rattle.df_model.specs.Values.{Bytes}
use Rattle.df_model.specs.Keyspace.{Keyspace}
use Rattle.df_model.specs.Calls.{Allowed}
use Rattle.df_model.specs.Replies.{encoding_of}
use Rattle.df_model.specs.declared.command.Call.{Call}
use Rattle.df_caller.specs.Told.{Told}
use Rattle.df_desk.specs.declared.place.Outcome.{Outcome}
use Rattle.df_desk.specs.declared.place.Outcome.TheVariants as outcomes
use Rattle.df_desk.specs.declared.place.Place.{Place}
use Rattle.df_desk.specs.declared.place.Place.TheVariants as places

-- this call ran, and its reply and the keyspace that it left are an outcome of it
pub record HasGiven (ran : Told) (call : Call) (K after : Keyspace) : Type 0 where
  pub calls : ran.call ≡ call
  pub marks : List Bool
  pub allowed : Allowed ran.call marks K ran.reply after

-- it ran and its reply is these bytes, or it ran and its reply found no memory, or it found none and nothing changed
abbrev pub CameTo : Outcome → Call → Keyspace → Keyspace → Bytes → Type 0
CameTo (outcomes.Ran ran) call K after reply = HasGiven ran call K after × (reply ≡ encoding_of ran.reply)
CameTo (outcomes.Unsaid ran) call K after reply = HasGiven ran call K after
CameTo outcomes.NoMemory call K after reply = after ≡ K

-- the same of a place, whose slip has the reply
abbrev pub HasRun : Place → Call → Keyspace → Keyspace → Type 0
HasRun places.Empty call K after = ⊥
HasRun (places.Waits slip) call K after = ⊥
HasRun (places.Ran slip ran) call K after = HasGiven ran call K after × (slip.value.reply ≡ encoding_of ran.reply)
HasRun (places.Unsaid slip ran) call K after = HasGiven ran call K after
HasRun (places.NoMemory slip none) call K after = (none.value ≡ call) × (after ≡ K)

-- and where no call waited, nothing changed
abbrev pub HasServed : Place → Place → Keyspace → Keyspace → Type 0
HasServed result places.Empty K after = (result ≡ places.Empty) × (after ≡ K)
HasServed result (places.Waits slip) K after = HasRun result slip.value.call K after
HasServed result (places.Ran slip ran) K after = (result ≡ places.Ran slip ran) × (after ≡ K)
HasServed result (places.Unsaid slip ran) K after = (result ≡ places.Unsaid slip ran) × (after ≡ K)
HasServed result (places.NoMemory slip call) K after = (result ≡ places.NoMemory slip call) × (after ≡ K)
