-- What a message says, and what its ticket shows: of each of its facts the one side and the other.
use Rattle.std.specs.Prelude.{ℕ, ◌/◌, Bool, true, Option, Some, None, List, [], ◌∷◌}
use Rattle.df_model.specs.declared.command.Call.{Call}
use Rattle.df_model.specs.declared.keys.Keys.{Keys}
use Rattle.df_footprints.specs.Footprints.{commands_of, footprint_of}
use Rattle.df_log.specs.Acts as acts
use Rattle.df_log.specs.Acts.{Act}
use Rattle.df_core.specs.Courses.{are_quick}
use Rattle.df_core.specs.Due.{due}
use Rattle.df_core.specs.Steps.{steps_of}
use Rattle.df_book.specs.Draws.{call_at}
use Rattle.df_book.specs.Passes.{Ticket}
use Rattle.df_end.specs.Logs.{entries_in}
use Rattle.df_hops.specs.Parts.{shards_in, act_of, command_at, hash_for}
use Rattle.df_hops.specs.declared.message.Body.{Body}
use Rattle.df_hops.specs.declared.message.Body.TheVariants.{Schedule, Quick, Hop, Cancel, Conclude, Pull, DropCut}

-- the numbers of the running tickets that a message has
abbrev pub runs_due : ℕ → Body → List ℕ
runs_due n (Schedule keys) = []
runs_due n (Quick hop hash slip) = n ∷ []
runs_due n (Hop hop part) = n ∷ []
runs_due n Cancel = []
runs_due n Conclude = []
runs_due n (Pull hop) = []
runs_due n DropCut = []

-- ---- the call

-- the call that a slip holds
abbrev pub call_said : Body → Option Call
call_said (Schedule keys) = None
call_said (Quick hop hash slip) = Some slip.value.call
call_said (Hop hop part) = None
call_said Cancel = None
call_said Conclude = None
call_said (Pull hop) = None
call_said DropCut = None

-- the call that its ticket drew under this number
abbrev pub call_due : Body → ℕ → Ticket → Option Call
call_due (Schedule keys) n t = None
call_due (Quick hop hash slip) n t = Some (call_at t.known n)
call_due (Hop hop part) n t = None
call_due Cancel n t = None
call_due Conclude n t = None
call_due (Pull hop) n t = None
call_due DropCut n t = None

-- the hash that goes with a slip, and that of the one key of its call
abbrev pub hash_said : Body → ℕ
hash_said (Schedule keys) = 0
hash_said (Quick hop hash slip) = hash
hash_said (Hop hop part) = 0
hash_said Cancel = 0
hash_said Conclude = 0
hash_said (Pull hop) = 0
hash_said DropCut = 0

abbrev pub hash_due : Body → ℕ
hash_due (Schedule keys) = 0
hash_due (Quick hop hash slip) = hash_for hash slip.value.call
hash_due (Hop hop part) = 0
hash_due Cancel = 0
hash_due Conclude = 0
hash_due (Pull hop) = 0
hash_due DropCut = 0

-- ---- the keys

-- the keys that a Schedule asks for
abbrev pub keys_said : Body → Option Keys
keys_said (Schedule keys) = Some keys.value
keys_said (Quick hop hash slip) = None
keys_said (Hop hop part) = None
keys_said Cancel = None
keys_said Conclude = None
keys_said (Pull hop) = None
keys_said DropCut = None

-- the footprint of the call on this shard
abbrev pub keys_due : Body → ℕ → ℕ → Ticket → Option Keys
keys_due (Schedule keys) s n t = footprint_of (shards_in t.book) (call_at t.known n) s
keys_due (Quick hop hash slip) s n t = None
keys_due (Hop hop part) s n t = None
keys_due Cancel s n t = None
keys_due Conclude s n t = None
keys_due (Pull hop) s n t = None
keys_due DropCut s n t = None

-- ---- what is to be done

-- a Quick runs one command of its call, a Hop does its part
abbrev pub act_said : Body → Option Act
act_said (Schedule keys) = None
act_said (Quick hop hash slip) = Some (acts.Run (command_at (commands_of slip.value.call) (hop / 4)))
act_said (Hop hop part) = Some (act_of part)
act_said Cancel = None
act_said Conclude = None
act_said (Pull hop) = None
act_said DropCut = None

-- a Quick's hop is due before any other; a Hop's by what its caller had seen
abbrev pub act_due : Body → ℕ → ℕ → Ticket → Option Act
act_due (Schedule keys) s n t = None
act_due (Quick hop hash slip) s n t = due (shards_in t.book) (call_at t.known n) (λ i. []) s hop
act_due (Hop hop part) s n t =
    due (shards_in t.book) (call_at t.known n) (λ i. steps_of (entries_in (shards_in t.book) t.seen n i)) s hop
act_due Cancel s n t = None
act_due Conclude s n t = None
act_due (Pull hop) s n t = None
act_due DropCut s n t = None

-- a Quick's call has one hop, on one shard
abbrev pub is_fit : Body → Ticket → Bool
is_fit (Schedule keys) t = true
is_fit (Quick hop hash slip) t = are_quick (shards_in t.book) (commands_of slip.value.call)
is_fit (Hop hop part) t = true
is_fit Cancel t = true
is_fit Conclude t = true
is_fit (Pull hop) t = true
is_fit DropCut t = true
