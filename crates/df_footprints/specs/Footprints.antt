-- The footprint of a call: what it asks for on each shard.
use Rattle.std.specs.Prelude.{◌≡◌, ℕ, ◌<◌, ◌==◌, Bool, false, ◌||◌, cond, nat_lt, is_some, Option, Some, None, List, [], ◌∷◌, ◌++◌}
use Rattle.std.specs.Ordering.{nat_cmp}
use Rattle.std.specs.Cmp.Lexicographic.{slice_cmp}
use Rattle.std.specs.FinMap.{FinMap}
use Rattle.std.specs.FinMap as fin
use Rattle.df_model.specs.Values.{Bytes}
use Rattle.df_model.specs.Access.{Access, on_key}
use Rattle.df_model.specs.Meaning.{one, many}
use Rattle.df_model.specs.Hash.{shard_of}
use Rattle.df_model.specs.Spared.{all_of}
use Rattle.df_model.specs.declared.command.WholeOp.{WholeOp}
use Rattle.df_model.specs.declared.command.WholeOp.TheVariants as wholes
use Rattle.df_model.specs.declared.command.Command.{Command}
use Rattle.df_model.specs.declared.command.Command.TheVariants.{Plain, One, Many, Whole, Wrong}
use Rattle.df_model.specs.declared.command.Call.{Call}
use Rattle.df_model.specs.declared.command.Call.TheVariants.{Single, Exec}
use Rattle.df_model.specs.declared.keys.Mode.{Mode}
use Rattle.df_model.specs.declared.keys.Mode.TheVariants.{Shared, Exclusive}
use Rattle.df_model.specs.declared.keys.Keys.{Keys}
use Rattle.df_model.specs.declared.keys.Keys.TheVariants as kinds

-- ---- the keys of a command

-- what a command does to the keys that it names, if it names keys
abbrev pub access_of : Command → Option Access
access_of (Plain op) = None
access_of (One key op) = Some (on_key key (one op))
access_of (Many op) = Some (many op)
access_of (Whole op) = None
access_of (Wrong error) = None

abbrev pub in_mode : Mode → List Bytes → List (Bytes × Mode)
in_mode mode [] = []
in_mode mode (key ∷ keys) = (key, mode) ∷ in_mode mode keys

abbrev pub named : Option Access → List (Bytes × Mode)
named None = []
named (Some a) = in_mode Shared a.reads ++ in_mode Exclusive a.writes

-- each key that a command names, with its mode there; a key may stand here twice
abbrev pub keys_of : Command → List (Bytes × Mode)
keys_of command = named (access_of command)

-- the mode in which a command asks for every key of every shard, if it does
abbrev pub all_of_op : WholeOp → Mode
all_of_op wholes.Dbsize = Shared
all_of_op (wholes.Keys pattern) = Shared
all_of_op wholes.Flushall = Exclusive
all_of_op wholes.Flushdb = Exclusive
all_of_op wholes.Save = Shared

abbrev pub whole_mode : Command → Option Mode
whole_mode (Plain op) = None
whole_mode (One key op) = None
whole_mode (Many op) = None
whole_mode (Whole op) = Some (all_of_op op)
whole_mode (Wrong error) = None

-- ---- the commands of a call together

-- a key that one command reads and another writes is to be written
abbrev pub stronger : Mode → Option Mode → Mode
stronger Exclusive other = Exclusive
stronger Shared None = Shared
stronger Shared (Some other) = other

-- keys with their modes, in byte order, no key twice
abbrev pub Modes : Type 0
Modes = FinMap (slice_cmp nat_cmp) Mode

abbrev pub with_modes : List (Bytes × Mode) → Modes → Modes
with_modes [] modes = modes
with_modes (m ∷ more) modes = with_modes more (fin.insert modes m.0 (stronger m.1 (fin.get modes m.0)))

-- those of the keys that stand on this shard
abbrev pub on_shard : ℕ → ℕ → List (Bytes × Mode) → List (Bytes × Mode)
on_shard shards s [] = []
on_shard shards s (m ∷ more) = cond (shard_of m.0 shards == s) (m ∷ on_shard shards s more) (on_shard shards s more)

abbrev pub keys_of_all : List Command → List (Bytes × Mode)
keys_of_all [] = []
keys_of_all (command ∷ commands) = keys_of command ++ keys_of_all commands

-- what the commands name on this shard, each key once and in its strongest mode
abbrev pub modes_on : ℕ → ℕ → List Command → Modes
modes_on shards s commands = with_modes (on_shard shards s (keys_of_all commands)) fin.empty

abbrev pub strongest : List (Bytes × Mode) → Mode
strongest [] = Shared
strongest (m ∷ more) = stronger m.1 (Some (strongest more))

-- one of the commands asks for every key: then the call asks for every key, to write it where any command writes
abbrev pub some_whole : List Command → Bool
some_whole [] = false
some_whole (command ∷ commands) = is_some (whole_mode command) || some_whole commands

abbrev pub mode_of : Option Mode → Mode
mode_of None = Shared
mode_of (Some mode) = mode

abbrev pub mode_of_all : List Command → Mode
mode_of_all [] = Shared
mode_of_all (command ∷ commands) =
    stronger (mode_of (whole_mode command)) (Some (stronger (strongest (keys_of command)) (Some (mode_of_all commands))))

abbrev pub commands_of : Call → List Command
commands_of (Single command) = command ∷ []
commands_of (Exec commands) = commands.items

-- ---- the footprint

abbrev pub some_keys : List (Bytes × Mode) → Option Keys
some_keys [] = None
some_keys (m ∷ modes) = Some (kinds.Some (all_of (m ∷ modes)))

abbrev pub footprint_of_commands : ℕ → ℕ → List Command → Option Keys
footprint_of_commands shards s commands =
    cond (some_whole commands) (Some (kinds.All (mode_of_all commands))) (some_keys (fin.entries (modes_on shards s commands)))

-- what a call asks for on a shard, if anything; there is no shard past the last
abbrev pub footprint_of : ℕ → Call → ℕ → Option Keys
footprint_of shards call s = cond (nat_lt s shards) (footprint_of_commands shards s (commands_of call)) None

-- ---- calls of one key

-- the key of a command of one key
abbrev pub key_of : Command → Option Bytes
key_of (Plain op) = None
key_of (One key op) = Some key
key_of (Many op) = None
key_of (Whole op) = None
key_of (Wrong error) = None

-- the key of a call that is a single command of one key
abbrev pub only_key : Call → Option Bytes
only_key (Single command) = key_of command
only_key (Exec commands) = None

-- of the shard where the key stands the call asks for this key alone, in this mode, and of the others for nothing
abbrev pub AsksAlone : Call → Bytes → Mode → Type 0
AsksAlone call key mode =
    (shards s : ℕ) → s < shards → footprint_of shards call s ≡ cond (shard_of key shards == s) (Some (kinds.Some (all_of ((key, mode) ∷ [])))) None
