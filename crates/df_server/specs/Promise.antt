-- The pipe promise: what a run of `pipe` took, wrote and answered.
use Rattle.std.specs.Prelude.{◌≡◌, ◌⊎◌, ℕ, ◌+◌, ◌<◌, ◌≤◌, List, [], ◌∷◌, ◌++◌, length, codes, true, false}
use Rattle.std.specs.Io.KnownBytes.{Appends}
use Rattle.df_model.specs.Values.{Bytes}
use Rattle.df_model.specs.Keyspace.{no_keys}
use Rattle.df_model.specs.Words.{Words}
use Rattle.df_model.specs.Framing.{Framed, CanGoOn}
use Rattle.df_model.specs.BadInput.{BadAt}
use Rattle.df_model.specs.History.{Item, IsLegal, IsOrdered, each_call}
use Rattle.df_model.specs.Output.{SessionOutput}
use Rattle.df_model.specs.declared.session.BadKind.{BadKind}
use Rattle.df_model.specs.declared.session.Why.{Why}
use Rattle.df_model.specs.declared.session.Why.TheVariants as ends
use Rattle.df_outside.specs.Faults.{Rose}
use Rattle.df_outside.specs.Streams.{Inflow, Outflow}
use Rattle.df_print.specs.Writes.{LineStatus}

-- a run as it is seen from outside: its status, and its input and output before and after it
pub record Run : Type 0 where
  pub status : ℕ
  pub input_before : Inflow
  pub input : Inflow
  pub output_before : Outflow
  pub output : Outflow

-- ---- the words of the command line

abbrev pub IsPipe : List Bytes → Type 0
IsPipe words = words ≡ codes "pipe" ∷ []

abbrev pub usage : Bytes
usage = codes "usage: dflyd serve, pipe, check FILE or gen SEED COUNT" ++ 10 ∷ []

-- Other words: nothing is taken. The usage line is written, whole at status 2 unless a write of it failed.
abbrev pub UsageGiven : Run → Type 0
UsageGiven run = (run.input ≡ run.input_before) × LineStatus usage 2 run.status run.output_before run.output

-- ---- the session

-- bytes that `pipe` takes at the most
abbrev pub INPUT_LIMIT : ℕ
INPUT_LIMIT = 1099511627776

-- an item's number is its place, from 1, and its floor the number before it
abbrev pub IsNumbered : ℕ → List Item → Type 0
IsNumbered before [] = Unit {0}
IsNumbered before (item ∷ items) =
    (item.session ≡ 0) × (item.number ≡ before + 1) × (item.floor ≡ before) × IsNumbered (before + 1) items

-- the status and the cause of each end, from the bytes that were taken and those of the output that were not written
abbrev pub Ends : Why → Bytes → Bytes → Run → Type 0
-- the source said End, the input is good so far, and all was answered and written
Ends ends.InputEnd bytes unsent run = (run.status ≡ 0) × (run.input.ended ≡ true) × CanGoOn bytes × (unsent ≡ [])
-- this byte is the first that makes the input bad; all that stands before was answered, and the error was written
Ends (ends.Protocol kind at) bytes unsent run = (run.status ≡ 1) × BadAt bytes at kind × (unsent ≡ [])
Ends ends.NoMemory bytes unsent run = run.status ≡ 4
-- a read failed; or the limit was reached, and no End came
Ends ends.ReadFault bytes unsent run =
    ((run.status ≡ 7) × (length bytes < INPUT_LIMIT) × Rose run.input_before.faults run.input.faults)
    ⊎ ((run.status ≡ 9) × (length bytes ≡ INPUT_LIMIT) × (run.input.ended ≡ false))
Ends ends.WriteFault bytes unsent run = (run.status ≡ 8) × Rose run.output_before.faults run.output.faults
-- QUIT or SHUTDOWN: all before it was answered and written; what stands behind it isn't looked at
Ends ends.Quit bytes unsent run = (run.status ≡ 0) × (unsent ≡ [])
Ends ends.Asked bytes unsent run = (run.status ≡ 0) × (unsent ≡ [])
-- a pipe ends in no other way
Ends ends.Stopped bytes unsent run = ⊥
Ends ends.TooMany bytes unsent run = ⊥
Ends ends.Spent bytes unsent run = ⊥

-- an end that may cut a session's last line off
abbrev pub CutsOff : Why → Type 0
CutsOff ends.WriteFault = Unit {0}
CutsOff ends.NoMemory = Unit {0}
CutsOff ends.InputEnd = ⊥
CutsOff ends.Quit = ⊥
CutsOff ends.Asked = ⊥
CutsOff ends.Stopped = ⊥
CutsOff (ends.Protocol kind at) = ⊥
CutsOff ends.ReadFault = ⊥
CutsOff ends.TooMany = ⊥
CutsOff ends.Spent = ⊥

-- The output is that of the session's end; or the input is bad, and the output with its error line was cut off.
abbrev pub Shows : Why → Bytes → Why → Type 0
Shows end bytes shown =
    (shown ≡ end) ⊎ (CutsOff end × ((kind : BadKind) × ((at : ℕ) × (BadAt bytes at kind × (shown ≡ ends.Protocol kind at)))))

-- The bytes that were taken are framed into requests; there is one list of the session's calls, legal from the
-- empty keyspace and ordered; what was written is a front of the session's output over these.
pub record PipeRan (end : Why) (run : Run) : Type 0 where
  pub bytes : Bytes
  pub wrote : Bytes
  pub taken : Appends run.input_before.taken run.input.taken bytes
  -- whatever the end
  pub bounded : length bytes ≤ INPUT_LIMIT
  pub written : Appends run.output_before.written run.output.written wrote
  pub requests : List Words
  pub rest : Bytes
  pub framed : Framed bytes requests rest
  pub items : List Item
  pub legal : IsLegal no_keys items
  pub ordered : IsOrdered each_call items
  pub numbered : IsNumbered 0 items
  pub shown : Why
  pub shows : Shows end bytes shown
  pub out : Bytes
  pub output : SessionOutput requests shown items out
  pub unsent : Bytes
  pub front : out ≡ wrote ++ unsent
  pub ends : Ends end bytes unsent run

abbrev pub PipePromise : Run → Type 0
PipePromise run = (end : Why) × PipeRan end run
