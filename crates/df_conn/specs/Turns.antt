-- A connection between its turns, and what a turn does.
use Rattle.std.specs.Prelude.{◌≡◌, ◌⊎◌, ℕ, List, ◌+◌, ◌*◌, ◌^◌, ◌<◌, ◌≤◌, ◌-◌, Bool, true, false, Some, None, [], ◌∷◌, ◌++◌, length, take}
use Rattle.std.specs.Io.KnownBytes.{Appends}
use Rattle.df_model.specs.Values.{Bytes}
use Rattle.df_model.specs.Words.{Words}
use Rattle.df_model.specs.Framing.{Splits, CanGoOn}
use Rattle.df_model.specs.Session.{State}
use Rattle.df_model.specs.Replies.{encoding_of}
use Rattle.df_model.specs.Spoken.{Session, Spoke, MAX_OPEN}
use Rattle.df_model.specs.declared.reply.ErrorText.TheVariants as errors
use Rattle.df_model.specs.declared.reply.Reply.TheVariants.{Error}
use Rattle.df_model.specs.declared.command.Call.{Call}
use Rattle.df_model.specs.declared.session.Turn.{Turn}
use Rattle.df_model.specs.declared.session.Turn.TheVariants as turns
use Rattle.df_model.specs.declared.session.Why.{Why}
use Rattle.df_model.specs.declared.session.Why.TheVariants as ends
use Rattle.df_outside.specs.Faults.{Rose}
use Rattle.df_outside.specs.Links.{Flow, Spends}
use Rattle.df_resp.specs.Stream.{Stream}
use Rattle.df_caller.specs.Told.{Told, told_items}
use Rattle.df_caller.specs.Calling.{Calling}
use Rattle.df_conn.specs.Walked.{Closes}
use Rattle.df_conn.specs.Talks.{Stands, Awaits, IsDry, BadNear}
use Rattle.df_conn.specs.declared.conn.Stage.{Stage}
use Rattle.df_conn.specs.declared.conn.Stage.TheVariants as stages
use Rattle.df_conn.specs.declared.talk.Talk.{Talk}

-- what there is to see of a connection: `first` is the link as it was at the start
pub record Sight : Type 0 where
  pub id : ℕ
  pub stage : Stage
  pub calling : Calling
  pub first : Flow
  pub flow : Flow
  pub state : State
  pub stream : Stream
  pub output : Bytes
  pub sent : ℕ

abbrev pub see : ℕ → Stage → Calling → Flow → Flow → Talk → Sight
see id stage calling first flow talk = record {
  id = id;
  stage = stage;
  calling = calling;
  first = first;
  flow = flow;
  state = talk.state;
  stream = talk.reader;
  output = talk.output.items;
  sent = talk.sent;
}

abbrev pub session_of : ℕ → Why → Bytes → Bytes → Session
session_of id why bytes wrote = record { id = id; why = why; taken = bytes; written = wrote }

-- what an end says of the input and of the link since the start
abbrev pub Proven : Why → Bytes → Flow → Flow → Type 0
Proven ends.InputEnd bytes first now = (now.ended ≡ true) × CanGoOn bytes
Proven (ends.Protocol kind at) bytes first now = BadNear bytes at kind
Proven ends.Quit bytes first now = Unit {0}
Proven ends.Asked bytes first now = Unit {0}
Proven ends.Stopped bytes first now = Unit {0}
Proven ends.ReadFault bytes first now = Rose first.read_faults now.read_faults × (now.ended ≡ false)
Proven ends.WriteFault bytes first now = Rose first.write_faults now.write_faults
Proven ends.TooMany bytes first now = Unit {0}
Proven ends.Spent bytes first now = Unit {0}
Proven ends.NoMemory bytes first now = Unit {0}

-- an end that nothing has to happen for: the input asks for it, or the session is one too many
abbrev pub EndsItself : Why → Type 0
EndsItself ends.Quit = Unit {0}
EndsItself ends.Asked = Unit {0}
EndsItself (ends.Protocol kind at) = Unit {0}
EndsItself ends.InputEnd = ⊥
EndsItself ends.Stopped = ⊥
EndsItself ends.ReadFault = ⊥
EndsItself ends.WriteFault = ⊥
EndsItself ends.TooMany = Unit {0}
EndsItself ends.Spent = ⊥
EndsItself ends.NoMemory = ⊥

-- the line of a session that is turned away
abbrev pub turned_away_line : Bytes
turned_away_line = encoding_of (Error errors.TooMany)

-- it takes nothing, and that line is all that it says
pub record TurnsAway (id : ℕ) (bytes said : Bytes) (told : List Told) : Type 0 where
  pub late : MAX_OPEN ≤ id
  pub nothing : bytes ≡ []
  pub none : told ≡ []
  pub line : said ≡ turned_away_line

-- nothing more is taken, and the session ends so
abbrev pub ClosesAs : Why → ℕ → Bytes → Bytes → List Told → Type 0
ClosesAs ends.InputEnd id bytes said told = Closes ends.InputEnd bytes said told
ClosesAs ends.Quit id bytes said told = Closes ends.Quit bytes said told
ClosesAs ends.Asked id bytes said told = Closes ends.Asked bytes said told
ClosesAs ends.Stopped id bytes said told = Closes ends.Stopped bytes said told
ClosesAs (ends.Protocol kind at) id bytes said told = Closes (ends.Protocol kind at) bytes said told
ClosesAs ends.ReadFault id bytes said told = Closes ends.ReadFault bytes said told
ClosesAs ends.WriteFault id bytes said told = Closes ends.WriteFault bytes said told
ClosesAs ends.TooMany id bytes said told = TurnsAway id bytes said told
ClosesAs ends.Spent id bytes said told = Closes ends.Spent bytes said told
ClosesAs ends.NoMemory id bytes said told = Closes ends.NoMemory bytes said told

-- what was taken, said, told and written fits together
abbrev pub At : Stage → Sight → Bytes → Bytes → Bytes → Type 0
At stages.Open s bytes said wrote = (s.calling.under ≡ None) × Stands s.calling.told bytes said s.state s.stream
At stages.Calling s bytes said wrote = (call : Call) × (s.calling.under ≡ Some call) × Awaits s.calling.told bytes said call s.state s.stream
At (stages.Closing why) s bytes said wrote = (s.calling.under ≡ None) × ClosesAs why s.id bytes said s.calling.told × Proven why bytes s.first s.flow × EndsItself why
At (stages.Over why) s bytes said wrote =
    (s.calling.under ≡ None) × Spoke (session_of s.id why bytes wrote) (told_items s.calling.told) × Proven why bytes s.first s.flow

-- the bytes that went over the link since the start, and all replies: those that were written and those that wait
pub record Flows (first now : Flow) (output : Bytes) (sent : ℕ) : Type 0 where
  pub bytes : Bytes
  pub wrote : Bytes
  pub said : Bytes
  -- replies that no longer stand in the output
  pub gone : Bytes
  pub taken : Appends first.taken now.taken bytes
  pub written : Appends first.written now.written wrote
  -- counts of faults never fall
  pub read_faults : first.read_faults ≤ now.read_faults
  pub write_faults : first.write_faults ≤ now.write_faults
  pub left : Spends first.left now.left (length bytes)
  pub within : sent ≤ length output
  pub said_is : said ≡ gone ++ output
  pub wrote_is : wrote ≡ gone ++ take sent output

pub record Going (s : Sight) : Type 0 where
  pub flows : Flows s.first s.flow s.output s.sent
  pub at : At s.stage s flows.bytes flows.said flows.wrote

abbrev pub IsGoing : Stage → Type 0
IsGoing stages.Open = Unit {0}
IsGoing stages.Calling = Unit {0}
IsGoing (stages.Closing why) = Unit {0}
IsGoing (stages.Over why) = ⊥

-- no call is under way
abbrev pub IsWriting : Stage → Type 0
IsWriting stages.Open = Unit {0}
IsWriting stages.Calling = ⊥
IsWriting (stages.Closing why) = Unit {0}
IsWriting (stages.Over why) = ⊥

abbrev pub is_over : Stage → Bool
is_over stages.Open = false
is_over stages.Calling = false
is_over (stages.Closing why) = false
is_over (stages.Over why) = true

-- bytes of output that wait
abbrev pub waiting_in : Talk → ℕ
waiting_in talk = length talk.output.items - talk.sent

-- a session that ended so: what went over its link since the start is spoken by the calls that it was told
pub record Ended (id : ℕ) (why : Why) (calling : Calling) (first now : Flow) : Type 0 where
  pub bytes : Bytes
  pub wrote : Bytes
  pub taken : Appends first.taken now.taken bytes
  pub written : Appends first.written now.written wrote
  pub left : Spends first.left now.left (length bytes)
  pub idle : calling.under ≡ None
  pub spoke : Spoke (session_of id why bytes wrote) (told_items calling.told)
  pub proven : Proven why bytes first now

-- ---- what a turn came to, and its causes

-- how much a stage may still do where nothing is taken
abbrev pub rank : Stage → ℕ
rank stages.Open = 1
rank stages.Calling = 2
rank (stages.Closing why) = 0
rank (stages.Over why) = 0

-- bytes of output that wait
abbrev pub waiting : Sight → ℕ
waiting s = length s.output - s.sent

-- the call ended, and nothing else was done
pub record Settles (old new : Sight) : Type 0 where
  pub flow : new.flow ≡ old.flow
  pub rest : length new.stream.rest ≤ length old.stream.rest
  pub lower : rank new.stage < rank old.stage

-- less output waits, or the session closes
pub record Drains (old new : Sight) : Type 0 where
  pub left : new.flow.left ≡ old.flow.left
  pub rest : length new.stream.rest ≤ length old.stream.rest
  pub less : (rank new.stage < rank old.stage) ⊎ ((rank new.stage ≤ rank old.stage) × (waiting new < waiting old))

-- what was read is all that may be there more
pub record Gains (old new : Sight) (bytes : Bytes) : Type 0 where
  pub left : Spends old.flow.left new.flow.left (length bytes)
  pub rest : length new.stream.rest ≤ length old.stream.rest + length bytes

-- a turn moved only where one of these happened in it
pub data Moves (old new : Sight) : Type 0 where
  called : (call : Call) → old.calling.under ≡ Some call → new.calling.under ≡ None → Settles old new → Moves old new
  took : (words : Words) → Splits old.stream.rest (words ∷ []) new.stream.rest → new.flow ≡ old.flow → Moves old new
  read : (bytes : Bytes) → 0 < length bytes → Appends old.flow.taken new.flow.taken bytes → Gains old new bytes → Moves old new
  wrote : (bytes : Bytes) → 0 < length bytes → Appends old.flow.written new.flow.written bytes → Drains old new → Moves old new

-- a link with a limit never waits, and no call whose outcome is due
abbrev pub Stalls : Sight → Sight → Type 0
Stalls old new = (Rose old.flow.waits new.flow.waits × (old.flow.left ≡ None)) ⊎ (Rose old.calling.stalls new.calling.stalls × (old.calling.due ≡ false))

-- what turns can still do, where so many bytes may still be taken: it falls with each turn that moved
abbrev pub work : ℕ → Sight → ℕ
work left s = ((left * 2 + length s.stream.rest) * 4 + rank s.stage) * 2 ^ 64 + waiting s

abbrev pub Falls : Type 0
Falls = (old new : Sight) (a b : ℕ) → Moves old new → old.flow.left ≡ Some a → new.flow.left ≡ Some b → waiting new < 2 ^ 64 → work b new < work a old

abbrev pub NeverStalls : Type 0
NeverStalls = (old new : Sight) (a : ℕ) → Stalls old new → old.flow.left ≡ Some a → old.calling.due ≡ true → ⊥

-- A session that was turned away took nothing; its line was written whole, unless a write failed or all were to end.
pub record TurnedAway (Halts : Type 0) (id : ℕ) (first now : Flow) : Type 0 where
  pub late : MAX_OPEN ≤ id
  pub took : Appends first.taken now.taken []
  pub said : Appends first.written now.written turned_away_line ⊎ (Rose first.write_faults now.write_faults ⊎ Halts)

-- why it ended in this turn
abbrev pub Causes : Why → Bool → Sight → Sight → Type 0
Causes ends.ReadFault stopping old new = Rose old.flow.read_faults new.flow.read_faults
Causes ends.WriteFault stopping old new = Rose old.flow.write_faults new.flow.write_faults
Causes ends.Stopped stopping old new = stopping ≡ true
Causes ends.TooMany stopping old new = TurnedAway (stopping ≡ true) new.id new.first new.flow
Causes ends.InputEnd stopping old new = Unit {0}
Causes (ends.Protocol kind at) stopping old new = Unit {0}
Causes ends.Quit stopping old new = Unit {0}
Causes ends.Asked stopping old new = Unit {0}
Causes ends.Spent stopping old new = Unit {0}
Causes ends.NoMemory stopping old new = Unit {0}

-- a session that can't go on writing ends so, but for one that is turned away, which ends as that
abbrev pub cut_off : Why → Why → Why
cut_off ends.InputEnd why = why
cut_off ends.Quit why = why
cut_off ends.Asked why = why
cut_off ends.Stopped why = why
cut_off (ends.Protocol kind at) why = why
cut_off ends.ReadFault why = why
cut_off ends.WriteFault why = why
cut_off ends.TooMany why = ends.TooMany
cut_off ends.Spent why = why
cut_off ends.NoMemory why = why

abbrev pub cut_at : Stage → Why → Why
cut_at stages.Open why = why
cut_at stages.Calling why = why
cut_at (stages.Closing closing) why = cut_off closing why
cut_at (stages.Over over) why = why

-- it ends as one too many
abbrev pub is_too_many : Why → Bool
is_too_many ends.InputEnd = false
is_too_many ends.Quit = false
is_too_many ends.Asked = false
is_too_many ends.Stopped = false
is_too_many (ends.Protocol kind at) = false
is_too_many ends.ReadFault = false
is_too_many ends.WriteFault = false
is_too_many ends.TooMany = true
is_too_many ends.Spent = false
is_too_many ends.NoMemory = false

-- it is turned away, or ended so
abbrev pub is_away : Stage → Bool
is_away stages.Open = false
is_away stages.Calling = false
is_away (stages.Closing why) = is_too_many why
is_away (stages.Over why) = is_too_many why

-- A session that is served is never turned away later, and one that is turned away is never served: it may only end by
-- another cause.
abbrev pub StaysServed : Stage → Stage → Type 0
StaysServed old stages.Open = is_away old ≡ false
StaysServed old stages.Calling = is_away old ≡ false
StaysServed old (stages.Closing why) = is_too_many why ≡ is_away old
StaysServed old (stages.Over why) = is_too_many why ≡ true → is_away old ≡ true

abbrev pub Turned : Turn → Bool → Sight → Sight → Type 0
Turned turns.Moved stopping old new = Going new × IsGoing new.stage × Moves old new
Turned turns.NotYet stopping old new = Going new × IsGoing new.stage × Stalls old new
Turned (turns.Ended why) stopping old new = Going new × (new.stage ≡ stages.Over why) × Causes why stopping old new

-- no more output waits than before, or the session closes
abbrev pub Sinks : Sight → Sight → Type 0
Sinks old new = (rank new.stage < rank old.stage) ⊎ ((rank new.stage ≤ rank old.stage) × (waiting new ≤ waiting old))

-- no request was taken: none is whole, or the input is bad and the session closes
abbrev pub Rests : Stage → Sight → Sight → Type 0
Rests stages.Open old new =
    ((g : Going new) × IsDry g.flows.bytes new.stream) × (new.stage ≡ stages.Open) × (new.flow ≡ old.flow) × (new.calling ≡ old.calling) × Splits old.stream.rest [] new.stream.rest × Sinks old new
Rests stages.Calling old new = ⊥
Rests (stages.Closing why) old new =
    Going new × (new.flow ≡ old.flow) × (new.calling ≡ old.calling) × Splits old.stream.rest [] new.stream.rest × Sinks old new
Rests (stages.Over why) old new = ⊥
