-- What awaits an answer, and which answers fit it.
use Rattle.std.specs.Prelude.{ℕ, ◌==◌, Bool, true, false, ◌&&◌}
use Rattle.df_hops.specs.declared.message.Part.{Part}
use Rattle.df_hops.specs.declared.message.Part.TheVariants as parts
use Rattle.df_hops.specs.declared.message.Body.{Body}
use Rattle.df_hops.specs.declared.message.Body.TheVariants as bodies
use Rattle.df_hops.specs.declared.message.Message.{Message}
use Rattle.df_hops.specs.declared.answer.Outcome.{Outcome}
use Rattle.df_hops.specs.declared.answer.Outcome.TheVariants as outcomes
use Rattle.df_hops.specs.declared.answer.AnswerBody.{AnswerBody}
use Rattle.df_hops.specs.declared.answer.AnswerBody.TheVariants as answers
use Rattle.df_hops.specs.declared.answer.Answer.{Answer}
use Rattle.df_post.specs.declared.awaited.PartKind.{PartKind}
use Rattle.df_post.specs.declared.awaited.PartKind.TheVariants as part_kinds
use Rattle.df_post.specs.declared.awaited.Kind.{Kind}
use Rattle.df_post.specs.declared.awaited.Kind.TheVariants as kinds
use Rattle.df_post.specs.declared.awaited.Awaited.{Awaited}

-- ---- what awaits

abbrev pub part_kind : Part → PartKind
part_kind (parts.Run command) = part_kinds.Run
part_kind (parts.Read keys) = part_kinds.Read
part_kind (parts.Stage changes) = part_kinds.Stage
part_kind parts.Apply = part_kinds.Do
part_kind parts.Unstage = part_kinds.Do
part_kind parts.Begin = part_kinds.Do
part_kind parts.Walk = part_kinds.Walk
part_kind parts.Count = part_kinds.Count
part_kind parts.Clear = part_kinds.Do

abbrev pub kind_of : Body → Kind
kind_of (bodies.Schedule keys) = kinds.Place
kind_of (bodies.Quick hop hash slip) = kinds.Quick
kind_of (bodies.Hop hop part) = kinds.Hop (part_kind part)
kind_of bodies.Cancel = kinds.Free
kind_of bodies.Conclude = kinds.Free
kind_of (bodies.Pull hop) = kinds.Pull
kind_of bodies.DropCut = kinds.Free

-- that of a Quick, a Hop or a Pull, else 0
abbrev pub hop_of : Body → ℕ
hop_of (bodies.Schedule keys) = 0
hop_of (bodies.Quick hop hash slip) = hop
hop_of (bodies.Hop hop part) = hop
hop_of bodies.Cancel = 0
hop_of bodies.Conclude = 0
hop_of (bodies.Pull hop) = hop
hop_of bodies.DropCut = 0

-- what awaits its answer where the message went
abbrev pub awaited_by : Message → Awaited
awaited_by m = record { number = m.number; hop = hop_of m.body; kind = kind_of m.body }

-- ---- whose answer it may be

-- a Schedule's
abbrev pub is_placing : AnswerBody → Bool
is_placing answers.Taken = true
is_placing (answers.Refused limit) = true
is_placing answers.NoMemory = true
is_placing (answers.Passed why slip receipt) = false
is_placing (answers.Ran slip receipt keys) = false
is_placing (answers.Wanted slip receipt) = false
is_placing (answers.Did outcome receipt keys) = false
is_placing answers.Freed = false
is_placing (answers.Pulled out done receipt) = false

-- a Quick's
abbrev pub is_quick : AnswerBody → Bool
is_quick answers.Taken = false
is_quick (answers.Refused limit) = false
is_quick answers.NoMemory = false
is_quick (answers.Passed why slip receipt) = true
is_quick (answers.Ran slip receipt keys) = true
is_quick (answers.Wanted slip receipt) = true
is_quick (answers.Did outcome receipt keys) = false
is_quick answers.Freed = false
is_quick (answers.Pulled out done receipt) = false

-- a Cancel's, a Conclude's or a DropCut's
abbrev pub is_freeing : AnswerBody → Bool
is_freeing answers.Taken = false
is_freeing (answers.Refused limit) = false
is_freeing answers.NoMemory = false
is_freeing (answers.Passed why slip receipt) = false
is_freeing (answers.Ran slip receipt keys) = false
is_freeing (answers.Wanted slip receipt) = false
is_freeing (answers.Did outcome receipt keys) = false
is_freeing answers.Freed = true
is_freeing (answers.Pulled out done receipt) = false

-- a Pull's
abbrev pub is_pulling : AnswerBody → Bool
is_pulling answers.Taken = false
is_pulling (answers.Refused limit) = false
is_pulling answers.NoMemory = true
is_pulling (answers.Passed why slip receipt) = false
is_pulling (answers.Ran slip receipt keys) = false
is_pulling (answers.Wanted slip receipt) = false
is_pulling (answers.Did outcome receipt keys) = false
is_pulling answers.Freed = false
is_pulling (answers.Pulled out done receipt) = true

-- a Run's
abbrev pub is_run : Outcome → Bool
is_run (outcomes.Ran pieces) = true
is_run (outcomes.Values values) = false
is_run outcomes.Staged = false
is_run outcomes.Applied = false
is_run (outcomes.Names names) = false
is_run (outcomes.Number n) = false
is_run outcomes.NoMemory = true

-- a Read's
abbrev pub is_read : Outcome → Bool
is_read (outcomes.Ran pieces) = false
is_read (outcomes.Values values) = true
is_read outcomes.Staged = false
is_read outcomes.Applied = false
is_read (outcomes.Names names) = false
is_read (outcomes.Number n) = false
is_read outcomes.NoMemory = true

-- a Stage's
abbrev pub is_stage : Outcome → Bool
is_stage (outcomes.Ran pieces) = false
is_stage (outcomes.Values values) = false
is_stage outcomes.Staged = true
is_stage outcomes.Applied = false
is_stage (outcomes.Names names) = false
is_stage (outcomes.Number n) = false
is_stage outcomes.NoMemory = true

-- that of a part that takes no memory
abbrev pub is_done : Outcome → Bool
is_done (outcomes.Ran pieces) = false
is_done (outcomes.Values values) = false
is_done outcomes.Staged = false
is_done outcomes.Applied = true
is_done (outcomes.Names names) = false
is_done (outcomes.Number n) = false
is_done outcomes.NoMemory = false

-- a Walk's
abbrev pub is_walk : Outcome → Bool
is_walk (outcomes.Ran pieces) = false
is_walk (outcomes.Values values) = false
is_walk outcomes.Staged = false
is_walk outcomes.Applied = false
is_walk (outcomes.Names names) = true
is_walk (outcomes.Number n) = false
is_walk outcomes.NoMemory = true

-- a Count's
abbrev pub is_count : Outcome → Bool
is_count (outcomes.Ran pieces) = false
is_count (outcomes.Values values) = false
is_count outcomes.Staged = false
is_count outcomes.Applied = false
is_count (outcomes.Names names) = false
is_count (outcomes.Number n) = true
is_count outcomes.NoMemory = true

abbrev pub is_part : PartKind → Outcome → Bool
is_part part_kinds.Run outcome = is_run outcome
is_part part_kinds.Read outcome = is_read outcome
is_part part_kinds.Stage outcome = is_stage outcome
is_part part_kinds.Do outcome = is_done outcome
is_part part_kinds.Walk outcome = is_walk outcome
is_part part_kinds.Count outcome = is_count outcome

-- a Hop's, with this part
abbrev pub is_hop : PartKind → AnswerBody → Bool
is_hop part answers.Taken = false
is_hop part (answers.Refused limit) = false
is_hop part answers.NoMemory = false
is_hop part (answers.Passed why slip receipt) = false
is_hop part (answers.Ran slip receipt keys) = false
is_hop part (answers.Wanted slip receipt) = false
is_hop part (answers.Did outcome receipt keys) = is_part part outcome
is_hop part answers.Freed = false
is_hop part (answers.Pulled out done receipt) = false

abbrev pub is_of : Kind → AnswerBody → Bool
is_of kinds.Place body = is_placing body
is_of kinds.Quick body = is_quick body
is_of (kinds.Hop part) body = is_hop part body
is_of kinds.Free body = is_freeing body
is_of kinds.Pull body = is_pulling body

-- it has the shard, the number and the hop, and a body of the kind
abbrev pub fits : Awaited → ℕ → Answer → Bool
fits a s answer = (answer.shard == s) && ((answer.number == a.number) && ((answer.hop == a.hop) && is_of a.kind answer.body))
