-- What a session calls keeps to the limits of a call.
use Rattle.std.proofs.Common.{◌≡◌, ◌+◌, ◌≤◌, Bool, true, false, cond, nat_lt, List, [], ◌∷◌, ◌++◌, length, refl, sym, subst, codes, arith, rules, tests}
use Rattle.std.specs.Prelude.{Option, Some, None}
use Rattle.std.specs.List.{AllByRecursion}
use Rattle.df_model.specs.Values.{Bytes}
use Rattle.df_model.specs.Words.{Words, is_name, same}
use Rattle.df_model.specs.Reads.{Reading, linked, reads, reads_linked, saves}
use Rattle.df_model.specs.Framing.{IsRequest}
use Rattle.df_model.specs.Session.{State, Step, Heard, Given, Control, ControlShape, ControlRow, alone, controls, shutdown, heard, heard_as, heard_counted, heard_by, given, machine, ready_step, queueing_step, append, execute, session_step, without_memory, MAX_QUEUED}
use Rattle.df_model.specs.Calls.{HasWords, MayQueue, IsCall}
use Rattle.df_model.specs.History.{Item}
use Rattle.df_model.specs.Output.{Walk}
use Rattle.df_model.specs.Laws.{SessionsCall}
use Rattle.df_model.proofs.WordLaws.{reads_keep}
use Rattle.df_model.specs.declared.session.Why.{Why}
use Rattle.df_model.specs.declared.command.Command.{Command}
use Rattle.df_model.specs.declared.command.Command.TheVariants.{Plain, One, Many, Whole, Wrong}
use Rattle.df_model.specs.declared.reply.ErrorText.TheVariants as errors
use Rattle.df_model.specs.declared.reply.Reply.{Reply}
use Rattle.df_model.specs.declared.reply.Reply.TheVariants.{Error}

-- ---- states and steps

-- what is queued keeps to the limits
abbrev IsSound : State → Type 0
IsSound State.Ready = Unit {0}
IsSound (State.Queueing commands broken) = (length commands ≤ MAX_QUEUED) × AllByRecursion MayQueue commands

abbrev Keeps : Heard → Type 0
Keeps (Heard.Spoken command) = HasWords command
Keeps (Heard.Controls control) = Unit {0}
Keeps (Heard.Refused error) = Unit {0}

abbrev Calls : Given → Type 0
Calls (Given.Replies reply) = Unit {0}
Calls (Given.Calls call) = IsCall call
Calls (Given.Parts reply) = Unit {0}
Calls Given.Leaves = Unit {0}

abbrev StepKeeps : Step → Type 0
StepKeeps step = Calls step.0 × IsSound step.1

either : (b : Bool) (reading : Reading) → Keeps (heard_as reading) → Keeps (heard_as (cond b Reading.Unknown reading))
either true reading h = tt
either false reading h = h

reading_keeps : (reading : Reading) → ((command : Command) → reading ≡ Reading.Runs command → HasWords command) → Keeps (heard_as (linked reading))
reading_keeps (Reading.Runs command) h = either (saves command) (Reading.Runs command) (h command refl)
reading_keeps Reading.Unknown h = tt
reading_keeps (Reading.Arity name) h = either (same name (codes "save")) (Reading.Arity name) tt

abbrev KeepsFound : Option Heard → Type 0
KeepsFound None = Unit {0}
KeepsFound (Some request) = Keeps request

-- whatever words stand behind a control word
abbrev Controls : ControlShape → Type 0
Controls shape = (words : Words) → KeepsFound (shape words)

counted_keeps : (name : Bytes) (found : Option Heard) → KeepsFound found → Keeps (heard_counted name found)
counted_keeps name None h = tt
counted_keeps name (Some request) h = h

one_of : (b : Bool) (one other : Heard) → Keeps one → Keeps other → Keeps (cond b one other)
one_of true one other p q = p
one_of false one other p q = q

alone_keeps : (control : Control) → Controls (alone control)
alone_keeps control [] = tt
alone_keeps control (word ∷ words) = tt

shutdown_keeps : Controls shutdown
shutdown_keeps [] = tt
shutdown_keeps (word ∷ []) = one_of (is_name word (codes "nosave")) (Heard.Controls Control.Shutdown) (Heard.Spoken (Wrong errors.Syntax)) tt tt
shutdown_keeps (a ∷ b ∷ more) = tt

heard_by_keeps : (rs : List ControlRow) (name : Bytes) (words : Words) (other : Heard) → AllByRecursion (λ r. Controls r.shape) rs → Keeps other → Keeps (heard_by rs name words other)
heard_by_keeps [] name words other all has = has
heard_by_keeps (r ∷ rs) name words other all has =
    one_of (is_name name r.name) (heard_counted r.name (r.shape words)) (heard_by rs name words other)
    (counted_keeps r.name (r.shape words) (all.0 words)) (heard_by_keeps rs name words other all.1 has)

request_keeps : (words : Words) → IsRequest words → Keeps (heard words)
request_keeps [] is = tt
request_keeps (name ∷ words) is =
    heard_by_keeps controls name words (heard_as (reads_linked (name ∷ words))) (alone_keeps Control.Multi, (alone_keeps Control.Exec, (alone_keeps Control.Discard, ((λ ws. tt), (shutdown_keeps, tt)))))
    (reading_keeps (reads (name ∷ words)) (λ command e. reads_keep (name ∷ words) command is.each e))

given_keeps : (command : Command) → HasWords command → Calls (given command)
given_keeps (Plain op) has = tt
given_keeps (One k op) has = has
given_keeps (Many op) has = has
given_keeps (Whole op) has = has
given_keeps (Wrong error) has = tt

ready_keeps : (request : Heard) → Keeps request → StepKeeps (ready_step request)
ready_keeps (Heard.Spoken command) has = (given_keeps command has, tt)
ready_keeps (Heard.Controls Control.Multi) has = (tt, (omega arith, tt))
ready_keeps (Heard.Controls Control.Exec) has = (tt, tt)
ready_keeps (Heard.Controls Control.Discard) has = (tt, tt)
ready_keeps (Heard.Controls Control.Quit) has = (tt, tt)
ready_keeps (Heard.Controls Control.Shutdown) has = (tt, tt)
ready_keeps (Heard.Refused error) has = (tt, tt)

one_more : (commands : List Command) (command : Command) → AllByRecursion MayQueue commands → MayQueue command → AllByRecursion MayQueue (commands ++ command ∷ [])
one_more [] command all has = (has, tt)
one_more (c ∷ commands) command all has = (all.0, one_more commands command all.1 has)

length_one_more : (commands : List Command) (command : Command) → length (commands ++ command ∷ []) ≡ length commands + 1
length_one_more [] command = omega arith
length_one_more (c ∷ commands) command = omega (arith, length_one_more commands command)

append_chosen : (b : Bool) (commands : List Command) (broken : Bool) (command : Command) → (b ≡ true → length commands + 1 ≤ MAX_QUEUED) → IsSound (State.Queueing commands broken) → MayQueue command →
    (queue refuse : Step) → (queue ≡ (queue.0, State.Queueing (commands ++ command ∷ []) broken)) → Calls queue.0 → StepKeeps refuse → StepKeeps (cond b queue refuse)
append_chosen true commands broken command fits sound has queue refuse e calls other =
    (calls, subst (λ s. IsSound s.1) (sym e) (subst (λ n. n ≤ MAX_QUEUED) (sym (length_one_more commands command)) (fits refl), one_more commands command sound.1 has))
append_chosen false commands broken command fits sound has queue refuse e calls other = other

append_keeps : (commands : List Command) (broken : Bool) (command : Command) → IsSound (State.Queueing commands broken) → MayQueue command → StepKeeps (append commands broken command)
append_keeps commands broken command sound has =
    append_chosen (nat_lt (length commands) MAX_QUEUED) commands broken command (λ e. search (rules, tests)) sound has _ _ refl tt (tt, sound)

execute_keeps : (commands : List Command) (broken : Bool) → IsSound (State.Queueing commands broken) → StepKeeps (execute commands broken)
execute_keeps commands true sound = (tt, tt)
execute_keeps commands false sound = (sound, tt)

spoken_keeps : (b : Bool) (commands : List Command) (broken : Bool) (command : Command) → saves command ≡ b → IsSound (State.Queueing commands broken) → HasWords command →
    StepKeeps (cond b (Given.Replies (Error errors.NotInside), State.Queueing commands true) (append commands broken command))
spoken_keeps true commands broken command e sound has = (tt, sound)
spoken_keeps false commands broken command e sound has = append_keeps commands broken command sound (has, e)

queueing_keeps : (commands : List Command) (broken : Bool) (request : Heard) → IsSound (State.Queueing commands broken) → Keeps request → StepKeeps (queueing_step commands broken request)
queueing_keeps commands broken (Heard.Spoken command) sound has = spoken_keeps (saves command) commands broken command refl sound has
queueing_keeps commands broken (Heard.Controls Control.Multi) sound has = (tt, sound)
queueing_keeps commands broken (Heard.Controls Control.Exec) sound has = execute_keeps commands broken sound
queueing_keeps commands broken (Heard.Controls Control.Discard) sound has = (tt, tt)
queueing_keeps commands broken (Heard.Controls Control.Quit) sound has = (tt, sound)
queueing_keeps commands broken (Heard.Controls Control.Shutdown) sound has = (tt, sound)
queueing_keeps commands broken (Heard.Refused error) sound has = (tt, sound)

machine_keeps : (state : State) (request : Heard) → IsSound state → Keeps request → StepKeeps (machine state request)
machine_keeps State.Ready request sound has = ready_keeps request has
machine_keeps (State.Queueing commands broken) request sound has = queueing_keeps commands broken request sound has

step_keeps : (state : State) (words : Words) (step : Step) → IsSound state → IsRequest words → session_step state words ≡ step → StepKeeps step
step_keeps state words step sound is e = subst StepKeeps e (machine_keeps state (heard words) sound (request_keeps words is))

broken_keeps : (state : State) → IsSound state → IsSound (without_memory state)
broken_keeps State.Ready sound = tt
broken_keeps (State.Queueing commands broken) sound = sound

-- ---- walks

walk_calls : {end : Why} (state : State) (requests : List Words) (items : List Item) (replies : List Reply) → Walk end state requests items replies →
    IsSound state → AllByRecursion IsRequest requests → AllByRecursion (λ item. IsCall item.call) items
walk_calls _ _ _ _ (Walk.done state last) sound all = tt
walk_calls _ _ _ _ (Walk.stopped state requests may) sound all = tt
walk_calls _ _ _ _ (Walk.parted state words requests reply after is end) sound all = tt
walk_calls _ _ _ _ (Walk.left state words requests after is end) sound all = tt
walk_calls _ _ _ _ (Walk.replied state words requests items reply replies after is walk) sound all =
    walk_calls after requests items replies walk (step_keeps state words (Given.Replies reply, after) sound all.0 is).1 all.1
walk_calls _ _ _ _ (Walk.called state words requests item items replies after is walk) sound all =
    let kept : StepKeeps (Given.Calls item.call, after) = step_keeps state words (Given.Calls item.call, after) sound all.0 is in
    (kept.0, walk_calls after requests items replies walk kept.1 all.1)
walk_calls _ _ _ _ (Walk.not_run state words requests items replies call after is walk) sound all =
    walk_calls after requests items replies walk (step_keeps state words (Given.Calls call, after) sound all.0 is).1 all.1
walk_calls _ _ _ _ (Walk.not_taken state words requests items replies walk) sound all =
    walk_calls (without_memory state) requests items replies walk (broken_keeps state sound) all.1
walk_calls _ _ _ _ (Walk.turned_away state is) sound all = tt

pub calls_of_sessions : SessionsCall
calls_of_sessions requests end items out all output = walk_calls State.Ready requests items output.replies output.walk tt all
