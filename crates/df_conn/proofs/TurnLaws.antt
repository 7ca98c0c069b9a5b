-- What each answer of the caller and of the link makes of a connection.
use Rattle.std.proofs.Common.{◌≡◌, inr, ℕ, Bool, [], ◌∷◌, ◌++◌, length, take, drop, refl, sym, ap, subst, ◌∙◌, arith, append_assoc, append-nil, length-append, take-append-drop, rules}
use Rattle.std.specs.Prelude.{None, Some, Option}
use Rattle.std.proofs.lemmas.List.{take-append-le}
use Rattle.df_model.specs.Values.{Bytes}
use Rattle.df_model.specs.Replies.{encoding_of}
use Rattle.df_model.specs.Session.{State}
use Rattle.df_model.specs.Output.{MayStop}
use Rattle.df_model.specs.declared.command.Call.{Call}
use Rattle.df_model.specs.declared.session.Turn.TheVariants as turns
use Rattle.df_model.specs.declared.session.Why.{Why}
use Rattle.df_model.specs.declared.session.Why.TheVariants as ends
use Rattle.df_model.specs.declared.reply.ErrorText.TheVariants as errors
use Rattle.df_model.specs.declared.reply.Reply.TheVariants.{Error}
use Rattle.df_outside.specs.Links.{Flow}
use Rattle.df_resp.specs.Stream.{Stream}
use Rattle.df_caller.specs.Calling.{Calling, Answers, GivesUp, Waits}
use Rattle.df_conn.specs.Walked.{Walked, Asked}
use Rattle.df_conn.specs.Talks.{Awaits, Stuck}
use Rattle.df_conn.specs.Turns.{Sight, At, Flows, Going, IsGoing, Settles, Moves, Causes, Turned, Proven, rank}
use Rattle.df_conn.specs.declared.conn.Stage.{Stage}
use Rattle.df_conn.specs.declared.conn.Stage.TheVariants as stages
use Rattle.df_conn.proofs.WalkLaws.{asked_not_run, asked_answered}
use Rattle.df_conn.proofs.SpeakLaws.{spoke_stopped}

-- ---- the output

pub front_is : (first now : Flow) (output : Bytes) (sent : ℕ) (f : Flows first now output sent) → f.said ≡ f.wrote ++ drop sent output
front_is first now output sent f =
    f.said_is ∙ ap (λ x. f.gone ++ x) (sym (take-append-drop sent output)) ∙ sym (append_assoc f.gone (take sent output) (drop sent output)) ∙ ap (λ x. x ++ drop sent output) (sym f.wrote_is)

-- replies are added behind the others
abbrev pub flows_more : (first now : Flow) (output output' added : Bytes) (sent sent' : ℕ) → Flows first now output sent → sent' ≡ sent → output' ≡ output ++ added → Flows first now output' sent'
flows_more first now output output' added sent sent' f eq out = record {
  bytes = f.bytes;
  wrote = f.wrote;
  said = f.said ++ added;
  gone = f.gone;
  taken = f.taken;
  written = f.written;
  read_faults = f.read_faults;
  write_faults = f.write_faults;
  left = f.left;
  within = omega (arith, eq, f.within, ap length out, length-append output added);
  said_is = ap (λ x. x ++ added) f.said_is ∙ append_assoc f.gone output added ∙ ap (λ x. f.gone ++ x) (sym out);
  wrote_is = f.wrote_is ∙ ap (λ x. f.gone ++ x) (sym (take-append-le sent output added f.within) ∙ ap (λ n. take n (output ++ added)) (sym eq) ∙ ap (λ x. take sent' x) (sym out));
}

-- nothing is added
abbrev pub flows_same : (first now : Flow) (output output' : Bytes) (sent : ℕ) → Flows first now output sent → output' ≡ output → Flows first now output' sent
flows_same first now output output' sent f out = record {
  bytes = f.bytes;
  wrote = f.wrote;
  said = f.said;
  gone = f.gone;
  taken = f.taken;
  written = f.written;
  read_faults = f.read_faults;
  write_faults = f.write_faults;
  left = f.left;
  within = omega (arith, f.within, ap length out);
  said_is = f.said_is ∙ ap (λ x. f.gone ++ x) (sym out);
  wrote_is = f.wrote_is ∙ ap (λ x. f.gone ++ take sent x) (sym out);
}

pub at_stage : (s : Sight) (x : Stage) (bytes said wrote : Bytes) → s.stage ≡ x → At s.stage s bytes said wrote → At x s bytes said wrote
at_stage s x bytes said wrote eq at = subst (λ y. At y s bytes said wrote) eq at

-- ---- ends

-- the session stopped before what it was walked to; `told` are the calls that it knows now
pub ends_stuck : (stopping : Bool) (why : Why) (s : Sight) (now : Flow) (calling : Calling) (state : State) (stream : Stream) (output : Bytes) (sent : ℕ) (f : Flows s.first now output sent) (more : Bytes) →
    Stuck calling.told f.bytes (f.said ++ more) → MayStop why → calling.under ≡ None → Proven why f.bytes s.first now →
    Causes why stopping s record { id = s.id; stage = stages.Over why; calling = calling; first = s.first; flow = now; state = state; stream = stream; output = output; sent = sent } →
    Turned (turns.Ended why) stopping s record { id = s.id; stage = stages.Over why; calling = calling; first = s.first; flow = now; state = state; stream = stream; output = output; sent = sent }
ends_stuck stopping why s now calling state stream output sent f more st may idle proven causes = (
  record {
    flows = f;
    at = (
      idle,
      spoke_stopped s.id why f.bytes f.wrote (f.said ++ more) (drop sent output ++ more) calling.told st.state st.rest st.walked may
          (ap (λ x. x ++ more) (front_is s.first now output sent f) ∙ append_assoc f.wrote (drop sent output) more),
      proven,
    );
  },
  refl,
  causes,
)

-- ---- a step of the call under way

-- what stood before the step
record Under (s : Sight) (f : Flows s.first s.flow s.output s.sent) : Type 0 where
  call : Call
  under : s.calling.under ≡ Some call
  awaits : Awaits s.calling.told f.bytes f.said call s.state s.stream

under_way : (s : Sight) (g : Going s) → s.stage ≡ stages.Calling → Under s g.flows
under_way s g eq =
    let at : At stages.Calling s g.flows.bytes g.flows.said g.flows.wrote = at_stage s stages.Calling g.flows.bytes g.flows.said g.flows.wrote eq g.at in
    record { call = at.0; under = at.1; awaits = at.2 }

same_call : (call other : Call) (under : Option Call) → under ≡ Some call → under ≡ Some other → call ≡ other
same_call call other under a b = search rules

pub went_pending : (stopping : Bool) (s : Sight) (calling : Calling) → Going s → s.stage ≡ stages.Calling → Waits s.calling calling → Turned turns.NotYet stopping s (record s { calling = calling })
went_pending stopping s calling g eq w =
    let u = under_way s g eq in
    let f = g.flows in
    let at : At stages.Calling (record s { calling = calling }) f.bytes f.said f.wrote =
    (u.call, w.under ∙ u.under, subst (λ t. Awaits t f.bytes f.said u.call s.state s.stream) (sym w.told) u.awaits) in
    (record { flows = f; at = subst (λ x. At x (record s { calling = calling }) f.bytes f.said f.wrote) (sym eq) at }, subst IsGoing (sym eq) tt, inr (w.rose, w.early))

answered : (s : Sight) (calling : Calling) (f : Flows s.first s.flow s.output s.sent) → Under s f → (a : Answers s.calling calling) → Walked calling.told f.bytes (f.said ++ encoding_of a.reply) s.state s.stream.rest
answered s calling f u a =
    let same : u.call ≡ a.call = same_call u.call a.call s.calling.under u.under a.was in
    subst (λ t. Walked t f.bytes (f.said ++ encoding_of a.reply) s.state s.stream.rest) (sym a.told)
    (subst (λ c. Walked (s.calling.told ++ record { call = c; reply = a.reply } ∷ []) f.bytes (f.said ++ encoding_of a.reply) s.state s.stream.rest) same
    (asked_answered s.calling.told f.bytes f.said u.call a.reply s.state s.stream.rest u.awaits.asked))

settles : (old new : Sight) → old.stage ≡ stages.Calling → new.stage ≡ stages.Open → new.flow ≡ old.flow → new.stream ≡ old.stream → Settles old new
settles old new was is flow stream =
    record { flow = flow; rest = omega (arith, ap (λ t. length t.rest) stream); lower = omega (arith, ap rank was, ap rank is) }

pub went_finished : (stopping : Bool) (s : Sight) (calling : Calling) (output : Bytes) → Going s → s.stage ≡ stages.Calling → (a : Answers s.calling calling) → output ≡ s.output ++ encoding_of a.reply
    → Turned turns.Moved stopping s (record s { stage = stages.Open; calling = calling; output = output })
went_finished stopping s calling output g eq a out =
    let u = under_way s g eq in
    let f = g.flows in (
      record {
        flows = flows_more s.first s.flow s.output output (encoding_of a.reply) s.sent s.sent f refl out;
        at = (a.under, record { good = u.awaits.good; counted = u.awaits.counted; walked = answered s calling f u a });
      },
      tt,
      Moves.called u.call u.under a.under (settles s (record s { stage = stages.Open; calling = calling; output = output }) eq refl refl refl),
    )

pub went_unsaid : (stopping : Bool) (s : Sight) (calling : Calling) (output : Bytes) → Going s → s.stage ≡ stages.Calling → Answers s.calling calling → output ≡ s.output
    → Turned (turns.Ended ends.NoMemory) stopping s (record s { stage = stages.Over ends.NoMemory; calling = calling; output = output })
went_unsaid stopping s calling output g eq a out =
    let u = under_way s g eq in
    let f = g.flows in
    ends_stuck stopping ends.NoMemory s s.flow calling s.state s.stream output s.sent (flows_same s.first s.flow s.output output s.sent f out) (encoding_of a.reply)
    (record { state = s.state; rest = s.stream.rest; walked = answered s calling f u a }) tt a.under tt tt

-- the call never ran
pub went_not_run : (stopping : Bool) (s : Sight) (calling : Calling) (output : Bytes) → Going s → s.stage ≡ stages.Calling → GivesUp s.calling calling → output ≡ s.output ++ encoding_of (Error errors.Memory)
    → Turned turns.Moved stopping s (record s { stage = stages.Open; calling = calling; output = output })
went_not_run stopping s calling output g eq w out =
    let u = under_way s g eq in
    let f = g.flows in (
      record {
        flows = flows_more s.first s.flow s.output output (encoding_of (Error errors.Memory)) s.sent s.sent f refl out;
        at = (
          w.under,
          record {
            good = u.awaits.good;
            counted = u.awaits.counted;
            walked = subst (λ t. Walked t f.bytes (f.said ++ encoding_of (Error errors.Memory)) s.state s.stream.rest) (sym w.told) (asked_not_run s.calling.told f.bytes f.said u.call s.state s.stream.rest u.awaits.asked);
          },
        );
      },
      tt,
      Moves.called u.call u.under w.under (settles s (record s { stage = stages.Open; calling = calling; output = output }) eq refl refl refl),
    )

-- and the session ends by it
pub went_over : (stopping : Bool) (why : Why) (s : Sight) (calling : Calling) (output : Bytes) → Going s → s.stage ≡ stages.Calling → GivesUp s.calling calling → output ≡ s.output → MayStop why
    → ((bytes : Bytes) → Proven why bytes s.first s.flow) → Causes why stopping s (record s { stage = stages.Over why; calling = calling; output = output })
    → Turned (turns.Ended why) stopping s (record s { stage = stages.Over why; calling = calling; output = output })
went_over stopping why s calling output g eq w out may proven causes =
    let u = under_way s g eq in
    let f = g.flows in
    let asked : Asked s.calling.told f.bytes f.said u.call s.state s.stream.rest = u.awaits.asked in
    ends_stuck stopping why s s.flow calling s.state s.stream output s.sent (flows_same s.first s.flow s.output output s.sent f out) []
    (record { state = asked.state; rest = asked.behind; walked = subst (λ t. Walked t f.bytes (f.said ++ []) asked.state asked.behind) (sym w.told) (subst (λ x. Walked s.calling.told f.bytes x asked.state asked.behind) (sym (append-nil f.said)) asked.walked) })
    may w.under (proven f.bytes) causes
