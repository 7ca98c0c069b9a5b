-- What a request makes of a connection.
use Rattle.std.proofs.Common.{◌≡◌, inl, inr, ℕ, Bool, [], ◌∷◌, ◌++◌, length, length-append, arith, refl, sym, ap, subst, append-nil}
use Rattle.std.specs.Global.{Box}
use Rattle.df_model.specs.Values.{Bytes}
use Rattle.df_model.specs.Words.{Words}
use Rattle.df_model.specs.Framing.{Splits}
use Rattle.df_model.specs.Session.{State}
use Rattle.df_model.specs.declared.session.BadKind.{BadKind}
use Rattle.df_model.specs.declared.session.Turn.TheVariants as turns
use Rattle.df_model.specs.declared.session.Why.TheVariants as ends
use Rattle.df_resp.specs.Stream.{Stream}
use Rattle.df_caller.specs.Calling.{Calling, HasBegun}
use Rattle.df_caller.specs.declared.slip.Slip.{Slip}
use Rattle.df_conn.specs.Walked.{Walked}
use Rattle.df_conn.specs.Talks.{Stands, Awaits, IsDry, Stuck, Took}
use Rattle.df_conn.specs.Turns.{Sight, At, Going, IsGoing, Moves, Turned, Rests, rank}
use Rattle.df_conn.specs.declared.conn.Stage.TheVariants as stages
use Rattle.df_conn.specs.declared.talk.Taken.TheVariants as taken
use Rattle.df_conn.proofs.TurnLaws.{flows_more, at_stage, ends_stuck}

-- the request was answered
pub took_reply : (stopping : Bool) (s : Sight) (state : State) (stream : Stream) (output : Bytes) (sent : ℕ) → Going s → s.stage ≡ stages.Open → Took taken.Replied s.sent sent s.state state s.stream stream s.output output
    → Turned turns.Moved stopping s (record s { state = state; stream = stream; output = output; sent = sent })
took_reply stopping s state stream output sent g eq t =
    let f = g.flows in
    let at : At stages.Open s f.bytes f.said f.wrote = at_stage s stages.Open f.bytes f.said f.wrote eq g.at in
    let one : (words : Words) × Splits s.stream.rest (words ∷ []) stream.rest = t.takes at.1.good in
    let next : At stages.Open (record s { state = state; stream = stream; output = output; sent = sent }) f.bytes (f.said ++ t.added) f.wrote = (at.0, t.stands s.calling.told f.bytes f.said at.1) in (
      record {
        flows = flows_more s.first s.flow s.output output t.added s.sent sent f t.sent_is t.output;
        at = subst (λ x. At x (record s { state = state; stream = stream; output = output; sent = sent }) f.bytes (f.said ++ t.added) f.wrote) (sym eq) next;
      },
      subst IsGoing (sym eq) tt,
      Moves.took one.0 one.1 refl,
    )

-- it is a call, which has begun
pub took_call : (stopping : Bool) (s : Sight) (slip : Box Slip) (calling : Calling) (state : State) (stream : Stream) (output : Bytes) (sent : ℕ) → Going s → s.stage ≡ stages.Open → Took (taken.Calls slip) s.sent sent s.state state s.stream stream s.output output
    → HasBegun s.calling calling slip.value.call → Turned turns.Moved stopping s (record s { stage = stages.Calling; calling = calling; state = state; stream = stream; output = output; sent = sent })
took_call stopping s slip calling state stream output sent g eq t b =
    let f = g.flows in
    let at : At stages.Open s f.bytes f.said f.wrote = at_stage s stages.Open f.bytes f.said f.wrote eq g.at in
    let one : (words : Words) × Splits s.stream.rest (words ∷ []) stream.rest = t.takes at.1.good in
    let awaits : Awaits s.calling.told f.bytes (f.said ++ t.added) slip.value.call state stream = t.stands s.calling.told f.bytes f.said at.1 in (
      record {
        flows = flows_more s.first s.flow s.output output t.added s.sent sent f t.sent_is t.output;
        at = (slip.value.call, b.under, subst (λ told. Awaits told f.bytes (f.said ++ t.added) slip.value.call state stream) (sym b.told) awaits);
      },
      tt,
      Moves.took one.0 one.1 refl,
    )

-- QUIT
pub took_quit : (stopping : Bool) (s : Sight) (state : State) (stream : Stream) (output : Bytes) (sent : ℕ) → Going s → s.stage ≡ stages.Open → Took taken.Quit s.sent sent s.state state s.stream stream s.output output
    → Turned turns.Moved stopping s (record s { stage = stages.Closing ends.Quit; state = state; stream = stream; output = output; sent = sent })
took_quit stopping s state stream output sent g eq t =
    let f = g.flows in
    let at : At stages.Open s f.bytes f.said f.wrote = at_stage s stages.Open f.bytes f.said f.wrote eq g.at in
    let one : (words : Words) × Splits s.stream.rest (words ∷ []) stream.rest = t.takes at.1.good in (
      record {
        flows = flows_more s.first s.flow s.output output t.added s.sent sent f t.sent_is t.output;
        at = (at.0, t.stands s.calling.told f.bytes f.said at.1, tt, tt);
      },
      tt,
      Moves.took one.0 one.1 refl,
    )

-- SHUTDOWN
pub took_asked : (stopping : Bool) (s : Sight) (state : State) (stream : Stream) (output : Bytes) (sent : ℕ) → Going s → s.stage ≡ stages.Open → Took taken.Asked s.sent sent s.state state s.stream stream s.output output
    → Turned turns.Moved stopping s (record s { stage = stages.Closing ends.Asked; state = state; stream = stream; output = output; sent = sent })
took_asked stopping s state stream output sent g eq t =
    let f = g.flows in
    let at : At stages.Open s f.bytes f.said f.wrote = at_stage s stages.Open f.bytes f.said f.wrote eq g.at in
    let one : (words : Words) × Splits s.stream.rest (words ∷ []) stream.rest = t.takes at.1.good in (
      record {
        flows = flows_more s.first s.flow s.output output t.added s.sent sent f t.sent_is t.output;
        at = (at.0, t.stands s.calling.told f.bytes f.said at.1, tt, tt);
      },
      tt,
      Moves.took one.0 one.1 refl,
    )

-- none is whole
pub took_dry : (s : Sight) (state : State) (stream : Stream) (output : Bytes) (sent : ℕ) → Going s → s.stage ≡ stages.Open → Took taken.Dry s.sent sent s.state state s.stream stream s.output output
    → Rests s.stage s (record s { state = state; stream = stream; output = output; sent = sent })
took_dry s state stream output sent g eq t =
    let f = g.flows in
    let at : At stages.Open s f.bytes f.said f.wrote = at_stage s stages.Open f.bytes f.said f.wrote eq g.at in
    let two : Stands s.calling.told f.bytes (f.said ++ t.added) state stream × IsDry f.bytes stream = t.stands s.calling.told f.bytes f.said at.1 in
    let next : At stages.Open (record s { state = state; stream = stream; output = output; sent = sent }) f.bytes (f.said ++ t.added) f.wrote = (at.0, two.0) in
    subst (λ x. Rests x s (record s { state = state; stream = stream; output = output; sent = sent })) (sym eq) (
      (
        record {
          flows = flows_more s.first s.flow s.output output t.added s.sent sent f t.sent_is t.output;
          at = subst (λ x. At x (record s { state = state; stream = stream; output = output; sent = sent }) f.bytes (f.said ++ t.added) f.wrote) (sym eq) next;
        },
        two.1,
      ),
      eq,
      refl,
      refl,
      t.takes at.1.good,
      inr (omega arith, omega (arith, t.sent_is, ap length t.output, length-append s.output t.added, ap length t.adds)),
    )

-- the input is bad
pub took_bad_input : (s : Sight) (kind : BadKind) (at : ℕ) (state : State) (stream : Stream) (output : Bytes) (sent : ℕ) → Going s → s.stage ≡ stages.Open → Took (taken.Bad kind at) s.sent sent s.state state s.stream stream s.output output
    → Rests (stages.Closing (ends.Protocol kind at)) s (record s { stage = stages.Closing (ends.Protocol kind at); state = state; stream = stream; output = output; sent = sent })
took_bad_input s kind place state stream output sent g eq t =
    let f = g.flows in
    let at : At stages.Open s f.bytes f.said f.wrote = at_stage s stages.Open f.bytes f.said f.wrote eq g.at in
    let two = t.stands s.calling.told f.bytes f.said at.1 in (
      record {
        flows = flows_more s.first s.flow s.output output t.added s.sent sent f t.sent_is t.output;
        at = (at.0, two.0, two.1, tt);
      },
      refl,
      refl,
      t.takes at.1.good,
      inl (omega (arith, ap rank eq)),
    )

-- memory ran out
pub took_nothing : (stopping : Bool) (s : Sight) (state : State) (stream : Stream) (output : Bytes) (sent : ℕ) → Going s → s.stage ≡ stages.Open → Took taken.NoMemory s.sent sent s.state state s.stream stream s.output output
    → Turned (turns.Ended ends.NoMemory) stopping s (record s { stage = stages.Over ends.NoMemory; state = state; stream = stream; output = output; sent = sent })
took_nothing stopping s state stream output sent g eq t =
    let f = g.flows in
    let at : At stages.Open s f.bytes f.said f.wrote = at_stage s stages.Open f.bytes f.said f.wrote eq g.at in
    let st : Stuck s.calling.told f.bytes (f.said ++ t.added) = t.stands s.calling.told f.bytes f.said at.1 in
    let stuck : Stuck s.calling.told f.bytes ((f.said ++ t.added) ++ []) = record { state = st.state; rest = st.rest; walked = subst (λ x. Walked s.calling.told f.bytes x st.state st.rest) (sym (append-nil (f.said ++ t.added))) st.walked } in
    ends_stuck stopping ends.NoMemory s s.flow s.calling state stream output sent (flows_more s.first s.flow s.output output t.added s.sent sent f t.sent_is t.output) [] stuck tt at.0 tt tt
