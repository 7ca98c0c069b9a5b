-- What a request asks for is a call.
use Rattle.std.proofs.Common.{◌≡◌, ℕ, List, [], ◌∷◌, ◌++◌, refl, sym, subst}
use Rattle.std.specs.Prelude.{None}
use Rattle.std.specs.List.{flat_map, filter_map, AllByRecursion}
use Rattle.std.specs.Global.{Box}
use Rattle.df_model.specs.Values.{Bytes}
use Rattle.df_model.specs.Words.{Words}
use Rattle.df_model.specs.Outcomes.{ok}
use Rattle.df_model.specs.Replies.{encoding_of}
use Rattle.df_model.specs.Framing.{Frame, Splits, IsFrame, IsRequest, words_of}
use Rattle.df_model.specs.Calls.{IsCall}
use Rattle.df_model.specs.Session.{State}
use Rattle.df_model.specs.History.{Item}
use Rattle.df_model.specs.Output.{Walk, SessionOutput, farewell}
use Rattle.df_model.specs.declared.command.Call.{Call}
use Rattle.df_model.specs.declared.session.Why.TheVariants as ends
use Rattle.df_model.proofs.CallLaws.{calls_of_sessions}
use Rattle.df_model.proofs.FramingLaws.{splits_join}
use Rattle.df_resp.specs.Stream.{Stream}
use Rattle.df_caller.specs.Told.{Told, told_item, told_items}
use Rattle.df_caller.specs.declared.slip.Slip.{Slip}
use Rattle.df_conn.specs.Walked.{Walked, Asked}
use Rattle.df_conn.specs.Talks.{Awaits, Took}
use Rattle.df_conn.specs.Turns.{Sight, At, Going}
use Rattle.df_conn.specs.declared.conn.Stage.TheVariants as stages
use Rattle.df_conn.specs.declared.talk.Taken.TheVariants as taken
use Rattle.df_conn.proofs.TurnLaws.{at_stage}

requests_of : (frames : List Frame) → AllByRecursion IsFrame frames → AllByRecursion IsRequest (filter_map words_of frames)
requests_of [] each = tt
requests_of (Frame.Request words ∷ frames) each = (each.0, requests_of frames each.1)
requests_of (Frame.NoWords ∷ frames) each = requests_of frames each.1
requests_of (Frame.NullWords ∷ frames) each = requests_of frames each.1

last_is_call : (items : List Item) (item : Item) → AllByRecursion (λ i. IsCall i.call) (items ++ item ∷ []) → IsCall item.call
last_is_call [] item all = all.0
last_is_call (x ∷ items) item all = last_is_call items item all.1

asked_is_call : (told : List Told) (bytes said : Bytes) (call : Call) (after : State) (rest : Bytes) → Asked told bytes said call after rest → IsCall call
asked_is_call told bytes said call after rest a =
    let s : Walked told bytes said a.state a.behind = a.walked in
    let item : Item = told_item record { call = call; reply = ok } in
    let requests : List Words = s.requests ++ a.words ∷ [] in
    let splits : Splits bytes requests rest = splits_join bytes a.behind rest s.requests (a.words ∷ []) s.splits a.splits in
    let walk : Walk ends.NoMemory State.Ready requests (told_items told ++ item ∷ []) (s.replies ++ ok ∷ []) =
    s.walks ends.NoMemory (a.words ∷ []) (item ∷ []) (ok ∷ []) (Walk.called a.state a.words [] item [] [] after a.step (Walk.stopped after [] tt)) in
    let output : SessionOutput requests ends.NoMemory (told_items told ++ item ∷ []) (flat_map encoding_of (s.replies ++ ok ∷ []) ++ farewell ends.NoMemory) =
    record { replies = s.replies ++ ok ∷ []; walk = walk; out_is = refl } in
    let hold : AllByRecursion IsRequest requests = subst (AllByRecursion IsRequest) (sym splits.requests_are) (requests_of splits.frames splits.each) in
    last_is_call (told_items told) item (calls_of_sessions requests ends.NoMemory (told_items told ++ item ∷ []) (flat_map encoding_of (s.replies ++ ok ∷ []) ++ farewell ends.NoMemory) hold output)

pub took_is_call : (s : Sight) (slip : Box Slip) (state : State) (stream : Stream) (output : Bytes) (sent : ℕ) → Going s → s.stage ≡ stages.Open → Took (taken.Calls slip) s.sent sent s.state state s.stream stream s.output output → IsCall slip.value.call
took_is_call s slip state stream output sent g eq t =
    let f = g.flows in
    let at : At stages.Open s f.bytes f.said f.wrote = at_stage s stages.Open f.bytes f.said f.wrote eq g.at in
    let awaits : Awaits s.calling.told f.bytes (f.said ++ t.added) slip.value.call state stream = t.stands s.calling.told f.bytes f.said at.1 in
    asked_is_call s.calling.told f.bytes (f.said ++ t.added) slip.value.call state stream.rest awaits.asked

-- no call is under way
pub open_idle : (s : Sight) → Going s → s.stage ≡ stages.Open → s.calling.under ≡ None
open_idle s g eq =
    let f = g.flows in
    let at : At stages.Open s f.bytes f.said f.wrote = at_stage s stages.Open f.bytes f.said f.wrote eq g.at in
    at.0
