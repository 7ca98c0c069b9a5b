-- What a session over a source and a sink came to.
use Rattle.std.proofs.Common.{◌≡◌, inl, inr, ℕ, zero, suc, ◌+◌, ◌<◌, ◌≤◌, eqb, Bool, true, false, List, [], length, refl, sym, ap, subst, arith}
use Rattle.std.specs.Io.KnownBytes.{Appends}
use Rattle.std.proofs.KnownBytes.{Appends-nil}
use Rattle.std.proofs.lemmas.Bool.{eqb-true, eqb-false}
use Rattle.std.proofs.lemmas.Grind.{common_steps}
use Rattle.df_model.specs.Values.{Bytes}
use Rattle.df_model.specs.Words.{Words}
use Rattle.df_model.specs.Keyspace.{no_keys}
use Rattle.df_model.specs.BadInput.{BadAt}
use Rattle.df_model.specs.Session.{State, without_memory}
use Rattle.df_model.specs.History.{Item}
use Rattle.df_model.specs.Output.{Walk, SessionOutput}
use Rattle.df_model.specs.Spoken as spoken
use Rattle.df_model.specs.Spoken.{Session, WritesAll}
use Rattle.df_model.specs.declared.reply.Reply.{Reply}
use Rattle.df_model.specs.declared.session.BadKind.{BadKind}
use Rattle.df_model.specs.declared.session.Why.{Why}
use Rattle.df_model.specs.declared.session.Why.TheVariants as ends
use Rattle.df_model.proofs.FramingLaws.{no_split}
use Rattle.df_resp.proofs.RestLaws.{more_not_whole}
use Rattle.df_outside.specs.Faults.{Rose}
use Rattle.df_outside.specs.Links.{Flow, Spends}
use Rattle.df_outside.specs.PairLinks.{PairState, IsPair, counted, pair_flow}
use Rattle.df_outside.specs.Streams.{Inflow, Outflow}
use Rattle.df_conn.specs.Talks.{BadNear}
use Rattle.df_conn.specs.Turns.{Proven, session_of}
use Rattle.df_sessions.specs.Sessions.{Parted, HasSpoken}
use Rattle.df_server.specs.Promise.{Run, INPUT_LIMIT, Ends, CutsOff, Shows, PipePromise}
use Rattle.df_server.specs.Alone.{ServedAlone, status_for, told_end}

-- ---- a session that never began

pub none_began : (input : Inflow) (output : Outflow) → PipePromise record { status = 4; input_before = input; input = input; output_before = output; output = output }
none_began input output = (
  ends.NoMemory,
  record {
    bytes = [];
    wrote = [];
    taken = Appends-nil input.taken;
    bounded = omega arith;
    written = Appends-nil output.written;
    requests = [];
    rest = [];
    framed = record { splits = no_split []; no_whole = more_not_whole [] refl };
    items = [];
    legal = (no_keys, refl);
    ordered = record { rises = tt; sees_its_own = tt };
    numbered = tt;
    shown = ends.NoMemory;
    shows = inl refl;
    out = [];
    output = record { replies = []; walk = Walk.stopped State.Ready [] tt; out_is = refl };
    unsent = [];
    front = refl;
    ends = refl;
  },
)

-- ---- the end as the promise tells it

walk_told : (state : State) (requests : List Words) (items : List Item) (replies : List Reply) → Walk ends.Spent state requests items replies → Walk ends.NoMemory state requests items replies
walk_told _ _ _ _ (Walk.done state last) = absurd last
walk_told _ _ _ _ (Walk.stopped state requests may) = Walk.stopped state requests tt
walk_told _ _ _ _ (Walk.parted state words requests reply after step how) = Walk.parted state words requests reply after step (inr tt)
walk_told _ _ _ _ (Walk.left state words requests after step how) = Walk.left state words requests after step (inr tt)
walk_told _ _ _ _ (Walk.replied state words requests items reply replies after step walk) = Walk.replied state words requests items reply replies after step (walk_told after requests items replies walk)
walk_told _ _ _ _ (Walk.called state words requests item items replies after step walk) = Walk.called state words requests item items replies after step (walk_told after requests items replies walk)
walk_told _ _ _ _ (Walk.not_run state words requests items replies call after step walk) = Walk.not_run state words requests items replies call after step (walk_told after requests items replies walk)
walk_told _ _ _ _ (Walk.not_taken state words requests items replies walk) = Walk.not_taken state words requests items replies (walk_told (without_memory state) requests items replies walk)
walk_told _ _ _ _ (Walk.turned_away state is) = absurd (cc is)

output_told : (end : Why) (requests : List Words) (items : List Item) (out : Bytes) → SessionOutput requests end items out → SessionOutput requests (told_end end) items out
output_told ends.InputEnd requests items out o = o
output_told ends.Quit requests items out o = o
output_told ends.Asked requests items out o = o
output_told ends.Stopped requests items out o = o
output_told (ends.Protocol kind at) requests items out o = o
output_told ends.ReadFault requests items out o = o
output_told ends.WriteFault requests items out o = o
output_told ends.TooMany requests items out o = o
output_told ends.Spent requests items out o = record { replies = o.replies; walk = walk_told State.Ready requests items o.replies o.walk; out_is = o.out_is }
output_told ends.NoMemory requests items out o = o

cuts_told : (why : Why) → (why ≡ ends.Stopped → ⊥) → spoken.CutsOff why → CutsOff (told_end why)
cuts_told ends.InputEnd never cuts = absurd cuts
cuts_told ends.Quit never cuts = absurd cuts
cuts_told ends.Asked never cuts = absurd cuts
cuts_told ends.Stopped never cuts = absurd (never refl)
cuts_told (ends.Protocol kind at) never cuts = absurd cuts
cuts_told ends.ReadFault never cuts = absurd cuts
cuts_told ends.WriteFault never cuts = tt
cuts_told ends.TooMany never cuts = absurd cuts
cuts_told ends.Spent never cuts = absurd cuts
cuts_told ends.NoMemory never cuts = tt

-- a pipe's session is the first
shows_told : (why shown : Why) (bytes wrote : Bytes) → (why ≡ ends.Stopped → ⊥) → spoken.Shows (session_of 0 why bytes wrote) shown → Shows (told_end why) bytes (told_end shown)
shows_told why shown bytes wrote never shows =
    elim shows [
      | inl same ↦ inl (ap told_end same)
      | inr (inl cut) ↦ inr (cuts_told why never cut.0, (cut.1.0, (cut.1.1, (cut.1.2, ap told_end cut.1.3))))
      | inr (inr many) ↦ absurd (omega (arith, many.2))
    ]

-- ---- the status and its cause

abbrev run_of : ℕ → PairState → PairState → Run
run_of status before now = record { status = status; input_before = before.input; input = now.input; output_before = before.output; output = now.output }

-- below the limit of input the code counts each place
bad_at : (bytes : Bytes) (at : ℕ) (kind : BadKind) → length bytes ≤ INPUT_LIMIT → BadNear bytes at kind → BadAt bytes at kind
bad_at bytes at kind within near =
    let at_is : at ≡ near.place = omega (arith, near.at_is, near.bad.within, within) in
    subst (λ n. BadAt bytes n kind) (sym at_is) near.bad

rose_alone : (a b : ℕ) → Rose (counted a) (counted b) → Rose a b
rose_alone a b rose = grind (arith, common_steps)

rose_more : (a b r s : ℕ) → r ≡ 0 → s ≡ 0 → Rose (counted (a + r)) (counted (b + s)) → Rose a b
rose_more a b r s at_first at_last rose =
    let before : a + r ≡ a = omega (arith, at_first) in
    let now : b + s ≡ b = omega (arith, at_last) in
    rose_alone a b (subst (λ n. Rose (counted a) (counted n)) now (subst (λ n. Rose (counted n) (counted (b + s))) before rose))

some_of : (n : ℕ) → (n ≡ 0 → ⊥) → 0 < n
some_of zero never = absurd (never refl)
some_of (suc n) never = omega arith

read_case : (spent : Bool) (bytes unsent : Bytes) (before now : PairState) → eqb now.left 0 ≡ spent → before.left ≡ INPUT_LIMIT → before.refused ≡ 0 → IsPair now → now.left + length bytes ≡ before.left → Proven ends.ReadFault bytes (pair_flow before) (pair_flow now)
    → Ends ends.ReadFault bytes unsent (run_of (status_for ends.ReadFault spent) before now)
read_case true bytes unsent before now is limit none pair left p = inr (refl, omega (arith, left, limit, eqb-true now.left 0 is), p.1)
read_case false bytes unsent before now is limit none pair left p =
    let some : 0 < now.left = some_of now.left (eqb-false now.left 0 is) in
    inl (refl, omega (arith, left, limit, some), rose_more before.input.faults now.input.faults before.refused now.refused none (pair.refuses some) p.0)

cause_told : (why : Why) (bytes unsent : Bytes) (before now : PairState) → before.left ≡ INPUT_LIMIT → before.refused ≡ 0 → IsPair now → now.left + length bytes ≡ before.left → Proven why bytes (pair_flow before) (pair_flow now)
    → (WritesAll why → unsent ≡ []) → (why ≡ ends.Stopped → ⊥) → (why ≡ ends.TooMany → ⊥) → Ends (told_end why) bytes unsent (run_of (status_for why (eqb now.left 0)) before now)
cause_told ends.InputEnd bytes unsent before now limit none pair left p all never enters = (refl, p.0, p.1, all tt)
cause_told ends.Quit bytes unsent before now limit none pair left p all never enters = (refl, all tt)
cause_told ends.Asked bytes unsent before now limit none pair left p all never enters = (refl, all tt)
cause_told ends.Stopped bytes unsent before now limit none pair left p all never enters = absurd (never refl)
cause_told (ends.Protocol kind at) bytes unsent before now limit none pair left p all never enters = (refl, bad_at bytes at kind (omega (arith, left, limit)) p, all tt)
cause_told ends.ReadFault bytes unsent before now limit none pair left p all never enters = read_case (eqb now.left 0) bytes unsent before now refl limit none pair left p
cause_told ends.WriteFault bytes unsent before now limit none pair left p all never enters = (refl, rose_alone before.output.faults now.output.faults p)
cause_told ends.TooMany bytes unsent before now limit none pair left p all never enters = absurd (enters refl)
cause_told ends.Spent bytes unsent before now limit none pair left p all never enters = refl
cause_told ends.NoMemory bytes unsent before now limit none pair left p all never enters = refl

-- what went over its link
record Went (first now : Flow) (why : Why) (bytes wrote : Bytes) : Type 0 where
  taken : Appends first.taken now.taken bytes
  written : Appends first.written now.written wrote
  left : Spends first.left now.left (length bytes)
  proven : Proven why bytes first now

went : (p : Parted) (x : HasSpoken p) → Went p.first p.flow p.why x.bytes x.wrote
went p x = record { taken = x.taken; written = x.written; left = x.left; proven = x.proven }

pub pipe_promise : (before now : PairState) (p : Parted) (status : ℕ) → before.left ≡ INPUT_LIMIT → before.refused ≡ 0 → IsPair now → ServedAlone (pair_flow before) p → p.flow ≡ pair_flow now → status ≡ status_for p.why (eqb now.left 0) → PipePromise (run_of status before now)
pipe_promise before now p status limit none pair s flow is =
    let x = s.spoken in
    let w : Went (pair_flow before) (pair_flow now) p.why x.bytes x.wrote =
    subst (λ f. Went f (pair_flow now) p.why x.bytes x.wrote) s.first_is (subst (λ f. Went p.first f p.why x.bytes x.wrote) flow (went p x)) in (
      told_end p.why,
      record {
        bytes = x.bytes;
        wrote = x.wrote;
        taken = w.taken;
        bounded = omega (arith, w.left, limit);
        written = w.written;
        requests = s.spoke.requests;
        rest = s.spoke.rest;
        framed = s.spoke.framed;
        items = s.items;
        legal = s.legal;
        ordered = s.ordered;
        numbered = s.numbered;
        shown = told_end s.spoke.shown;
        shows = shows_told p.why s.spoke.shown x.bytes x.wrote s.not_stopped s.spoke.shows;
        out = s.spoke.out;
        output = output_told s.spoke.shown s.spoke.requests s.items s.spoke.out s.spoke.output;
        unsent = s.spoke.unsent;
        front = s.spoke.front;
        ends = subst (λ n. Ends (told_end p.why) x.bytes s.spoke.unsent (run_of n before now)) (sym is) (cause_told p.why x.bytes s.spoke.unsent before now limit none pair w.left w.proven s.spoke.whole s.not_stopped s.let_in);
      },
    )
