-- A connection at its start.
use Rattle.std.proofs.Common.{◌≡◌, ℕ, ◌≤◌, [], length, take, refl, sym, ap, subst, arith}
use Rattle.std.specs.Prelude.{None}
use Rattle.std.specs.Io.KnownBytes.{Appends}
use Rattle.std.proofs.KnownBytes.{Appends-nil}
use Rattle.df_model.specs.Values.{Bytes}
use Rattle.df_model.specs.Session.{State}
use Rattle.df_model.specs.Spoken.{MAX_OPEN}
use Rattle.df_model.specs.declared.session.Why.TheVariants as ends
use Rattle.df_outside.specs.Links.{Flow, Spends}
use Rattle.df_resp.specs.Stream.{Stream}
use Rattle.df_caller.specs.Calling.{Calling}
use Rattle.df_conn.specs.Walked.{Walked}
use Rattle.df_conn.specs.Turns.{Going, Flows, turned_away_line}
use Rattle.df_conn.specs.declared.conn.Stage.TheVariants as stages
use Rattle.df_conn.proofs.FlowLaws.{spends_none}
use Rattle.df_conn.proofs.WalkLaws.{walked_none}

-- nothing was taken or written yet
abbrev starts_flows : (first flow : Flow) (output : Bytes) (sent : ℕ) → first ≡ flow → sent ≡ 0 → Flows first flow output sent
starts_flows first flow output sent same zero = record {
  bytes = [];
  wrote = [];
  said = output;
  gone = [];
  taken = subst (λ f. Appends f.taken flow.taken []) (sym same) (Appends-nil flow.taken);
  written = subst (λ f. Appends f.written flow.written []) (sym same) (Appends-nil flow.written);
  read_faults = omega (arith, ap (λ f. f.read_faults) same);
  write_faults = omega (arith, ap (λ f. f.write_faults) same);
  left = subst (λ f. Spends f.left flow.left 0) (sym same) (spends_none flow.left);
  within = omega (arith, zero);
  said_is = refl;
  wrote_is = sym (ap (λ n. take n output) zero);
}

pub starts_going : (id : ℕ) (calling : Calling) (first flow : Flow) (state : State) (stream : Stream) (output : Bytes) (sent : ℕ) → calling.under ≡ None → calling.told ≡ [] → first ≡ flow → state ≡ State.Ready →
    stream.rest ≡ [] → stream.before ≡ 0 → stream.failed ≡ None → output ≡ [] → sent ≡ 0 →
    Going record { id = id; stage = stages.Open; calling = calling; first = first; flow = flow; state = state; stream = stream; output = output; sent = sent }
starts_going id calling first flow state stream output sent idle none same ready rest before good out zero = record {
  flows = starts_flows first flow output sent same zero;
  at = (
    idle,
    record {
      good = good;
      counted = omega (arith, before, ap length rest);
      walked = subst (λ t. Walked t [] output state stream.rest) (sym none) (subst (λ x. Walked [] [] output x stream.rest) (sym ready) (subst (λ x. Walked [] [] x State.Ready stream.rest) (sym out) (subst (Walked [] [] [] State.Ready) (sym rest) walked_none)));
    },
  );
}

-- it is turned away
pub starts_away : (id : ℕ) (calling : Calling) (first flow : Flow) (state : State) (stream : Stream) (output : Bytes) (sent : ℕ) → calling.under ≡ None → calling.told ≡ [] → first ≡ flow → MAX_OPEN ≤ id →
    output ≡ turned_away_line → sent ≡ 0 →
    Going record { id = id; stage = stages.Closing ends.TooMany; calling = calling; first = first; flow = flow; state = state; stream = stream; output = output; sent = sent }
starts_away id calling first flow state stream output sent idle none same late line zero = record {
  flows = starts_flows first flow output sent same zero;
  at = (idle, record { late = late; nothing = refl; none = none; line = line }, tt, tt);
}
