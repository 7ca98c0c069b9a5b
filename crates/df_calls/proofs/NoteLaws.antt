-- A step as a connection sees it, and what is kept of the call behind it.
use Rattle.std.proofs.Common.{◌≡◌, ℕ, ◌<◌, true, false, List, [], ◌∷◌, ◌++◌, refl, sym, ap, ◌∙◌, subst, arith, append-nil}
use Rattle.df_model.specs.Replies.{encoding_of}
use Rattle.df_model.specs.declared.command.Call.{Call}
use Rattle.df_model.specs.declared.reply.Reply.{Reply}
use Rattle.df_book.specs.Weights.{head_or}
use Rattle.df_book.specs.Passes.{BookName, Caller}
use Rattle.df_caller.specs.Calling.{Answers, Calling, GivesUp, Steps}
use Rattle.df_caller.specs.declared.caller.Went.{Went}
use Rattle.df_caller.specs.declared.caller.Went.TheVariants as went
use Rattle.df_end.specs.Calls.{Row}
use Rattle.df_end.specs.Rounds.{CallWent}
use Rattle.df_end.specs.Sessions.{SessionHolds}
use Rattle.df_end.proofs.RoundLaws.{sessions_go_on}
use Rattle.df_calls.specs.Calling.{Ended, RunsHold, SteppedTo, is_pending, pass_in, under_in}
use Rattle.df_calls.specs.Left.{LeftBy, LeftReply, told_in}
use Rattle.df_calls.specs.declared.runs.Runs.{Runs}
use Rattle.df_calls.proofs.LeftLaws.{left-nothing, left-reply, same-call, told-append, told-nothing, told-reply, went-by}

-- ---- whether it goes on

pub pends : (w : Went) (z : BookName) (shards : ℕ) (v : Caller) (old new : Runs) → is_pending w ≡ true → SteppedTo w z shards v old new →
    (w ≡ went.Pending) × RunsHold z shards v new × (under_in new ≡ under_in old)
pends went.Pending z shards v old new e s = (refl, s.0, s.1)
pends (went.Finished slip) z shards v old new e s = cc
pends (went.Unsaid slip) z shards v old new e s = cc
pends (went.NoMemory slip) z shards v old new e s = cc
pends (went.Spent slip) z shards v old new e s = cc

pub ends : (w : Went) (z : BookName) (shards : ℕ) (v : Caller) (old new : Runs) → is_pending w ≡ false → SteppedTo w z shards v old new →
    Ended w z shards v old new
ends went.Pending z shards v old new e s = cc
ends (went.Finished slip) z shards v old new e s = record {
  call = s.0;
  was = s.2.was;
  more = s.3.passed ++ s.3.last ∷ [];
  left = (s.1, left-reply shards v (pass_in v new) s.0 s.1 s.3, s.4);
  idle = s.2.idle;
  holds = s.2.holds;
}
ends (went.Unsaid slip) z shards v old new e s = record {
  call = s.0;
  was = s.2.was;
  more = s.3.passed ++ s.3.last ∷ [];
  left = (s.1, left-reply shards v (pass_in v new) s.0 s.1 s.3);
  idle = s.2.idle;
  holds = s.2.holds;
}
ends (went.NoMemory slip) z shards v old new e s = record {
  call = s.0;
  was = s.1.was;
  more = s.2.passed;
  left = left-nothing shards v (pass_in v new) s.0 s.2;
  idle = s.1.idle;
  holds = s.1.holds;
}
ends (went.Spent slip) z shards v old new e s = record {
  call = s.0;
  was = s.1.was;
  more = s.2.passed;
  left = left-nothing shards v (pass_in v new) s.0 s.2;
  idle = s.1.idle;
  holds = s.1.holds;
}

-- ---- the session

-- it goes on by the call
pub session-goes : (w : Went) (shards : ℕ) (v u : Caller) (call : Call) (rows more now : List Row) → 0 < shards →
    SessionHolds shards (head_or 0 v.sessions) v rows → LeftBy w shards v u call more → now ≡ rows ++ more →
    SessionHolds shards (head_or 0 u.sessions) u now
session-goes w shards v u call rows more now some h l e =
    let c : CallWent shards v u call more = went-by w shards v u call more l in
    subst (λ x. SessionHolds shards (head_or 0 x) u now) (sym c.place)
    (subst (SessionHolds shards (head_or 0 v.sessions) u) (sym e) (sessions_go_on shards (head_or 0 v.sessions) v u rows more call some h c))

-- ---- as a connection sees it

module _ (z : BookName) (shards : ℕ) (v u : Caller) (old new : Runs) (rows now : List Row) (stalls : ℕ) (pass : u ≡ pass_in v new) where
  abbrev pub was : Calling
  was = record { told = told_in rows; under = under_in old; stalls = stalls; due = false }

  abbrev pub is : Calling
  is = record { told = told_in now; under = under_in new; stalls = stalls; due = false }

  -- the call that is noted is the one that was under way, if it ran
  answered : (w : Went) (o : Ended w z shards v old new) (call : Call) (more : List Row) (reply : Reply) →
      LeftReply shards v u call reply more → now ≡ rows ++ more → (a : Answers was is) × (a.reply ≡ reply)
  answered w o call more reply l e =
      let there : CallWent shards v u o.call o.more = subst (λ p. CallWent shards v p o.call o.more) (sym pass) (went-by w shards v (pass_in v new) o.call o.more o.left) in
      let same : call ≡ o.call = same-call shards v u call o.call reply more o.more l there in (
        record {
          call = o.call;
          was = o.was;
          reply = reply;
          told = ap told_in e ∙ told-append rows more ∙ ap (λ t. told_in rows ++ t) (told-reply shards v u call reply more l)
              ∙ ap (λ (c : Call). told_in rows ++ record { call = c; reply = reply } ∷ []) same;
          under = o.idle;
          stalls = omega arith;
        },
        refl,
      )

  -- nothing is told of a call that never ran
  gave-up : (w : Went) (o : Ended w z shards v old new) (more : List Row) → told_in more ≡ [] → now ≡ rows ++ more → GivesUp was is
  gave-up w o more none e = record {
    told = ap told_in e ∙ told-append rows more ∙ ap (λ t. told_in rows ++ t) none ∙ append-nil (told_in rows);
    under = o.idle;
    stalls = omega arith;
  }

  pub steps-so : (w : Went) → Ended w z shards v old new → (call : Call) (more : List Row) → LeftBy w shards v u call more → now ≡ rows ++ more → Steps w was is
  steps-so went.Pending o call more l e = absurd l
  steps-so (went.Finished slip) o call more l e =
      let a = answered (went.Finished slip) o call more l.0 l.1 e in (a.0, l.2 ∙ ap encoding_of (sym a.1))
  steps-so (went.Unsaid slip) o call more l e = (answered (went.Unsaid slip) o call more l.0 l.1 e).0
  steps-so (went.NoMemory slip) o call more l e = gave-up (went.NoMemory slip) o more (told-nothing more l.nothing) e
  steps-so (went.Spent slip) o call more l e = gave-up (went.Spent slip) o more (told-nothing more l.nothing) e
