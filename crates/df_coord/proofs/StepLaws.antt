-- A step of what runs calls of one hop.
use Rattle.std.proofs.Common.{◌≡◌, ◌≢◌, ℕ, zero, suc, true, is_some, ◌&&◌, List, [], ◌∷◌, ◌++◌, refl, sym, ap, ◌∙◌, subst, append-nil}
use Rattle.std.specs.Prelude.{Option, Some, None, ◌==◌, get_or, set}
use Rattle.std.proofs.lemmas.Bool.{false≢true, and_parts, eqb-true}
use Rattle.std.proofs.lemmas.List.{get_or-set_other}
use mathlib.Core.Logic.{dite}
use native.Mathlib.Decide.{ℕ_discrete}
use Rattle.df_model.specs.declared.command.Call.{Call}
use Rattle.df_model.specs.declared.reply.Reply.{Reply}
use Rattle.df_core.specs.Done.{want_of_memory}
use Rattle.df_book.specs.Draws.{Bounded}
use Rattle.df_book.specs.Passes.{Caller}
use Rattle.df_book.proofs.Logs.{within-refl}
use Rattle.df_book.proofs.Sums.{Each-append}
use Rattle.df_end.specs.Calls.{Row}
use Rattle.df_end.specs.Rounds.{CallWent}
use Rattle.df_rounds.specs.Between.{row_of}
use Rattle.df_rounds.proofs.BetweenLaws.{calls_draw_again}
use Rattle.df_hops.specs.declared.answer.Answer.{Answer}
use Rattle.df_caller.specs.declared.caller.Went.{Went}
use Rattle.df_caller.specs.declared.caller.Went.TheVariants as went
use Rattle.df_post.specs.Fits.{fits, is_of}
use Rattle.df_post.specs.Postings.{Posting, IsIdle, Took}
use Rattle.df_post.specs.declared.awaited.Awaited.{Awaited}
use Rattle.df_post.specs.declared.awaited.Kind.TheVariants as kinds
use Rattle.df_coord.specs.Asking.{awaited_for}
use Rattle.df_coord.specs.Rows.{CallPassed, CallRan}
use Rattle.df_coord.specs.OneHops.{AwaitsAlone, Replied, Says, Seen, StandsAs, Stepped, under}
use Rattle.df_coord.specs.declared.state.State.{State}
use Rattle.df_coord.specs.declared.state.State.TheVariants as states
use Rattle.df_coord.proofs.FoundLaws.{fits-hop}

-- ---- what its draws left

-- nothing was drawn
pub passed-none : (shards : ℕ) (v : Caller) (call : Call) → Bounded v.own v.made v.seen → CallPassed shards v v call
passed-none shards v call bounded = record {
  passed = [];
  nothing = tt;
  went = record {
    place = refl;
    own = sym (append-nil v.own);
    made = [];
    made_is = sym (append-nil v.made);
    made_own = tt;
    within = within-refl v.seen;
    bounded = bounded;
    calls = tt;
    session = tt;
    floor = tt;
    above = tt;
    follow = tt;
    left = tt;
  };
}

-- it was drawn once more, and ran
pub ran-again : (shards : ℕ) (before drawer w : Caller) (call : Call) (n : ℕ) (reply : Reply) → CallPassed shards before drawer call →
    CallWent shards drawer w call (row_of drawer call n (Some reply) ∷ []) → CallRan shards before w call reply
ran-again shards before drawer w call n reply p went = record {
  passed = p.passed;
  nothing = p.nothing;
  last = row_of drawer call n (Some reply);
  said = refl;
  went = calls_draw_again shards before drawer w call p.passed (row_of drawer call n (Some reply) ∷ []) p.went p.nothing went;
}

-- it was drawn once more, and ran nothing again
pub passed-again : (shards : ℕ) (before drawer w : Caller) (call : Call) (n : ℕ) → CallPassed shards before drawer call →
    CallWent shards drawer w call (row_of drawer call n None ∷ []) → CallPassed shards before w call
passed-again shards before drawer w call n p went = record {
  passed = p.passed ++ row_of drawer call n None ∷ [];
  nothing = Each-append (λ (r : Row). r.reply ≡ None) p.passed (row_of drawer call n None ∷ []) p.nothing (refl, tt);
  went = calls_draw_again shards before drawer w call p.passed (row_of drawer call n None ∷ []) p.went p.nothing went;
}

-- ---- the way to the shards

pub idle-so : (state : State) (x : Seen) → under state ≡ None → StandsAs state x → IsIdle x.posting
idle-so states.Idle x none stands = stands
idle-so (states.Due slip s hash) x none stands = absurd (false≢true (sym (ap is_some none)))
idle-so (states.Unsent m hash call) x none stands = absurd (false≢true (sym (ap is_some none)))
idle-so (states.Sent n s hash call) x none stands = absurd (false≢true (sym (ap is_some none)))

none-set : (l : List (Option Awaited)) (s : ℕ) → get_or (set l s None) s None ≡ None
none-set [] s = refl
none-set (a ∷ l) zero = refl
none-set (a ∷ l) (suc s) = none-set l s

-- the answer that came, where nothing else awaited one
pub took-so : (old new : Posting) (s n : ℕ) (answer : Answer) → AwaitsAlone s (awaited_for n) old → Took old new s answer →
    (answer.number ≡ n) × (answer.shard ≡ s) × IsIdle new
took-so old new s n answer alone t =
    let both : Some t.awaited ≡ Some (awaited_for n) = sym t.was ∙ alone.0 in
    let same : t.awaited ≡ awaited_for n = cc in
    let fit = subst (λ a. fits a s answer ≡ true) same t.fit in
    let first = and_parts (answer.shard == s) ((answer.number == n) && ((answer.hop == 0) && is_of kinds.Quick answer.body)) fit in (
      (fits-hop n s answer fit).0,
      eqb-true answer.shard s first.0,
      λ i. ap (λ l. get_or l i None) t.awaits ∙ dite (ℕ_discrete i s)
          (λ (e : i ≡ s). ap (λ j. get_or (set old.awaits s None) j None) e ∙ none-set old.awaits s)
          (λ (ne : i ≢ s). get_or-set_other old.awaits s i None None ne ∙ alone.1 i ne),
    )

-- ---- what is said

pub says-so : (old new : Seen) (call : Call) (said : Went) → Says said → Replied old new call want_of_memory → Stepped said old new
says-so old new call went.Pending s r = absurd s
says-so old new call (went.Finished slip) s r = (call, want_of_memory, r, s)
says-so old new call (went.Unsaid slip) s r = (call, want_of_memory, r)
says-so old new call (went.NoMemory slip) s r = absurd s
says-so old new call (went.Spent slip) s r = absurd s
