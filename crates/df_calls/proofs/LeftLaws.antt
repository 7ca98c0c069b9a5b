-- What is told of the rows that a call left.
use Rattle.std.proofs.Common.{◌≡◌, ℕ, List, [], ◌∷◌, ◌++◌, refl, sym, ap, ◌∙◌, subst}
use Rattle.std.specs.Prelude.{Option, Some, None}
use Rattle.std.proofs.lemmas.List.{append_cancel_left}
use Rattle.df_model.specs.declared.command.Call.{Call}
use Rattle.df_model.specs.declared.reply.Reply.{Reply}
use Rattle.df_book.specs.Weights.{Each}
use Rattle.df_book.specs.Passes.{Caller}
use Rattle.df_book.specs.declared.draw.Draw.{Draw}
use Rattle.df_caller.specs.Told.{Told}
use Rattle.df_caller.specs.declared.caller.Went.{Went}
use Rattle.df_caller.specs.declared.caller.Went.TheVariants as went
use Rattle.df_end.specs.Calls.{Row, draws_in}
use Rattle.df_end.specs.Rounds.{CallWent}
use Rattle.df_coord.specs.Rows.{CallPassed, CallRan}
use Rattle.df_calls.specs.Left.{LeftBy, LeftNothing, LeftReply, told_in, with_told}

-- ---- the calls that were answered

with-append : (call : Call) (reply : Option Reply) (a b : List Told) → with_told call reply (a ++ b) ≡ with_told call reply a ++ b
with-append call None a b = refl
with-append call (Some reply) a b = refl

pub told-append : (a b : List Row) → told_in (a ++ b) ≡ told_in a ++ told_in b
told-append [] b = refl
told-append (r ∷ a) b = ap (with_told r.draw.call r.reply) (told-append a b) ∙ with-append r.draw.call r.reply (told_in a) (told_in b)

-- of calls that ran nothing nothing is told
pub told-nothing : (rows : List Row) → Each (λ (r : Row). r.reply ≡ None) rows → told_in rows ≡ []
told-nothing [] e = refl
told-nothing (r ∷ rows) e = ap (λ o. with_told r.draw.call o (told_in rows)) e.0 ∙ told-nothing rows e.1

each-last : (P : Row → Type 0) (rows : List Row) (r : Row) → Each P (rows ++ r ∷ []) → P r
each-last P [] r e = e.0
each-last P (x ∷ rows) r e = each-last P rows r e.1

-- the one call that ran, with its reply
pub told-reply : (shards : ℕ) (v u : Caller) (call : Call) (reply : Reply) (more : List Row) → LeftReply shards v u call reply more →
    told_in more ≡ record { call = call; reply = reply } ∷ []
told-reply shards v u call reply more l =
    ap told_in l.more_is ∙ told-append l.passed (l.last ∷ []) ∙ ap (λ t. t ++ told_in (l.last ∷ [])) (told-nothing l.passed l.nothing)
    ∙ ap (λ o. with_told l.last.draw.call o []) l.said
    ∙ ap (λ (c : Call). record { call = c; reply = reply } ∷ []) (each-last (λ (r : Row). r.draw.call ≡ call) l.passed l.last
    (subst (Each (λ (r : Row). r.draw.call ≡ call)) l.more_is l.went.calls))

-- ---- what a call left

pub went-by : (w : Went) (shards : ℕ) (v u : Caller) (call : Call) (more : List Row) → LeftBy w shards v u call more → CallWent shards v u call more
went-by went.Pending shards v u call more l = absurd l
went-by (went.Finished slip) shards v u call more l = l.1.went
went-by (went.Unsaid slip) shards v u call more l = l.1.went
went-by (went.NoMemory slip) shards v u call more l = l.went
went-by (went.Spent slip) shards v u call more l = l.went

pub left-reply : (shards : ℕ) (v u : Caller) (call : Call) (reply : Reply) (r : CallRan shards v u call reply) →
    LeftReply shards v u call reply (r.passed ++ r.last ∷ [])
left-reply shards v u call reply r = record { passed = r.passed; nothing = r.nothing; last = r.last; said = r.said; more_is = refl; went = r.went }

pub left-nothing : (shards : ℕ) (v u : Caller) (call : Call) (r : CallPassed shards v u call) → LeftNothing shards v u call r.passed
left-nothing shards v u call r = record { nothing = r.nothing; went = r.went }

-- ---- whose rows they are

-- of the same draws the first tells the call
same-first : (a b : List Row) (r : Row) (call other : Call) → Each (λ (r : Row). r.draw.call ≡ call) (a ++ r ∷ []) →
    Each (λ (r : Row). r.draw.call ≡ other) b → draws_in (a ++ r ∷ []) ≡ draws_in b → call ≡ other
same-first [] [] r call other e f is = cc
same-first [] (y ∷ b) r call other e f is = let same : r.draw ≡ y.draw = cc in sym e.0 ∙ ap (λ (d : Draw). d.call) same ∙ f.0
same-first (x ∷ a) [] r call other e f is = cc
same-first (x ∷ a) (y ∷ b) r call other e f is = let same : x.draw ≡ y.draw = cc in sym e.0 ∙ ap (λ (d : Draw). d.call) same ∙ f.0

-- whatever a call is said to have left from one pass to another: where it ran, it is that call
pub same-call : (shards : ℕ) (v u : Caller) (call other : Call) (reply : Reply) (more others : List Row) → LeftReply shards v u call reply more →
    CallWent shards v u other others → call ≡ other
same-call shards v u call other reply more others l w =
    same-first l.passed others l.last call other (subst (Each (λ (r : Row). r.draw.call ≡ call)) l.more_is l.went.calls) w.calls
    (append_cancel_left v.own (draws_in (l.passed ++ l.last ∷ [])) (draws_in others)
    (ap (λ m. v.own ++ draws_in m) (sym l.more_is) ∙ sym l.went.own ∙ w.own))
