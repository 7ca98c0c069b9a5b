-- A call of many hops from its draw to what it leaves.
use Rattle.std.proofs.Common.{◌≡◌, ℕ, ◌+◌, ◌<◌, false, cond, is_some, length, List, [], ◌∷◌, ◌++◌, refl, sym, ap, ◌∙◌, subst, arith, length-append}
use Rattle.std.specs.Prelude.{None}
use Rattle.std.proofs.lemmas.Bool.{false≢true, eq-eqb, ne_eqb}
use Rattle.df_model.specs.declared.command.Command.{Command}
use Rattle.df_model.specs.declared.command.Call.{Call}
use Rattle.df_log.specs.Acts.{Told}
use Rattle.df_core.specs.History.{NamesAShard}
use Rattle.df_book.specs.Weights.{Each}
use Rattle.df_book.specs.Draws.{call_at, draws_of, last_number}
use Rattle.df_book.specs.Passes.{Caller, after_draw, draw_by}
use Rattle.df_book.specs.declared.draw.Draw.{Draw}
use Rattle.df_rounds.specs.Standing.{Standing, Fresh, Once, Twice, Thrice, AllMayBeTold, then_told}
use Rattle.df_rounds.specs.Progress.{Progress, GoesOn, IsReachedIn, after_round, asks_in, asks_next, progress_of, reply_to}
use Rattle.df_rounds.specs.Underway.{Underway}
use Rattle.df_rounds.specs.Between.{Between}
use Rattle.df_rounds.proofs.ToldLaws.{some-found}
use Rattle.df_rounds.proofs.BetweenLaws.{calls_are_drawn, calls_ask, calls_leave, calls_pass}
use Rattle.df_coord.specs.Rows.{CallPassed, CallRan}
use Rattle.df_coord.proofs.StepLaws.{passed-again, ran-again}
use Rattle.df_many.specs.Lines.{Numbered}

-- once it was drawn it stands at its first command
pub drawn-so : (shards : ℕ) (v u : Caller) (call : Call) (n : ℕ) → Numbered v u call n → Between shards v call n (progress_of call) u
drawn-so shards v u call n a = subst (λ w. Between shards v call n (progress_of call) w) (sym a.now)
    (calls_are_drawn shards v call n a.above a.below a.fresh a.positive a.bounded)

-- its number is its caller's last
pub last-so : (shards : ℕ) (before u : Caller) (call : Call) (n : ℕ) (progress : Progress) → Between shards before call n progress u →
    (0 < length u.own) × (0 < draws_of n u.own) × (last_number u.own ≡ n)
last-so shards before u call n progress b =
    let a = calls_ask shards before call n progress u b in
    let long : length u.own ≡ length before.own + 1 = ap length b.own ∙ length-append before.own (draw_by before call n ∷ []) in
    (omega (arith, long), a.drawn, a.last)

-- the last draw's call
call-last : (draws : List Draw) (d : Draw) → Each (λ (x : Draw). x.number < d.number) draws → call_at (draws ++ d ∷ []) d.number ≡ d.call
call-last [] d low = ap (λ b. cond b d.call (call_at [] d.number)) (eq-eqb d.number d.number refl)
call-last (x ∷ draws) d low =
    ap (λ b. cond b x.call (call_at (draws ++ d ∷ []) d.number)) (ne_eqb x.number d.number (λ i. omega (arith, i, low.0)))
    ∙ call-last draws d low.1

-- and it is the call of that number
pub call-so : (v u : Caller) (call : Call) (n : ℕ) → Numbered v u call n → call_at u.own n ≡ call
call-so v u call n a = ap (λ (p : Caller). call_at p.own n) a.now ∙ call-last v.own (draw_by v call n) a.above

-- where no shard was sent a hop it ran nothing
pub passed-so : (shards : ℕ) (before drawer u : Caller) (call : Call) (n : ℕ) → NamesAShard shards call → CallPassed shards before drawer call →
    Numbered drawer u call n → CallPassed shards before u call
passed-so shards before drawer u call n names p a =
    passed-again shards before drawer u call n p
    (calls_pass shards drawer call n u (λ s. false) (λ s. None) a.above a.below a.fresh a.positive under (λ s. refl) (λ s le. refl)
    (λ s e is. absurd (false≢true (ap is_some is))) names)
  where
    under : Underway shards n (after_draw drawer call n) u (λ s. false) (λ s. None)
    under = subst (λ w. Underway shards n (after_draw drawer call n) w (λ s. false) (λ s. None)) (sym a.now)
        (calls_ask shards drawer call n (progress_of call) (after_draw drawer call n)
        (calls_are_drawn shards drawer call n a.above a.below a.fresh a.positive a.bounded))

-- where its commands are over it ran, with the reply that theirs make
pub ran-so : (shards : ℕ) (before drawer u : Caller) (call : Call) (n : ℕ) (progress : Progress) → CallPassed shards before drawer call →
    Between shards drawer call n progress u → progress.left ≡ [] → CallRan shards before u call (reply_to call progress.replies)
ran-so shards before drawer u call n progress p b over =
    ran-again shards before drawer u call n (reply_to call progress.replies) p (calls_leave shards drawer call n progress u b over)

-- what was told in a round is what may be told
may-in : (shards : ℕ) (left : List Command) (standing : Standing) (told : ℕ → Told) → GoesOn shards left standing →
    IsReachedIn shards left (then_told told standing) → AllMayBeTold shards (asks_in shards left standing) told
may-in shards [] standing told goes reached = absurd goes
may-in shards (command ∷ commands) Fresh told goes reached = reached.1
may-in shards (command ∷ commands) (Once a) told goes reached = reached.2
may-in shards (command ∷ commands) (Twice a b) told goes reached = reached.4
may-in shards (command ∷ commands) (Thrice a b c) told goes reached = absurd (false≢true (some-found (λ s. false) shards goes).2)

pub may-so : (shards : ℕ) (drawer u : Caller) (call : Call) (n : ℕ) (progress : Progress) (told : ℕ → Told) →
    GoesOn shards progress.left progress.standing → Between shards drawer call n (after_round told progress) u →
    AllMayBeTold shards (asks_next shards progress) told
may-so shards drawer u call n progress told goes b = may-in shards progress.left progress.standing told goes b.stands.reached
