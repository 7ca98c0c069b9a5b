-- The hops of a round of a call that is so far: asked and heard shard after shard.
use Rattle.std.proofs.Common.{◌≡◌, ℕ, ◌<◌, Bool, true, false, cond, List, refl, sym, ap, ◌∙◌, subst}
use Rattle.std.specs.Prelude.{Option, Some, None, nat_lt}
use Rattle.std.specs.Option.{option_map}
use Rattle.df_model.specs.declared.command.Call.{Call}
use Rattle.df_book.specs.Passes.{Caller}
use Rattle.df_caller.specs.declared.slip.Slip.{Slip}
use Rattle.df_rounds.specs.Progress.{Progress, asks_next, hop_next}
use Rattle.df_hops.specs.Parts.{act_of}
use Rattle.df_hops.specs.declared.message.Part.{Part}
use Rattle.df_hops.specs.declared.answer.Outcome.{Outcome}
use Rattle.df_post.specs.Rounds.{Idle, RoundView, awaited_in, place_at}
use Rattle.df_post.specs.declared.awaited.Awaited.{Awaited}
use Rattle.df_exchange.specs.Exchanges.{DueIf, Exchanging, Hearing, answered_by}
use Rattle.df_exchange.proofs.AskLaws.{next_parts_are_due}
use Rattle.df_plan.specs.Plans.{Asks}
use Rattle.df_plan.specs.declared.plan.Plan.{Plan}

-- ---- asked

-- The shards below t were asked, whatever call the round is of: v, round and plan are as they were before the first.
abbrev pub AllAsked : ℕ → ℕ → ℕ → Caller → RoundView → Plan → Caller → RoundView → Plan → Type 0
AllAsked shards t n v before plan u round now =
    (drawer : Caller) (call : Call) (progress : Progress) (slip : Slip) →
    Exchanging shards 0 n drawer call progress v before → Asks shards 0 call progress plan slip →
    Exchanging shards t n drawer call progress u round × Asks shards t call progress now slip

-- a part that is asked is due
pub due-if : (shards k t n hop : ℕ) (drawer : Caller) (call : Call) (progress : Progress) (u : Caller) (round : RoundView)
    (part : Option Part) → 0 < shards → k ≡ shards → hop ≡ hop_next shards progress → Exchanging shards t n drawer call progress u round →
    option_map act_of part ≡ asks_next shards progress t → DueIf k n t hop part u
due-if shards k t n hop drawer call progress u round None pos is at x asked = tt
due-if shards k t n hop drawer call progress u round (Some part) pos is at x asked =
    subst (λ m. DueIf m n t hop (Some part) u) (sym is)
    (subst (λ h. DueIf shards n t h (Some part) u) (sym at)
    (next_parts_are_due shards n drawer call progress u round t (act_of part) pos x (sym asked)))

-- ---- heard

-- the answers of the shards below t were heard, whatever call the round is of
abbrev pub AllHeard : ℕ → ℕ → Caller → RoundView → Caller → RoundView → List (Option Outcome) → Type 0
AllHeard shards t v before u round outcomes =
    (n : ℕ) (drawer : Caller) (call : Call) (progress : Progress) → Exchanging shards shards n drawer call progress v before →
    Hearing shards t n drawer call progress u round outcomes

answered-awaits : (b : Bool) (o : Option Awaited) → awaited_in (cond b Idle (answered_by o)) ≡ None
answered-awaits true o = refl
answered-awaits false None = refl
answered-awaits false (Some a) = refl

-- while all have answered nothing is on its way
pub hearing-awaits : (shards t n : ℕ) (drawer : Caller) (call : Call) (progress : Progress) (u : Caller) (round : RoundView)
    (outcomes : List (Option Outcome)) → Hearing shards t n drawer call progress u round outcomes → (s : ℕ) →
    awaited_in (place_at s round) ≡ None
hearing-awaits shards t n drawer call progress u round outcomes h s = ap awaited_in (h.answered s) ∙ answered-awaits (nat_lt s t) _
