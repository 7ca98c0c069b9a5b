-- A source in memory: what it is, and what a read of it does, a row an answer.
use Rattle.std.specs.Prelude.{◌≡◌, ℕ, ◌<◌, Bool, true, false, List, Some, [], ◌++◌, length, drop}
use Rattle.df_outside.specs.Cuts.{Cut, filled, next_bytes, cut_after}
use Rattle.df_outside.specs.FaultPlans.{FaultPlan, plan_of, fails_next, passed, failed}
use Rattle.df_outside.specs.Streams.{Inflow}
use Rattle.df_outside.specs.declared.streams.Got.{Got}
use Rattle.df_outside.specs.declared.streams.Got.TheVariants as got

pub record SourceState : Type 0 where
  pub cut : Cut
  pub ended : Bool
  pub plan : FaultPlan

-- a source as it is made
abbrev pub source_of : List (List ℕ) → List ℕ → SourceState
source_of pieces fails = record { cut = record { taken = []; left = filled pieces }; ended = false; plan = plan_of fails }

-- what it tells as a source: all
abbrev pub inflow_of : SourceState → Inflow
inflow_of state = record { taken = Some state.cut.taken; ended = state.ended; faults = state.plan.faults }

-- a read that took n bytes: they stand in front of the buffer, whose other bytes stay
pub record Takes (n : ℕ) (old new : SourceState) (before after : List ℕ) : Type 0 where
  pub not_ended : old.ended ≡ false
  pub not_named : fails_next old.plan ≡ false
  pub some : 0 < n
  pub count : n ≡ length (next_bytes (length before) old.cut.left)
  pub buffer : after ≡ next_bytes (length before) old.cut.left ++ drop n before
  pub state : new ≡ record { cut = cut_after (length before) old.cut; ended = false; plan = passed old.plan }

-- a read that failed took nothing, and the next one goes on
pub record FailsRead (old new : SourceState) (before after : List ℕ) : Type 0 where
  pub not_ended : old.ended ≡ false
  pub named : fails_next old.plan ≡ true
  pub buffer : after ≡ before
  pub state : new ≡ record old { plan = failed old.plan }

-- the first End ends the source; from then on reads aren't counted
abbrev pub Finishes : Bool → SourceState → SourceState → Type 0
Finishes false old new = (fails_next old.plan ≡ false) × (new ≡ record old { ended = true; plan = passed old.plan })
Finishes true old new = new ≡ old

-- at the end nothing is left
pub record Ends (old new : SourceState) (before after : List ℕ) : Type 0 where
  pub none_left : old.cut.left ≡ []
  pub buffer : after ≡ before
  pub state : Finishes old.ended old new

-- a read, with the buffer before and after it; the rows exclude each other
abbrev pub HasGiven : Got → SourceState → SourceState → List ℕ → List ℕ → Type 0
HasGiven (got.Took n) old new before after = Takes n old new before after
HasGiven got.End old new before after = Ends old new before after
HasGiven got.NotYet old new before after = ⊥
HasGiven got.Failed old new before after = FailsRead old new before after
HasGiven got.NoMemory old new before after = ⊥
