-- A sink in memory: what it is, and what a write to it does, a row an answer.
use Rattle.std.specs.Prelude.{◌≡◌, ℕ, true, false, List, Some, [], ◌++◌, length}
use Rattle.df_outside.specs.FaultPlans.{FaultPlan, plan_of, fails_next, passed, failed}
use Rattle.df_outside.specs.Streams.{Outflow}
use Rattle.df_outside.specs.declared.streams.Put.{Put}
use Rattle.df_outside.specs.declared.streams.Put.TheVariants as put

pub record SinkState : Type 0 where
  pub written : List ℕ
  pub plan : FaultPlan

-- a sink as it is made
abbrev pub sink_of : List ℕ → SinkState
sink_of fails = record { written = []; plan = plan_of fails }

-- what it tells as a sink: all
abbrev pub outflow_of : SinkState → Outflow
outflow_of state = record { written = Some state.written; faults = state.plan.faults }

-- a write takes the whole piece, fails where the list names it, or finds no memory
abbrev pub HasWritten : Put → SinkState → SinkState → List ℕ → Type 0
HasWritten (put.Took n) old new piece =
    (fails_next old.plan ≡ false) × (n ≡ length piece) × (new ≡ record { written = old.written ++ piece; plan = passed old.plan })
HasWritten put.NotYet old new piece = ⊥
HasWritten put.Failed old new piece = (fails_next old.plan ≡ true) × (new ≡ record old { plan = failed old.plan })
HasWritten put.NoMemory old new piece = (fails_next old.plan ≡ false) × (new ≡ record old { plan = passed old.plan })
