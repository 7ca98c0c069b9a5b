-- A link in memory: what it is, and what a read and a write do, a row an answer.
use Rattle.std.specs.Prelude.{◌≡◌, ℕ, Bool, true, false, List, None, Some, [], ◌++◌, length}
use Rattle.df_outside.specs.Arrivals.{Taken, Arrives, coming}
use Rattle.df_outside.specs.FaultPlans.{FaultPlan, plan_of, fails_next, passed, failed, one_more}
use Rattle.df_outside.specs.Links.{Flow}
use Rattle.df_outside.specs.declared.arrivals.Arrival.{Arrival}
use Rattle.df_outside.specs.declared.streams.Got.{Got}
use Rattle.df_outside.specs.declared.streams.Got.TheVariants as got
use Rattle.df_outside.specs.declared.streams.Put.{Put}
use Rattle.df_outside.specs.declared.streams.Put.TheVariants as put

pub record LinkState : Type 0 where
  pub arrivals : Taken
  pub written : List ℕ
  pub ended : Bool
  pub reads : FaultPlan
  pub writes : FaultPlan
  pub waits : ℕ

-- a link as it is made
abbrev pub link_of : List Arrival → List ℕ → List ℕ → LinkState
link_of arrivals reads writes =
    record {
      arrivals = record { taken = []; left = coming arrivals };
      written = [];
      ended = false;
      reads = plan_of reads;
      writes = plan_of writes;
      waits = 0;
    }

-- what it tells as a link: all
abbrev pub flow_of : LinkState → Flow
flow_of state =
    record {
      taken = Some state.arrivals.taken;
      written = Some state.written;
      ended = state.ended;
      read_faults = state.reads.faults;
      write_faults = state.writes.faults;
      waits = state.waits;
      left = None;
    }

-- a read that the list doesn't name came to this
abbrev pub Reaches : Got → LinkState → LinkState → List ℕ → List ℕ → Type 0
Reaches answer old new before after =
    (old.ended ≡ false) × (fails_next old.reads ≡ false) × Arrives answer old.arrivals new.arrivals before after

-- a read that failed took nothing, and the next one goes on
abbrev pub FailsRead : LinkState → LinkState → List ℕ → List ℕ → Type 0
FailsRead old new before after =
    (old.ended ≡ false) × (fails_next old.reads ≡ true) × (after ≡ before) × (new ≡ record old { reads = failed old.reads })

-- the first End ends the link; from then on reads aren't counted
abbrev pub Ends : Bool → LinkState → LinkState → Type 0
Ends false old new =
    (fails_next old.reads ≡ false) × (old.arrivals.left ≡ []) × (new ≡ record old { ended = true; reads = passed old.reads })
Ends true old new = new ≡ old

-- a read, with the buffer before and after it; the rows exclude each other
abbrev pub HasGiven : Got → LinkState → LinkState → List ℕ → List ℕ → Type 0
HasGiven (got.Took n) old new before after =
    Reaches (got.Took n) old new before after × (new ≡ record old { arrivals = new.arrivals; reads = passed old.reads })
HasGiven got.End old new before after = (after ≡ before) × Ends old.ended old new
HasGiven got.NotYet old new before after =
    Reaches got.NotYet old new before after
    × (new ≡ record old { arrivals = new.arrivals; reads = passed old.reads; waits = one_more old.waits })
HasGiven got.Failed old new before after = FailsRead old new before after
HasGiven got.NoMemory old new before after = ⊥

-- a write takes the whole piece, fails where the list names it, or finds no memory
abbrev pub HasWritten : Put → LinkState → LinkState → List ℕ → Type 0
HasWritten (put.Took n) old new piece =
    (fails_next old.writes ≡ false)
    × (n ≡ length piece)
    × (new ≡ record old { written = old.written ++ piece; writes = passed old.writes })
HasWritten put.NotYet old new piece = ⊥
HasWritten put.Failed old new piece = (fails_next old.writes ≡ true) × (new ≡ record old { writes = failed old.writes })
HasWritten put.NoMemory old new piece = (fails_next old.writes ≡ false) × (new ≡ record old { writes = passed old.writes })
