-- Which calls of an object in memory are to fail.
use Rattle.std.specs.Prelude.{◌≡◌, ℕ, ◌+◌, ◌-◌, ◌^◌, min, Bool, List, [], nat_eq}
use Rattle.std.specs.List.{list_any}

-- the numbers of the calls that are to fail; the number of the next call, from 0; how many calls failed
pub record FaultPlan : Type 0 where
  pub fails : List ℕ
  pub calls : ℕ
  pub faults : ℕ

abbrev pub plan_of : List ℕ → FaultPlan
plan_of fails = record { fails = fails; calls = 0; faults = 0 }

-- the list names the next call
abbrev pub fails_next : FaultPlan → Bool
fails_next plan = list_any (λ number. nat_eq number plan.calls) plan.fails

-- counts stay at their last value
abbrev pub one_more : ℕ → ℕ
one_more count = min (count + 1) (2 ^ 64 - 1)

-- the plan after a call that didn't fail
abbrev pub passed : FaultPlan → FaultPlan
passed plan = record plan { calls = one_more plan.calls }

-- the plan after a call that failed
abbrev pub failed : FaultPlan → FaultPlan
failed plan = record plan { calls = one_more plan.calls; faults = one_more plan.faults }

-- where no call is named, no fault is counted
abbrev pub IsQuiet : FaultPlan → FaultPlan → Type 0
IsQuiet old new = old.fails ≡ [] → new.faults ≡ old.faults
