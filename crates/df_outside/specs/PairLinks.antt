-- A link over a source and a sink: what it is, and what it tells as a link.
use Rattle.std.specs.Prelude.{◌≡◌, ℕ, ◌+◌, ◌-◌, ◌^◌, ◌<◌, min, false, Some}
use Rattle.df_outside.specs.Links.{Flow}
use Rattle.df_outside.specs.Streams.{Inflow, Outflow}

-- the bytes that may still be taken, and how many reads were refused since none may
pub record PairState : Type 0 where
  pub input : Inflow
  pub output : Outflow
  pub left : ℕ
  pub refused : ℕ

-- reads are refused at the limit alone, and it isn't reached behind the end
pub record IsPair (state : PairState) : Type 0 where
  pub refuses : 0 < state.left → state.refused ≡ 0
  pub is_open : state.left ≡ 0 → state.input.ended ≡ false

-- counts stay at their last value
abbrev pub counted : ℕ → ℕ
counted count = min count (2 ^ 64 - 1)

-- it never waits, and its faults of reads are the source's and those that were refused
abbrev pub pair_flow : PairState → Flow
pair_flow state = record {
  taken = state.input.taken;
  written = state.output.written;
  ended = state.input.ended;
  read_faults = counted (state.input.faults + state.refused);
  write_faults = counted state.output.faults;
  waits = 0;
  left = Some state.left;
}
