-- What a source and a sink answer, as a link tells it.
use Rattle.std.proofs.Common.{◌≡◌, ℕ, ◌+◌, ◌-◌, ◌^◌, ◌≤◌, List, [], refl, arith}
use Rattle.std.specs.Prelude.{min}
use Rattle.std.proofs.lemmas.Grind.{common_steps}
use Rattle.df_outside.specs.Faults.{Rose}
use Rattle.df_outside.specs.Links.{LinkReads, LinkWrites}
use Rattle.df_outside.specs.PairLinks.{PairState, counted, pair_flow}
use Rattle.df_outside.specs.Streams.{Inflow, Outflow, Reads, Writes}
use Rattle.df_outside.specs.declared.streams.Got.TheVariants as got
use Rattle.df_outside.specs.declared.streams.Put.{Put}
use Rattle.df_outside.specs.declared.streams.Put.TheVariants as put

-- two counts together rise where one does
pub rose_with : (before now more : ℕ) → Rose before now → Rose (counted (before + more)) (counted (now + more))
rose_with before now more rose = grind (arith, common_steps)

rose_is : (before now more : ℕ) → Rose before now → counted (before + more) ≤ counted (now + more)
rose_is before now more rose = grind (arith, common_steps)

rose_alone : (before now : ℕ) → Rose before now → Rose (counted before) (counted now)
rose_alone before now rose = grind (arith, common_steps)

rose_up : (before now : ℕ) → Rose before now → counted before ≤ counted now
rose_up before now rose = grind (arith, common_steps)

le_counted : (before now : ℕ) → before ≤ now → counted before ≤ counted now
le_counted before now le = grind (arith, common_steps)

pub pair_failed : (state : PairState) (now : Inflow) (buf : List ℕ) → Reads got.Failed state.input now buf → LinkReads got.Failed (pair_flow state) (pair_flow (record state { input = now })) buf
pair_failed state now buf r =
    (record { taken = r.0.taken; written = refl; read_faults = rose_is state.input.faults now.faults state.refused r.1; write_faults = refl; waits = omega arith; left = omega arith }, record { before = r.0.open_before; now = r.0.open_now }, rose_with state.input.faults now.faults state.refused r.1)

pub pair_wrote : (answer : Put) (state : PairState) (now : Outflow) (piece : List ℕ) → Writes answer state.output now piece → LinkWrites answer (pair_flow state) (pair_flow (record state { output = now })) piece
pair_wrote (put.Took n) state now piece w = (w.0, w.1, record { written = w.2; taken = refl; ended = refl; read_faults = refl; write_faults = le_counted state.output.faults now.faults w.3; waits = omega arith; left = refl })
pair_wrote put.NotYet state now piece w = absurd w
pair_wrote put.Failed state now piece w = (record { written = w.0; taken = refl; ended = refl; read_faults = refl; write_faults = rose_up state.output.faults now.faults w.1; waits = omega arith; left = refl }, rose_alone state.output.faults now.faults w.1)
pair_wrote put.NoMemory state now piece w = record { written = w.0; taken = refl; ended = refl; read_faults = refl; write_faults = le_counted state.output.faults now.faults w.1; waits = omega arith; left = refl }
