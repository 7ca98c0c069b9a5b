-- How many bytes of the input stand before the rest and before the buffer.
use Rattle.std.proofs.Common.{◌≡◌, ℕ, ◌+◌, ◌-◌, ◌≤◌, List, [], ◌∷◌, ◌++◌, length, sym, ap, subst, arith, length-append}
use Rattle.std.specs.List.{flat_map}
use Rattle.df_model.specs.Values.{Bytes}
use Rattle.df_model.specs.Words.{Words}
use Rattle.df_model.specs.Framing.{sent, Splits}
use Rattle.df_resp.specs.Stream.{place_of, IsPlaced, Counts}
use Rattle.df_resp.specs.Steps.{Steps}
use Rattle.df_resp.specs.declared.input.Step.{Step}
use Rattle.df_resp.specs.declared.input.Step.TheVariants.{More, Bad, On, Whole}

no_longer_by : (front a b : Bytes) → a ≡ front ++ b → length b ≤ length a
no_longer_by front a b e = subst (λ x. length b ≤ length x) (sym e) (omega (arith, length-append front b))

-- what is left is no longer than what was
pub no_longer : (a b : Bytes) (requests : List Words) → Splits a requests b → length b ≤ length a
no_longer a b requests s = no_longer_by (flat_map sent s.frames) a b s.whole

-- first these bytes left the rest, then those
pub counts_join : (before before' before'' : ℕ) (rest rest' rest'' : Bytes) → length rest' ≤ length rest → length rest'' ≤ length rest' → Counts before rest before' rest' → Counts before' rest' before'' rest'' → Counts before rest before'' rest''
counts_join before before' before'' rest rest' rest'' a b c d = omega (arith, a, b, c, d)

step_no_longer : (step : Step) (old new buffer : Bytes) → Steps step old new buffer → length new ≤ length old
step_no_longer More old new buffer s = omega (arith, ap length s.0)
step_no_longer (Bad kind at) old new buffer s = omega (arith, ap length s.0)
step_no_longer On old new buffer s = no_longer old new [] s
step_no_longer (Whole words) old new buffer s = no_longer old new (words.items ∷ []) s

-- a step after steps that gave nothing
pub counts_step : (step : Step) (before before' before'' : ℕ) (rest rest' rest'' buffer : Bytes) → Splits rest [] rest' → Steps step rest' rest'' buffer → Counts before rest before' rest' → Counts before' rest' before'' rest'' → Counts before rest before'' rest''
counts_step step before before' before'' rest rest' rest'' buffer s t c d =
    counts_join before before' before'' rest rest' rest'' (no_longer rest rest' [] s) (step_no_longer step rest' rest'' buffer t) c d

-- the place of a byte in the buffer
pub place_in : (before place at : ℕ) (rest buffer : Bytes) → IsPlaced before place rest buffer → place_of (place + at) ≡ place_of (before + (length rest - length buffer + at))
place_in before place at rest buffer p = omega (arith, p.place_is, p.within)
