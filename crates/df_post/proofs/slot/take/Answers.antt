use Rattle.std.proofs.Common.{◌≡◌, arith}
use Rattle.df_post.specs.declared.awaited.Awaited.{Awaited}
use Rattle.df_post.specs.Rounds.{Answered, Sent, came, stays}
use Rattle.df_post.proofs.slot.take.Goals as goal

unlike : {a b : Awaited} → Answered a ≡ Sent b → ⊥
unlike same = cc

pub returns-in-Some-clause-goes : goal.returns-in-Some-clause-goes
returns-in-Some-clause-goes g c = came c.args.awaited.value

pub returns-in-Some-clause-counts : goal.returns-in-Some-clause-counts
returns-in-Some-clause-counts g c = record { kept = omega (arith, c.in-Some.ensures.took.stalls); rose = λ same going. absurd (unlike same) }

pub returns-in-None-clause-goes : goal.returns-in-None-clause-goes
returns-in-None-clause-goes g c = stays (Sent c.args.awaited.value)

pub returns-in-None-clause-counts : goal.returns-in-None-clause-counts
returns-in-None-clause-counts g c = let rose = c.in-None.ensures.none.rose in record { kept = omega (arith, rose); rose = λ same going. rose }
