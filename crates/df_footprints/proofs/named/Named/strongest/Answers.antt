use Rattle.std.proofs.Common.{inl, inr, sym, ap, ◌∙◌}
use Rattle.df_footprints.specs.Footprints.{strongest}
use Rattle.df_footprints.specs.Naming.{keys_named}
use Rattle.df_footprints.proofs.GatherLaws.{strongest_read, strongest_written, strongest_firsts, strongest_stored}
use Rattle.df_footprints.proofs.named.Named.strongest.Goals as goal

pub returns-in-Nothing : goal.returns-in-Nothing
returns-in-Nothing c = elim c.in-Nothing.is [
  | inl e ↦ sym (ap (λ n. strongest (keys_named n)) e)
  | inr p ↦ sym (ap (λ n. strongest (keys_named n)) p.1 ∙ strongest_read p.0.now)
]

pub returns-in-Written : goal.returns-in-Written
returns-in-Written c = c.mode_of_count.ensures ∙ sym (ap (λ n. strongest (keys_named n)) c.in-Written.is ∙ strongest_written c.in-Written.keys.now)

pub returns-in-WrittenPairs : goal.returns-in-WrittenPairs
returns-in-WrittenPairs c = c.mode_of_count-in-WrittenPairs.ensures ∙ sym (ap (λ n. strongest (keys_named n)) c.in-WrittenPairs.is ∙ strongest_firsts c.in-WrittenPairs.pairs.now)

pub returns-in-BothWritten : goal.returns-in-BothWritten
returns-in-BothWritten c = elim c.in-BothWritten.is [
  | inl p ↦ sym (ap (λ n. strongest (keys_named n)) p.2)
  | inr p ↦ sym (ap (λ n. strongest (keys_named n)) p.2 ∙ strongest_stored p.0.now p.1.now)
]
