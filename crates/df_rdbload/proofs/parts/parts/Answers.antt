use Rattle.std.proofs.Common.{◌≡◌, [], refl, sym, subst}
use Rattle.df_rdbload.specs.Entries.{IsGathered, Gathers}
use Rattle.df_rdbload.proofs.Steps.{err_is, reads_none}
use Rattle.df_rdbload.proofs.SourceLaws.{Never}
use Rattle.df_rdbload.proofs.PartLaws.{part_on, parts_end, parts_stop}
use Rattle.df_rdbload.proofs.parts.parts.Goals as goal

none_yet : (entries : _) → entries ≡ [] → Gathers entries []
none_yet entries e = subst (λ es. Gathers es []) (sym e) (record { parts = []; parts_are = refl; once = tt; keys_are = refl })

pub parts-init : goal.parts-init
parts-init g c = reads_none IsGathered Never c.new-keys.result.entries (none_yet c.new-keys.result.entries c.new-keys.ensures.empty)

pub parts-preserved : goal.parts-preserved
parts-preserved g c = part_on c.parts.keys.entries c.parts.invariant c.part.new.keys.entries (λ read same. rw c.if-not-goes_on.false at (c.in_ok-goes_on.ensures.reads read same))

pub parts-smaller : goal.parts-smaller
parts-smaller g c = c.in_ok-goes_on.ensures.takes

pub returns-in_err-goes_on : goal.returns-in_err-goes_on
returns-in_err-goes_on g c = parts_stop c.parts.keys.entries c.parts.invariant c.part.new.keys.entries _ _ (err_is _ c.in_err-goes_on.field-0.0 c.from_residual.ensures.1) (λ read same. c.in_err-goes_on.ensures.reads read same)

pub returns-then-not-goes_on : goal.returns-then-not-goes_on
returns-then-not-goes_on g c = parts_end c.parts.keys.entries c.parts.invariant c.part.new.keys (λ read same. rw c.if-not-goes_on.true at (c.in_ok-goes_on.ensures.reads read same))
