use Rattle.std.proofs.Common.{◌∙◌, [], ◌∷◌, true, false, refl, ap, arith}
use Rattle.df_rdbcore.specs.Parts.{firsts}
use Rattle.df_rdbload.specs.FileStops.{PartStops}
use Rattle.df_rdbload.specs.Entries.{PartRead}
use Rattle.df_rdbload.proofs.Steps.{err_is, reads_as, reads_join, reads_stop, reads_stops}
use Rattle.df_rdbload.proofs.PartLaws.{entries_in, entry_stops, passed_stops, entry_read, passed_read}
use Rattle.df_rdbload.proofs.ValueLaws.{at_true}
use Rattle.df_rdbload.proofs.parts.part.Goals as goal

pub returns-in_err-first-clause-reads : goal.returns-in_err-first-clause-reads
returns-in_err-first-clause-reads g c read same =
    reads_stop (PartRead read c.args.keys.now.entries) (PartStops (firsts read)) _ (err_is _ c.in_err-first.field-0.0 c.from_residual.ensures.1) c.in_err-first.ensures.reads (λ size at rest f place h. PartStops.Cut h.0 h.1)

pub returns-then-first-clause-reads : goal.returns-then-first-clause-reads
returns-then-first-clause-reads g c read same =
    reads_as (PartRead read c.args.keys.now.entries) (PartStops (firsts read)) false c.in_ok-first.ensures.reads (λ form is. (is ∙ ap (λ b. b ∷ []) c.if-first.true, same))

pub returns-in_err-entry-clause-reads : goal.returns-in_err-entry-clause-reads
returns-in_err-entry-clause-reads g c read same =
    reads_stops (PartRead read c.entry.new.keys.entries) (PartStops (firsts read)) _ (err_is _ c.in_err-entry.field-0.0 c.from_residual-in_err-entry.ensures.1) c.in_ok-first.ensures.reads (c.in_err-entry.ensures read same)
    (entry_stops (firsts read) c.in_ok-first.first c.place-begin.result c.args.source.now (at_true _ _ c.if-holds_key.true c.holds_key.ensures.yes) c.place-begin.ensures)

pub returns-then-holds_key-clause-reads : goal.returns-then-holds_key-clause-reads
returns-then-holds_key-clause-reads g c read same =
    reads_join (PartRead read c.entry.new.keys.entries) (PartStops (firsts read)) true c.in_ok-first.ensures.reads (c.in_ok-entry.ensures read same) (λ form more p q. entry_read read c.entry.new.keys.entries c.in_ok-first.first form more p q)

pub returns-then-holds_key-clause-takes : goal.returns-then-holds_key-clause-takes
returns-then-holds_key-clause-takes g c =
    let runs = (c.in_ok-entry.ensures (entries_in c.args.keys.now.entries) refl).goes.runs in
    let takes = c.in_ok-first.ensures.takes in
    omega (arith, runs, takes)

pub returns-in_err-passed_over-clause-reads : goal.returns-in_err-passed_over-clause-reads
returns-in_err-passed_over-clause-reads g c read same =
    reads_stops (PartRead read c.args.keys.now.entries) (PartStops (firsts read)) _ (err_is _ c.in_err-passed_over.field-0.0 c.from_residual-in_err-passed_over.ensures.1) c.in_ok-first.ensures.reads c.in_err-passed_over.ensures
    (passed_stops (firsts read) c.in_ok-first.first c.place-begin.result c.args.source.now c.place-begin.ensures)

pub returns-clause-reads : goal.returns-clause-reads
returns-clause-reads g c read same =
    reads_join (PartRead read c.args.keys.now.entries) (PartStops (firsts read)) true c.in_ok-first.ensures.reads c.in_ok-passed_over.ensures (λ form more p q. passed_read read c.args.keys.now.entries c.in_ok-first.first form more same p q)

pub returns-clause-takes : goal.returns-clause-takes
returns-clause-takes g c =
    let runs = c.in_ok-passed_over.ensures.goes.runs in
    let takes = c.in_ok-first.ensures.takes in
    omega (arith, runs, takes)
