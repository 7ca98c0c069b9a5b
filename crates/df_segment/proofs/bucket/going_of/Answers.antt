use Rattle.std.proofs.Common.{◌∙◌, arith}
use Rattle.std.proofs.lemmas.List.{length-set}
use Rattle.df_segment.proofs.PartLaws.{marks_step, count_step}
use Rattle.df_segment.proofs.bucket.going_of.Goals.{then-goes, else-goes}
use Rattle.df_segment.proofs.bucket.going_of.Goals as goal

pub entries-preserved : goal.entries-preserved
entries-preserved g c = record {
  marks = marks_step c.args.bit c.args.entries.now c.entries.going c.entries.i c.goes_at-goes.result (omega arith) c.goes_at-goes.ensures c.entries.invariant.marks;
  count = elim c.if-goes.branch [
    | then-goes w ↦ count_step c.args.bit c.args.entries.now c.entries.i c.entries.count c.if-goes.count c.goes_at-goes.result (omega arith) c.goes_at-goes.ensures
        c.entries.invariant.count (λ _. omega arith) (λ off. absurd (let on = w.if-goes.true in cc))
    | else-goes w ↦ count_step c.args.bit c.args.entries.now c.entries.i c.entries.count c.if-goes.count c.goes_at-goes.result (omega arith) c.goes_at-goes.ensures
        c.entries.invariant.count (λ on. absurd (let off = w.if-goes.false in cc)) (λ _. omega arith)
  ];
  long = length-set c.entries.going c.entries.i c.goes_at-goes.result ∙ c.entries.invariant.long;
  few = elim c.if-goes.branch [ then-goes w ↦ omega arith | else-goes w ↦ omega arith ];
}
