use Rattle.std.proofs.Common.{[], ap, sym, ◌∙◌, append-nil, drop, arith}
use Rattle.std.proofs.lemmas.List.{take_rest}
use Rattle.df_values.proofs.JoinedLaws.{run_on, run_last}
use Rattle.df_values.proofs.rest.Rest.run.Goals as goal

pub kept-preserved : goal.kept-preserved
kept-preserved c =
    run_on c.self.inside.kept.items c.as_slice-bin-items.result.now c.self.inside.tail.items c.kept.bin-index c.kept.at c.len-at.result c.bin-item.result _
    c.as_slice-bin-items.ensures.value c.kept-test.true c.bin-item.is c.len-at.ensures (omega (arith, c.if-at-len.false, c.len.ensures, c.len-at.ensures)) c.kept.invariant

pub returns-then-at-len-2-clause-front : goal.returns-then-at-len-2-clause-front
returns-then-at-len-2-clause-front c =
    let opened = c.as_slice-then-at-len-2.result.now in (
      [],
      ap (drop c.args.from) (sym c.self.view_is)
          ∙ sym (run_last c.self.inside.kept.items c.as_slice-bin-items.result.now c.self.inside.tail.items c.kept.bin-index c.kept.at _ c.as_slice-bin-items.ensures.value c.kept-test.false c.kept.invariant)
          ∙ ap (drop c.kept.at) (sym c.as_slice-then-at-len-2.ensures.value)
          ∙ sym (take_rest opened c.kept.at)
          ∙ sym (append-nil _),
    )
