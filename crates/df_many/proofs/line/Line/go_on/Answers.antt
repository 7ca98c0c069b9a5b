use Rattle.std.proofs.Common.{◌∙◌, sym, subst}
use Rattle.df_many.specs.Lines.{Holds}
use Rattle.df_many.specs.declared.state.State.TheVariants as states
use Rattle.df_many.proofs.LineLaws.{holds-taken}
use Rattle.df_many.proofs.line.Line.go_on.Goals as goal

pub placed-requires-clause-holds : goal.placed-requires-clause-holds
placed-requires-clause-holds c =
    let o = c.args.self.now in holds-taken (states.Placing c.in-Placing.turned) c.replace.new.dest o.stalls o (subst (λ s. Holds s o) (sym c.replace.ensures.value ∙ c.in-Placing.is) c.requires.holds)

pub hopped-requires-clause-holds : goal.hopped-requires-clause-holds
hopped-requires-clause-holds c =
    let o = c.args.self.now in holds-taken (states.Hopping c.in-Hopping.turned) c.replace.new.dest o.stalls o (subst (λ s. Holds s o) (sym c.replace.ensures.value ∙ c.in-Hopping.is) c.requires.holds)
