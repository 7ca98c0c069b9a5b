use Rattle.std.proofs.Common.{subst}
use Rattle.df_many.specs.Lines.{GoesOn}
use Rattle.df_many.proofs.LineLaws.{has-run, last-of}
use Rattle.df_many.proofs.line.Line.go_by.Goals as goal

pub leave-requires-clause-ran : goal.leave-requires-clause-ran
leave-requires-clause-ran c =
    let o = c.args.self.now in let t = c.args.turned in
    has-run t o c.said-said.result c.said-said.ensures (subst (λ b. GoesOn b t o) c.if-asks.false c.requires.goes)

pub leave-requires-clause-last : goal.leave-requires-clause-last
leave-requires-clause-last c =
    let o = c.args.self.now in let t = c.args.turned in let through = subst (λ b. GoesOn b t o) c.if-asks.false c.requires.goes in
    last-of o through.drawer t.call.value t.number through.progress through.between
