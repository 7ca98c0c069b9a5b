use Rattle.std.proofs.Common.{◌∙◌, sym, subst}
use Rattle.df_many.specs.Lines.{HasPost, Holds}
use Rattle.df_many.specs.declared.line.Line.{Line}
use Rattle.df_many.proofs.LineLaws.{holds-goes, holds-taken, with-round}
use Rattle.df_many.proofs.many_hops.ManyHops.step.Goals as goal

pub returns-then-not-go-clause-holds : goal.returns-then-not-go-clause-holds
returns-then-not-go-clause-holds g c =
    let o = c.args.self.now.line in let h = c.requires.holds.0 in let p = c.requires.holds.1 in let e = c.go.ensures in (
      subst (λ (x : Line). Holds x.state x) (sym c.pend.ensures.same)
          (holds-taken o.state o.state c.pend.new.self.stalls (record o { room = with-round c.go.new.self o.room })
          (holds-goes o.state o c.go.new.self e.same.0 e.same.1 e.goes h)),
      subst (λ (x : Line). HasPost x (g.P.Post.posting c.go.new.post)) (sym c.pend.ensures.same)
          (record { book = e.same.2 ∙ p.book; shards = e.matches.shards ∙ e.same.1 ∙ h.room.places; matches = e.matches }),
    )

pub go_on-went-requires-clause-holds : goal.go_on-went-requires-clause-holds
go_on-went-requires-clause-holds g c =
    let o = c.args.self.now.line in let e = c.go.ensures in holds-goes o.state o c.go.new.self e.same.0 e.same.1 e.goes c.requires.holds.0

pub returns-clause-holds : goal.returns-clause-holds
returns-clause-holds g c =
    let o = c.go_on-went.new.self in let h = c.go_on-went.ensures.holds in let p = c.requires.holds.1 in let e = c.go-all.ensures in (
      holds-goes o.state o c.go-all.new.self e.same.0 e.same.1 e.goes h,
      record {
        book = e.same.2 ∙ c.go.ensures.same.2 ∙ p.book ∙ sym c.go_on-went.ensures.same.book;
        shards = e.matches.shards ∙ e.same.1 ∙ h.room.places;
        matches = e.matches;
      },
    )
