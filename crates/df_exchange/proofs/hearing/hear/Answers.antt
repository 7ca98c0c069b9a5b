use Rattle.std.proofs.Common.{◌≡◌, ◌+◌, sym, subst, true}
use Rattle.std.specs.Prelude.{set}
use Rattle.df_post.specs.Fits.{fits}
use Rattle.df_exchange.specs.Exchanges.{Hearing, IsHopPlace}
use Rattle.df_exchange.proofs.FoundLaws.{fits-parts}
use Rattle.df_exchange.proofs.HearLaws.{an_answer_is_heard, hop-kind, silence_is_heard}
use Rattle.df_exchange.proofs.hearing.hear.Goals as goal

pub returns-in_err-answer-clause-heard : goal.returns-in_err-answer-clause-heard
returns-in_err-answer-clause-heard c = λ shards n before call progress outcomes pos words x lt.
    let silent = c.in_err-answer.ensures.none in
    subst (λ now. Hearing shards (c.args.shard + 1) n before call progress c.args.pass.now now (set outcomes c.args.shard c.from_residual.result)) (sym silent.0)
    (subst (λ o. Hearing shards (c.args.shard + 1) n before call progress c.args.pass.now c.args.round.now (set outcomes c.args.shard o)) (sym c.from_residual.ensures)
    (silence_is_heard shards c.args.shard n before call progress c.args.pass.now c.args.round.now outcomes x lt silent.1))

pub told_by-requires-clause-did : goal.told_by-requires-clause-did
told_by-requires-clause-did c =
    let answer = c.in_ok-answer.answer in let took = c.in_ok-answer.ensures.took in
    hop-kind took.0.kind answer.body (subst IsHopPlace took.1 c.requires.hops) (fits-parts took.0 c.args.shard answer took.2).3

pub returns-clause-heard : goal.returns-clause-heard
returns-clause-heard c = λ shards n before call progress outcomes pos words x lt.
    let answer = c.in_ok-answer.answer in let took = c.in_ok-answer.ensures.took in
    an_answer_is_heard shards c.args.shard n before call progress c.args.pass.now c.told_by.new.pass c.args.round.now c.take.new.self outcomes c.told_by.result
    took.0 x lt took.1 took.4
    (λ act asks is. c.told_by.ensures.told shards c.args.shard n before x.v call progress act x.back pos words x.between x.underway asks
    (subst (λ a. fits a c.args.shard answer ≡ true) is took.2))
