use Rattle.std.proofs.Common.{◌≡◌, ◌∙◌, ap, sym, subst}
use Rattle.std.specs.Option.{option_map}
use Rattle.df_hops.specs.Parts.{act_of}
use Rattle.df_rounds.specs.Progress.{asks_next}
use Rattle.df_post.specs.Fits.{awaited_by}
use Rattle.df_post.specs.Rounds.{Idle, RoundView, awaited_in, place_at}
use Rattle.df_exchange.proofs.AskLaws.{a_message_is_asked, nothing_is_asked, unsent-way}
use Rattle.df_exchange.proofs.asking.ask.Goals as goal

pub returns-in_default-clause-asks : goal.returns-in_default-clause-asks
returns-in_default-clause-asks c = λ shards before call progress x asks next.
    nothing_is_asked shards c.args.shard c.args.number before call progress c.args.pass.now c.args.round.now
    (sym asks ∙ ap (option_map act_of) c.in_default.is) x

pub returns-clause-asks : goal.returns-clause-asks
returns-clause-asks c = λ shards before call progress x asks next.
    let e = c.hop-message.ensures in
    a_message_is_asked shards c.args.shard c.args.number c.args.hop before call progress c.in-Some.part c.hop-message.result c.args.pass.now
    c.hop-message.new.pass c.args.round.now c.add.new.self c.requires.there
    (subst (λ o. option_map act_of o ≡ asks_next shards progress c.args.shard) c.in-Some.is asks)
    next e.message.0 e.message.2 e.body e.pass c.add.ensures x

pub returns-clause-way : goal.returns-clause-way
returns-clause-way c = λ s.
    let round : RoundView = c.args.round.now in let m = c.hop-message.result in
    ap (λ (r : RoundView). awaited_in (place_at s r)) c.add.ensures
    ∙ unsent-way round.places m.shard (awaited_by m) (ap (λ i. place_at i round) c.hop-message.ensures.message.0 ∙ c.requires.idle) s
