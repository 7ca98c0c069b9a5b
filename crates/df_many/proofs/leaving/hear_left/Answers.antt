use Rattle.std.proofs.Common.{◌∙◌, ap, length, arith}
use Rattle.std.proofs.lemmas.List.{length-set}
use Rattle.df_post.specs.Rounds.{Idle, RoundView}
use Rattle.df_many.proofs.RoomLaws.{heard-more, taken-so}
use Rattle.df_many.proofs.leaving.hear_left.Goals as goal

pub shards-preserved : goal.shards-preserved
shards-preserved c =
    let h = c.shards.invariant in let round : RoundView = c.shards.room.round in let now : RoundView = c.take-freed.new.self in
    let e = taken-so c.take-freed.result _ round now c.shards.shard (λ x p. p.4) (h.6 c.shards.shard).0 c.take-freed.ensures.took c.take-freed.ensures.none in (
      ap (λ (r : RoundView). r.book) e ∙ h.0,
      ap (λ (r : RoundView). length r.places) e ∙ length-set round.places c.shards.shard Idle ∙ h.1,
      h.2,
      h.3,
      h.4,
      h.5,
      heard-more c.shards.shard round now h.6 (ap (λ (r : RoundView). r.places) e) (omega (arith, h.1, c.shards-test.true)),
    )
