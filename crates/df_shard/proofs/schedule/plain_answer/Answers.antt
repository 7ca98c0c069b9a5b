use Rattle.df_shard.proofs.Recorded.{plain-facts}
use Rattle.df_shard.proofs.schedule.plain_answer.Goals as goal

pub invariant_of-result : goal.invariant_of-result
invariant_of-result c =
    let f = plain-facts c.args.shard c.args.number c.args.body c.requires.plain c.requires.limit in
    record { shown = f.shown; drawn = f.drawn; limit = f.limit; call = f.call; note = f.note; told = f.told; act = f.act; came = f.came; outcome = f.outcome; wants = f.wants; part = ∣ f.part ∣₁ }
