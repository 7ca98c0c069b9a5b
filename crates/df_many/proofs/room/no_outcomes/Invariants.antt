use Rattle.df_turn.specs.Turns.{IsClear}
use Rattle.df_many.proofs.room.no_outcomes.Given as goal

abbrev pub invariant-shards : goal.invariant-shards
invariant-shards l = IsClear l._shard l.outcomes.items
