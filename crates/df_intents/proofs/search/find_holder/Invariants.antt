use Rattle.df_intents.specs.Counting.{for_key}
use Rattle.df_intents.proofs.EntryLaws.{AllFound, Left}
use Rattle.df_intents.proofs.search.find_holder.Given as goal

-- what clashes is still to come
abbrev pub invariant-holders : goal.invariant-holders
invariant-holders l = record {
  found : AllFound l.holders.entries l.number-iterator;
  left : Left (for_key l.key l.mode) l.holders.entries l.number-iterator;
}
