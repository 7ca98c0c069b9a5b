use Rattle.std.proofs.Common.{◌∙◌, ap, refl}
use Rattle.std.specs.Prelude.{map}
use Rattle.df_table.specs.Tables.{Roomy}
use Rattle.df_shard.specs.Holds.{wait_of}
use Rattle.df_shard.proofs.Loads.{begins}
use Rattle.df_shard.proofs.shard.Shard.new.Goals as goal

pub invariant_of-result : goal.invariant_of-result
invariant_of-result c =
    begins _ c.requires.2 c.requires.0 c.requires.1 refl c.new.ensures c.new-2.ensures (ap (map wait_of) c.new-3.ensures.items) c.new-table.ensures
    (ap (λ (t : Roomy). t.keys) c.of-first.ensures ∙ c.new-table.ensures)
