use Rattle.df_shard.proofs.entries.part_entry.Goals as goal

pub returns : goal.returns
returns g c = let e = c.new.ensures in (λ i. record { number = e.0 i; hop = e.1 i; act = e.2 i; told = e.3 i })
