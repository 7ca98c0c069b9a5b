use Rattle.std.proofs.Common.{◌≡◌, ltb, refl, rules}
use Rattle.std.proofs.lemmas.Fn.{answers_by}
use Rattle.std.proofs.lemmas.List.Sorted.{IsPartitionedBy-ltb}
use Rattle.df_txqueue.proofs.PlaceLaws.{rises, split_by_tests}
use Rattle.df_txqueue.proofs.queue.count_below.Goals as goal

pub returns-clause-split : goal.returns-clause-split
returns-clause-split c =
    let places = c.args.ring.now.items in
    let number = c.args.number in
    split_by_tests number places c.partition_point.result
    (c.partition_point.ensures.partitioned (λ p. ltb p.number number) (answers_by _ _ (λ f. f.0.now ≡ number) (λ f a r f' called same. search rules) _ refl) (IsPartitionedBy-ltb (λ p. p.number) places number (rises places c.requires)))
