use Rattle.std.proofs.Common.{rules, ◌≡◌, ◌+◌, ◌-◌, ◌<◌, ◌++◌, ◌∷◌, [], ap, ◌∙◌, sym, subst}
use Rattle.df_book.specs.Passes.{shard_passes, new_shard}
use Rattle.df_book.specs.Shown.{shard_seen}
use Rattle.df_book.specs.Views.{after_shard, shard_off}
use Rattle.df_book.specs.Deals.{owner_of}
use Rattle.df_book.proofs.Cuts.{shards}
use Rattle.df_book.proofs.Deals.{owns-next, dealt, dealt-off, passes-next, regroup}
use Rattle.df_book.proofs.opening.BookOf+Said+Ruling.deal.Goals as goal

pub split_seat-seat-requires : goal.split_seat-seat-requires
split_seat-seat-requires c = let i = c.loop-shard.invariant in
    (search rules, search rules, shards _ _ _ _ _ (ap (λ m. m.0.owns) i.1 ∙ owns-next c.args.draws c.loop-shard.shard c.args.logs (search rules)) (ap (λ m. m.0.counted) i.1))

pub loop-shard-preserved : goal.loop-shard-preserved
loop-shard-preserved c = let i = c.loop-shard.invariant in let s = c.split_seat-seat.ensures in
    let here = c.loop-shard.shard in let n = c.args.logs in let z = c.loop-shard.first.table_id in
    let less : here < n = search rules in
    let off : c.split_seat-seat.result.me.0 ≡ owner_of here = ap (λ m. m.0) s.4 ∙ ap (λ m. shard_off m.0) i.1 ∙ dealt-off c.args.draws here n less in
    let put : c.push_reserved.new.self.items ≡ c.loop-shard.passes.items ++ new_shard z here ∷ [] = c.push_reserved.ensures.items ∙ (λ j. c.loop-shard.passes.items ++ shard_seen (s.3 j) here (off j) ∷ []) in
    let k = shard_passes z (here + 1) (n - (here + 1)) in
    let all : c.push_reserved.new.self.items ++ k ≡ shard_passes z 0 n = ap (λ l. l ++ k) put ∙ regroup c.loop-shard.passes.items (new_shard z here) k ∙ ap (λ l. c.loop-shard.passes.items ++ l) (sym (passes-next z here n less)) ∙ i.2 in
    (s.0 ∙ i.0, s.2 ∙ ap (λ m. (after_shard m.0, m.1)) i.1 ∙ ap (λ v. (v, [])) (dealt c.args.draws here n less), subst (λ y. c.push_reserved.new.self.items ++ shard_passes y (here + 1) (n - (here + 1)) ≡ shard_passes y 0 n) (sym s.0) all, search rules, search rules)
