use Rattle.std.proofs.Common.{◌∙◌, ◌+◌, ◌-◌, ◌++◌, [], ◌∷◌, ap, sym, append_assoc}
use Rattle.df_post.specs.Locals.{bare_ways}
use Rattle.df_post.proofs.RowLaws.{bare-first}
use Rattle.df_post.proofs.local.new_ways.Goals as goal

pub shards-preserved : goal.shards-preserved
shards-preserved c =
    let z = c.args.book.now in let s = c.shards.shard in let n = c.args.shards in let ways = c.shards.ways.items in
    ap (λ l. l ++ bare_ways z (s + 1) (n - (s + 1))) c.in_ok-push.ensures.items
    ∙ append_assoc ways (c.new.result ∷ []) (bare_ways z (s + 1) (n - (s + 1)))
    ∙ ap (λ w. ways ++ w ∷ bare_ways z (s + 1) (n - (s + 1))) c.new.ensures
    ∙ ap (λ l. ways ++ l) (sym (bare-first z s n c.shards-test.true))
    ∙ c.shards.invariant
