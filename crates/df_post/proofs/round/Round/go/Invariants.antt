use Rattle.df_post.proofs.RoundLaws.{Counted, Passing, Tells}
use Rattle.df_post.proofs.round.Round.go.Given as goal

abbrev pub invariant-shards : goal.invariant-shards
invariant-shards g l =
    Passing l.fn.self l.self (g.P.Post.posting l.fn.post) (g.P.Post.posting l.post) l.shard × Tells l.self l.shard l.done
    × Counted l.fn.self l.self (g.P.Post.posting l.fn.post).stalls (g.P.Post.posting l.post).stalls l.shard
