use Rattle.std.proofs.Common.{◌≡◌, ◌∙◌, length, sym, subst, arith}
use Rattle.df_post.proofs.RoundLaws.{Tells, counted-all, counted-more, counted-none, passing-more, passing-none, tells-all, tells-more, tells-none}
use Rattle.df_post.proofs.round.Round.go.Goals as goal

pub shards-init : goal.shards-init
shards-init g c = (
  passing-none c.args.self.now (g.P.Post.posting c.args.post.now) c.requires.matches,
  tells-none c.args.self.now,
  counted-none c.args.self.now (g.P.Post.posting c.args.post.now).stalls,
)

pub go_at-done-requires : goal.go_at-done-requires
go_at-done-requires g c = record {
  there = omega (arith, c.shards.invariant.0.room, c.count-shard-end.ensures, c.shards-test.true);
  matches = c.shards.invariant.0.matches;
}

pub shards-preserved : goal.shards-preserved
shards-preserved g c =
    let h = c.shards.invariant in let e = c.go_at-done.ensures in (
      passing-more c.args.self.now c.shards.self c.go_at-done.new.self (g.P.Post.posting c.args.post.now) (g.P.Post.posting c.shards.post)
          (g.P.Post.posting c.go_at-done.new.post) c.shards.shard h.0 e.matches e.same.0 e.same.1 e.one e.goes,
      tells-more c.shards.self c.go_at-done.new.self c.shards.shard c.shards.done c.go_at-done.result e.one e.done h.1,
      counted-more c.args.self.now c.shards.self c.go_at-done.new.self (g.P.Post.posting c.args.post.now).stalls (g.P.Post.posting c.shards.post).stalls
          (g.P.Post.posting c.go_at-done.new.post).stalls c.shards.shard h.2 e.one (h.0.rest c.shards.shard (omega arith)) e.counts,
    )

pub returns : goal.returns
returns g c =
    let h = c.shards.invariant in
    let all : c.shards.shard ≡ length c.args.self.now.places = omega (arith, c.count-shard-end.ensures, c.shards-test.false, c.shards.auto.shard-end) in record {
      matches = h.0.matches;
      same = (h.0.book, h.0.room, h.0.post);
      goes = h.0.goes;
      counts = counted-all c.args.self.now c.shards.self (g.P.Post.posting c.args.post.now).stalls (g.P.Post.posting c.shards.post).stalls c.shards.shard all h.2;
      done = λ e. tells-all c.shards.self c.shards.shard (all ∙ sym h.0.room)
          (subst (Tells c.shards.self c.shards.shard) e h.1);
      waits = λ e. let w = h.1.one e in (w.0, w.2);
    }
