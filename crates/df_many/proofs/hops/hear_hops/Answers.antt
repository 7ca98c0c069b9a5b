use Rattle.std.proofs.Common.{◌≡◌, ◌∙◌, ℕ, sym, refl, subst, arith}
use Rattle.std.proofs.lemmas.List.{length-set}
use Rattle.df_post.specs.Rounds.{place_at}
use Rattle.df_exchange.specs.Exchanges.{Hearing}
use Rattle.df_exchange.proofs.AskLaws.{hearings_begin}
use Rattle.df_exchange.proofs.HearLaws.{answers_are_of_hops}
use Rattle.df_many.proofs.RoomLaws.{done-awaits}
use Rattle.df_many.proofs.HopLaws.{hearing-awaits}
use Rattle.df_many.proofs.hops.hear_hops.Goals as goal

pub shards-init : goal.shards-init
shards-init c = (
  refl,
  refl,
  refl,
  c.requires.room.book,
  c.requires.room.places,
  c.requires.room.clear.0,
  refl,
  refl,
  refl,
  λ n drawer call progress x.
      hearings_begin c.args.shards n drawer call progress c.args.pass.now c.args.room.now.round c.args.room.now.outcomes.items
      x c.requires.done c.requires.room.clear.0 c.requires.room.clear.1,
)

pub hear-outcome-requires : goal.hear-outcome-requires
hear-outcome-requires c =
    let h = c.shards.invariant in let g = c.requires.hops in record {
      book = (h.0 ∙ c.requires.book.0, h.3);
      there = omega (arith, h.4, c.shards-test.true);
      hops = answers_are_of_hops c.args.shards c.shards.shard g.0 g.1 g.2 g.3 c.shards.pass c.shards.room.round c.shards.room.outcomes.items
          c.shards.shard (h.9 g.0 g.1 g.2 g.3 g.4);
    }

pub shards-preserved : goal.shards-preserved
shards-preserved c =
    let h = c.shards.invariant in let e = c.hear-outcome.ensures in let t : ℕ = c.shards.shard in (
      e.same.0 ∙ h.0,
      e.same.1 ∙ h.1,
      e.same.2 ∙ h.2,
      e.same.3 ∙ h.3,
      e.same.4 ∙ h.4,
      length-set c.shards.room.outcomes.items t c.hear-outcome.result ∙ h.5,
      h.6,
      h.7,
      h.8,
      λ n drawer call progress x.
          e.heard c.args.shards n drawer call progress c.shards.room.outcomes.items c.requires.some c.requires.book.1
          (h.9 n drawer call progress x) c.shards-test.true,
    )

pub returns : goal.returns
returns c =
    let h = c.shards.invariant in let g = c.requires.hops in let all : c.shards.shard ≡ c.args.shards = omega (arith, c.shards-test.false, c.shards.auto.shard-end) in
    let now = h.9 g.0 g.1 g.2 g.3 g.4 in record {
      same = (h.0, h.1, h.2);
      room = (h.3, h.4, h.5, h.6, h.7, h.8);
      way = record {
        book = h.3 ∙ sym c.requires.room.book;
        places = h.4 ∙ sym c.requires.room.places;
        awaits = λ s.
            hearing-awaits c.args.shards c.shards.shard g.0 g.1 g.2 g.3 c.shards.pass c.shards.room.round c.shards.room.outcomes.items now s
            ∙ sym (done-awaits (place_at s c.args.room.now.round) (c.requires.done s));
      };
      heard = λ n drawer call progress x.
          subst (λ t. Hearing c.args.shards t n drawer call progress c.shards.pass c.shards.room.round c.shards.room.outcomes.items) all
          (h.9 n drawer call progress x);
    }
