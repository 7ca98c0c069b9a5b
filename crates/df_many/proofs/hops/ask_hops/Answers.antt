use Rattle.std.proofs.Common.{◌≡◌, ◌∙◌, ℕ, refl, subst, arith}
use Rattle.df_hops.specs.Parts.{shards_in}
use Rattle.df_exchange.specs.Exchanges.{Exchanging}
use Rattle.df_exchange.proofs.AskLaws.{next_places_are_idle}
use Rattle.df_plan.specs.Plans.{Asks}
use Rattle.df_many.proofs.HopLaws.{due-if}
use Rattle.df_many.proofs.hops.ask_hops.Goals as goal

pub hop-hop-requires : goal.hop-hop-requires
hop-hop-requires c =
    let g = c.requires.goes in record {
      asks = (c.args.shards, 0, g.1, g.2, g.3, g.5);
    }

pub shards-init : goal.shards-init
shards-init c = (
  refl,
  refl,
  refl,
  c.requires.room,
  record { book = refl; places = refl; awaits = λ s. refl },
  λ drawer call progress slip x a. (x, a),
)

pub part-part-requires : goal.part-part-requires
part-part-requires c =
    let g = c.requires.goes in let now = c.shards.invariant.5 g.0 g.1 g.2 g.3 g.4 g.5 in record {
      asks = (c.args.shards, g.1, g.2, g.3, c.shards-test.true, now.1);
    }

pub ask-requires : goal.ask-requires
ask-requires c =
    let h = c.shards.invariant in let g = c.requires.goes in let now = h.5 g.0 g.1 g.2 g.3 g.4 g.5 in let t : ℕ = c.shards.shard in
    let p = c.part-part.ensures.part c.args.shards g.1 g.2 g.3 now.1 in
    let shards : shards_in c.args.book.now ≡ c.args.shards = omega (arith, c.requires.book.1) in record {
      book = (h.0 ∙ c.requires.book.0, h.3.book);
      there = omega (arith, h.3.places, c.shards-test.true);
      idle = next_places_are_idle c.args.shards t c.args.number g.0 g.1 g.2 c.shards.pass c.shards.room.round now.0;
      due = due-if c.args.shards (shards_in c.args.book.now) t c.args.number c.hop-hop.result g.0 g.1 g.2 c.shards.pass c.shards.room.round
          c.part-part.result c.requires.some shards (c.hop-hop.ensures.hop c.args.shards 0 g.1 g.2 g.3 g.5) now.0 p.0;
    }

pub shards-preserved : goal.shards-preserved
shards-preserved c =
    let h = c.shards.invariant in let e = c.ask.ensures in (
      e.same.0 ∙ h.0,
      e.same.1 ∙ h.1,
      e.same.2 ∙ h.2,
      record { book = e.same.3 ∙ h.3.book; places = e.same.4 ∙ h.3.places; clear = h.3.clear; taken = h.3.taken; keys = h.3.keys },
      record { book = e.same.3 ∙ h.4.book; places = e.same.4 ∙ h.4.places; awaits = λ s. e.way s ∙ h.4.awaits s },
      λ drawer call progress slip x a.
          let now = h.5 drawer call progress slip x a in
          let p = c.part-part.ensures.part c.args.shards call progress slip now.1 in
          (e.asks c.args.shards drawer call progress now.0 p.0 (c.hop-hop.ensures.hop c.args.shards 0 call progress slip a), p.1),
    )

pub returns-clause-asked : goal.returns-clause-asked
returns-clause-asked c = λ drawer call progress slip x a.
    let h = c.shards.invariant in let all : c.shards.shard ≡ c.args.shards = omega (arith, c.shards-test.false, c.shards.auto.shard-end) in
    subst (λ t. Exchanging c.args.shards t c.args.number drawer call progress c.shards.pass c.shards.room.round × Asks c.args.shards t call progress c.shards.room.plan slip) all
    (h.5 drawer call progress slip x a)
