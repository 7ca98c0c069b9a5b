use Rattle.std.proofs.Common.{◌≡◌, ◌∙◌, ◌+◌, ℕ, length, ap, sym, subst, arith}
use Rattle.std.proofs.lemmas.List.{length-set}
use Rattle.df_model.specs.declared.command.Call.{Call}
use Rattle.df_footprints.specs.Footprints.{footprint_of}
use Rattle.df_book.specs.Draws.{call_at}
use Rattle.df_book.specs.Passes.{Caller}
use Rattle.df_hops.specs.Parts.{shards_in}
use Rattle.df_post.specs.Fits.{awaited_by, kind_of}
use Rattle.df_post.specs.Rounds.{RoundView, Unsent}
use Rattle.df_post.specs.declared.awaited.Kind.TheVariants as kinds
use Rattle.std.specs.Prelude.{set}
use Rattle.df_many.specs.declared.room.Room.{Room}
use Rattle.df_many.proofs.RoomLaws.{PlacesAsked, asks-add, asks-skip, found-there, later-there, names-there}
use Rattle.df_many.proofs.places.ask_places.Goals as goal
use Rattle.df_many.proofs.places.ask_places.Goals.{in-Some, in_default}

pub schedule-m-requires-clause-keys : goal.schedule-m-requires-clause-keys
schedule-m-requires-clause-keys c =
    let h = c.shards.invariant in let n : ℕ = c.args.number in let t : ℕ = c.shards.shard in let call : Call = call_at c.args.pass.now.own n in
    let shards : shards_in c.args.book.now ≡ c.args.shards = omega (arith, c.requires.book.1) in
    found-there c.args.shards t call c.args.room.now.keys.items c.shards.room.keys.items c.index_mut.result.now c.in-Some.keys
    (omega (arith, h.1.keys, c.shards-test.true)) c.index_mut.ensures.value (sym c.take.ensures.value ∙ c.in-Some.is) h.3 c.requires.keys c.shards-test.true
    ∙ ap (λ m. footprint_of m call t) (sym shards) ∙ ap (λ (p : Caller). footprint_of (shards_in c.args.book.now) (call_at p.own n) t) (sym h.0)

pub shards-preserved : goal.shards-preserved
shards-preserved c = elim c.match-take.branch [
  | in-Some w ↦
      let h = c.shards.invariant in let n : ℕ = c.args.number in let t : ℕ = c.shards.shard in let call : Call = call_at c.args.pass.now.own n in
      let room : Room = c.shards.room in let round : RoundView = c.shards.room.round in let now : RoundView = w.add.new.self in
      let names = names-there c.args.shards t call w.in-Some.keys.value
      (found-there c.args.shards t call c.args.room.now.keys.items room.keys.items c.index_mut.result.now w.in-Some.keys
      (omega (arith, h.1.keys, c.shards-test.true)) c.index_mut.ensures.value (sym c.take.ensures.value ∙ w.in-Some.is) h.3 c.requires.keys c.shards-test.true) in
      let places : now.places ≡ set round.places t (Unsent (awaited_by w.schedule-m.result)) =
      ap (λ (r : RoundView). r.places) w.add.ensures ∙ ap (λ i. set round.places i (Unsent (awaited_by w.schedule-m.result))) w.schedule-m.ensures.message.0 in
      subst (λ (r : Room). PlacesAsked c.args.book.now c.args.shards (t + 1) call c.args.pass.now c.args.room.now c.match-take.pass r) (sym w.room-is) (
        w.pass-is ∙ w.schedule-m.ensures.pass ∙ h.0,
        record {
          book = ap (λ (r : RoundView). r.book) w.add.ensures ∙ h.1.book;
          places = ap length places ∙ length-set round.places t (Unsent (awaited_by w.schedule-m.result)) ∙ h.1.places;
          clear = h.1.clear;
          taken = h.1.taken;
          keys = length-set room.keys.items t c.take.new.self ∙ h.1.keys;
        },
        asks-add kinds.Place t round now (awaited_by w.schedule-m.result) h.2 (ap kind_of w.schedule-m.ensures.body) places,
        λ s le. later-there room.keys.items t c.take.new.self s le ∙ h.3 s (omega (arith, le)),
        h.4,
        λ s asked. names,
      )
  | in_default w ↦
      let h = c.shards.invariant in let t : ℕ = c.shards.shard in let room : Room = c.shards.room in
      let call : Call = call_at c.args.pass.now.own c.args.number in
      subst (λ (r : Room). PlacesAsked c.args.book.now c.args.shards (t + 1) call c.args.pass.now c.args.room.now c.match-take.pass r) (sym w.room-is) (
        w.pass-is ∙ h.0,
        record {
          book = h.1.book;
          places = h.1.places;
          clear = h.1.clear;
          taken = h.1.taken;
          keys = length-set room.keys.items t c.take.new.self ∙ h.1.keys;
        },
        asks-skip kinds.Place t room.round h.2,
        λ s le. later-there room.keys.items t c.take.new.self s le ∙ h.3 s (omega (arith, le)),
        h.4,
        h.5,
      )
]
