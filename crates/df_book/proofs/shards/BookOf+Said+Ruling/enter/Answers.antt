use Rattle.std.proofs.Common.{rules, ◌≡◌, ◌+◌, ◌<◌, sym, ap, ◌∙◌, subst, arith}
use Rattle.df_book.specs.declared.view.Said.TheVariants as said
use Rattle.df_book.specs.declared.view.Note.TheVariants as note
use Rattle.df_book.specs.declared.view.View.{View}
use Rattle.df_log.specs.declared.entry.Entry.{Entry}
use Rattle.df_book.specs.Weights.{Each}
use Rattle.df_book.specs.Logs.{HasRoom}
use Rattle.df_book.specs.Draws.{draws_of}
use Rattle.df_book.specs.Passes.{Shard, after_entry}
use Rattle.df_book.specs.Shown.{shard_seen}
use Rattle.df_book.specs.Views.{entered, noting}
use Rattle.df_book.proofs.Cuts.{notes-said}
use Rattle.df_book.proofs.Entering.{RoomFor, enters}
use Rattle.df_book.proofs.Showing.{room-for, log-grows}
use Rattle.df_book.proofs.shards.BookOf+Said+Ruling.enter.Goals as goal

pub compare_exchange_with-requires : goal.compare_exchange_with-requires
compare_exchange_with-requires c = (search rules, search rules, notes-said _ _ _ _ _ (said.Entry c.of.result))

pub fetch_add-requires : goal.fetch_add-requires
fetch_add-requires c =
    let me = c.compare_exchange_with.ensures.2 in let i = c.pass.invariant in let e = c.of.result.value in let v = c.pass.inside.seat.me.0 in
    let told : c.args.entry ≡ e = sym c.of.ensures in
    let view : noting v (note.Enter e) ≡ c.compare_exchange_with.new.seat.me.0 = sym (ap (λ m. m.0) me) in
    let knows : 0 < draws_of e.number v.known = subst (λ (p : Shard × Entry). 0 < draws_of p.1.number p.0.known) (λ j. (sym c.pass.view_is j, told j)) c.requires.drawn in
    let left : HasRoom (shard_seen c.pass.inside.seat.table_id c.pass.inside.shard v).log (shard_seen c.pass.inside.seat.table_id c.pass.inside.shard v).counted e = subst (λ (p : Shard × Entry). HasRoom p.0.log p.0.counted p.1) (λ j. (sym c.pass.view_is j, told j)) c.requires.running in
    let room : RoomFor v e = room-for c.pass.inside.shard v e i.3 i.7 left in
    (search rules, subst (λ z. c.pass.inside.shard + 1 < z.words) (ap (λ p. p.book) c.pass.view_is ∙ c.requires.book ∙ sym c.self.view_is) i.4, enters _ _ _ _ e c.pass.inside.shard _ (omega arith) (ap (λ m. m.0.note) me) (ap (λ m. m.0.owns) me ∙ i.3) (subst (λ (u : View). 0 < draws_of e.number u.known) view knows) (subst (λ (u : View). RoomFor u e) view room))

pub invariant_of-pass : goal.invariant_of-pass
invariant_of-pass c =
    let me = c.compare_exchange_with.ensures.2 in let i = c.pass.invariant in let d = c.fetch_add.ensures.2 c.of.result.value (ap (λ m. m.0.note) me) in (
      ap (λ m. m.1) d ∙ ap (λ m. m.1) me ∙ i.0,
      ap (λ m. m.0.note) d,
      ap (λ m. m.0.first) d ∙ ap (λ m. m.0.first) me ∙ i.2,
      ap (λ m. m.0.owns) d ∙ ap (λ m. m.0.owns) me ∙ i.3,
      subst (λ z. c.pass.inside.shard + 1 < z.words) (sym (c.fetch_add.ensures.0 ∙ c.compare_exchange_with.ensures.0)) i.4,
      ap (λ m. m.0.own) d ∙ ap (λ m. m.0.own) me ∙ i.5,
      ap (λ m. m.0.made) d ∙ ap (λ m. m.0.made) me ∙ i.6,
      subst (λ l. Each (λ p. p.0 ≡ c.pass.inside.shard) l) (sym (ap (λ m. m.0.counted) d ∙ ap (λ m. m.0.counted) me)) i.7,
    )

pub returns-clause-grown : goal.returns-clause-grown
returns-clause-grown c =
    let me = c.compare_exchange_with.ensures.2 in let x = c.of.result.value in let d = c.fetch_add.ensures.2 x (ap (λ m. m.0.note) me) in
    let z = c.fetch_add.ensures.0 ∙ c.compare_exchange_with.ensures.0 in
    let e : c.fetch_add.new.seat.me.0 ≡ entered c.pass.inside.seat.me.0 x = ap (λ m. m.0) d ∙ ap (λ m. entered m.0 x) me in
    c.show.ensures.same ∙ (λ j. shard_seen (z j) c.pass.inside.shard (e j)) ∙ log-grows c.pass.inside.seat.table_id c.pass.inside.shard c.pass.inside.seat.me.0 x c.pass.invariant.3
    ∙ ap (λ p. after_entry p x) c.pass.view_is ∙ ap (after_entry c.args.pass.now) c.of.ensures
