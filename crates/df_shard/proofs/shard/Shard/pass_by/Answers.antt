use Rattle.std.proofs.Common.{◌∙◌, ap, sym, refl, subst, Some}
use Rattle.df_log.specs.declared.entry.Entry.{Entry}
use Rattle.df_book.specs.Passes.{after_entry}
use Rattle.df_shard.specs.Fields.{view_of}
use Rattle.df_shard.specs.Holds.{View}
use Rattle.df_shard.specs.Bodies.{why_told}
use Rattle.df_shard.specs.Came.{Brought}
use Rattle.df_shard.proofs.Recorded.{Enters, note-enters, note-holds, note-shown}
use Rattle.df_shard.proofs.shard.Shard.pass_by.Goals as goal

pub enter-receipt-requires-clause-drawn : goal.enter-receipt-requires-clause-drawn
enter-receipt-requires-clause-drawn c =
    let x : View = view_of c.self.inside in let a = c.args.asked in
    let b : Brought x a.number a.hop a.slip.value.call = subst (λ (v : View). Brought v a.number a.hop a.slip.value.call) (sym c.self.view_is) c.requires.brought in
    (subst (λ (e : Entry). Enters e x.pass) (sym c.passed.ensures) (note-enters x a.number a.hop a.slip.value.call (why_told c.args.why) b)).0

pub enter-receipt-requires-clause-running : goal.enter-receipt-requires-clause-running
enter-receipt-requires-clause-running c =
    let x : View = view_of c.self.inside in let a = c.args.asked in
    let b : Brought x a.number a.hop a.slip.value.call = subst (λ (v : View). Brought v a.number a.hop a.slip.value.call) (sym c.self.view_is) c.requires.brought in
    (subst (λ (e : Entry). Enters e x.pass) (sym c.passed.ensures) (note-enters x a.number a.hop a.slip.value.call (why_told c.args.why) b)).1

pub enter-receipt-requires-clause-fresh : goal.enter-receipt-requires-clause-fresh
enter-receipt-requires-clause-fresh c =
    let x : View = view_of c.self.inside in let a = c.args.asked in
    let b : Brought x a.number a.hop a.slip.value.call = subst (λ (v : View). Brought v a.number a.hop a.slip.value.call) (sym c.self.view_is) c.requires.brought in
    (subst (λ (e : Entry). Enters e x.pass) (sym c.passed.ensures) (note-enters x a.number a.hop a.slip.value.call (why_told c.args.why) b)).2

pub invariant_of-self : goal.invariant_of-self
invariant_of-self c =
    let x : View = view_of c.self.inside in let a = c.args.asked in
    let b : Brought x a.number a.hop a.slip.value.call = subst (λ (v : View). Brought v a.number a.hop a.slip.value.call) (sym c.self.view_is) c.requires.brought in
    note-holds x a.number a.hop a.slip.value.call (why_told c.args.why) c.enter-receipt.new.pass c.self.invariant b
    (c.enter-receipt.ensures.grown ∙ ap (after_entry x.pass) c.passed.ensures)

pub invariant_of-result : goal.invariant_of-result
invariant_of-result c =
    let x : View = view_of c.self.inside in let a = c.args.asked in
    let b : Brought x a.number a.hop a.slip.value.call = subst (λ (v : View). Brought v a.number a.hop a.slip.value.call) (sym c.self.view_is) c.requires.brought in
    let s = note-shown x a.number a.hop a.slip.value.call (why_told c.args.why) c.passed.result c.enter-receipt.new.pass c.enter-receipt.result c.self.invariant b c.passed.ensures c.enter-receipt.ensures.grown c.enter-receipt.ensures.receipt in
    record { shown = s.shard; drawn = s.drawn; limit = c.requires.limit; call = ap Some (sym s.of_call); note = s.note; told = refl; act = refl; came = refl; outcome = refl; wants = refl; part = ∣ tt ∣₁ }
