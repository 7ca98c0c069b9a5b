use Rattle.std.proofs.Common.{rules, ◌≡◌, ◌<◌, ◌-◌, sym, ap, ◌∙◌, subst}
use Rattle.df_book.specs.declared.view.Said.TheVariants as said
use Rattle.df_book.specs.Weights.{Each, count}
use Rattle.df_book.specs.Logs.{AllBelow}
use Rattle.df_book.specs.Passes.{after_draw}
use Rattle.df_book.specs.Shown.{caller_of}
use Rattle.df_book.specs.Views.{drawn}
use Rattle.df_book.specs.declared.draw.Draw.{Draw}
use Rattle.df_book.proofs.Cuts.{notes-said}
use Rattle.df_book.proofs.Drawing.{draws}
use Rattle.df_book.proofs.book.BookOf+Said+Ruling.draw.Goals as goal

pub compare_exchange_with-requires : goal.compare_exchange_with-requires
compare_exchange_with-requires c = (search rules, search rules, notes-said _ _ _ _ _ (said.Call c.of.result))

pub fetch_add-requires : goal.fetch_add-requires
fetch_add-requires c =
    let me = c.compare_exchange_with.ensures.2 in
    (search rules, search rules, draws _ _ _ _ c.of.result.value (ap (λ m. m.0.note) me) (subst (λ n. 0 < n) (sym (ap (λ m. m.0.budget) me ∙ ap (λ p. p.budget) c.pass.view_is)) c.requires.caller.1))

pub invariant_of-pass : goal.invariant_of-pass
invariant_of-pass c = let me = c.compare_exchange_with.ensures.2 in let d = (c.fetch_add.ensures.2 c.of.result.value (ap (λ m. m.0.note) me)).0 in
    (ap (λ m. m.1) d ∙ ap (λ m. m.1) me ∙ c.pass.invariant.0, ap (λ m. m.0.note) d, ap (λ n. n - 1) (c.pass.invariant.2 ∙ sym (ap (λ m. m.0.budget) me)) ∙ sym (ap (λ m. m.0.budget) d))

pub returns-clause-above_seen : goal.returns-clause-above_seen
returns-clause-above_seen c = let me = c.compare_exchange_with.ensures.2 in let d = c.fetch_add.ensures.2 c.of.result.value (ap (λ m. m.0.note) me) in
    subst (AllBelow c.fetch_add.result) (ap (λ m. m.0.seen) me ∙ ap (λ p. p.seen) c.pass.view_is) d.1

pub returns-clause-above_own : goal.returns-clause-above_own
returns-clause-above_own c = let me = c.compare_exchange_with.ensures.2 in let d = c.fetch_add.ensures.2 c.of.result.value (ap (λ m. m.0.note) me) in
    subst (Each (λ (x : Draw). x.number < c.fetch_add.result)) (ap (λ m. m.0.own) me ∙ ap (λ p. p.own) c.pass.view_is) d.2

pub returns-clause-range : goal.returns-clause-range
returns-clause-range c = let me = c.compare_exchange_with.ensures.2 in let d = c.fetch_add.ensures.2 c.of.result.value (ap (λ m. m.0.note) me) in (d.3, d.4)

pub returns-clause-fresh : goal.returns-clause-fresh
returns-clause-fresh c = let me = c.compare_exchange_with.ensures.2 in let d = c.fetch_add.ensures.2 c.of.result.value (ap (λ m. m.0.note) me) in
    subst (λ l. count c.fetch_add.result l ≡ 0) (ap (λ m. m.0.made) me ∙ ap (λ p. p.made) c.pass.view_is) d.5

pub returns-clause-drawn : goal.returns-clause-drawn
returns-clause-drawn c = let me = c.compare_exchange_with.ensures.2 in let x = c.of.result.value in let d = (c.fetch_add.ensures.2 x (ap (λ m. m.0.note) me)).0 in
    let z = c.fetch_add.ensures.0 ∙ c.compare_exchange_with.ensures.0 in
    (λ i. caller_of (z i) ((ap (λ m. m.0) d ∙ ap (λ m. drawn m.0 x c.fetch_add.result) me) i)) ∙ ap (λ p. after_draw p x c.fetch_add.result) c.pass.view_is ∙ ap (λ y. after_draw c.args.pass.now y c.fetch_add.result) c.of.ensures
