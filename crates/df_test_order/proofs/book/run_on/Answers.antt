use Rattle.std.proofs.Common.{rules, ◌≡◌, ◌<◌, [], ◌∷◌, ◌++◌, ℕ, List, sym, ap, ◌∙◌, subst, refl, arith}
use Rattle.df_log.specs.declared.entry.Entry.{Entry}
use Rattle.df_book.specs.Weights.{Each}
use Rattle.df_book.specs.Logs.{at_log, IsPrefix, BothSeen, HasRoom, IsFresh}
use Rattle.df_book.specs.Draws.{draws_of, last_number}
use Rattle.df_book.specs.Passes.{Receipt, draw_by}
use Rattle.df_test_order.specs.Runs.{cleared}
use Rattle.df_book.specs.declared.draw.Draw.{Draw}
use Rattle.df_book.proofs.Running.{last-snoc, drawn-last, below-fresh, below-room, sees-all}
use Rattle.df_book.proofs.Logs.{prefix-append}
use Rattle.df_test_order.proofs.book.run_on.Goals as goal

pub enter-receipt-requires-clause-drawn : goal.enter-receipt-requires-clause-drawn
enter-receipt-requires-clause-drawn c =
    let d : Draw = draw_by c.args.caller.now c.args.call.now c.draw-number.result in let told = c.args.shard.now.known in
    let known : c.take_ticket.new.pass.known ≡ told ++ (c.args.caller.now.own ++ d ∷ []) = ap (λ p. p.known) c.take_ticket.ensures.taken ∙ ap (λ t. told ++ t.known) (c.ticket-ticket.ensures.running refl).1 ∙ ap (λ p. told ++ p.own) c.draw-number.ensures.drawn in
    subst (λ (q : Entry × List Draw). 0 < draws_of q.0.number q.1) (λ j. (sym c.entry_of.ensures j, sym known j)) (drawn-last told c.args.caller.now.own d)

pub enter-receipt-requires-clause-running : goal.enter-receipt-requires-clause-running
enter-receipt-requires-clause-running c =
    let n = c.draw-number.result in let d : Draw = draw_by c.args.caller.now c.args.call.now n in let before = c.args.shard.now.counted in
    let counted : c.take_ticket.new.pass.counted ≡ before ++ n ∷ [] = ap (λ p. p.counted) c.take_ticket.ensures.taken ∙ ap (λ t. before ++ t.runs) (c.ticket-ticket.ensures.running refl).1
    ∙ ap (λ p. before ++ last_number p.own ∷ []) c.draw-number.ensures.drawn ∙ ap (λ (k : ℕ). before ++ k ∷ []) (last-snoc c.args.caller.now.own d) in
    let log : c.take_ticket.new.pass.log ≡ c.args.shard.now.log = ap (λ p. p.log) c.take_ticket.ensures.taken in
    let above : Each (λ (x : Entry). x.number < n) c.args.shard.now.log = subst (Each (λ (x : Entry). x.number < n)) c.requires.seen (c.draw-number.ensures.above_seen c.args.shard.now.shard) in
    subst (λ (q : Entry × List Entry × List ℕ). HasRoom q.1 q.2 q.0) (λ j. (sym c.entry_of.ensures j, sym log j, sym counted j)) (below-room c.args.shard.now.log before (cleared n) (omega arith) above)

pub enter-receipt-requires-clause-fresh : goal.enter-receipt-requires-clause-fresh
enter-receipt-requires-clause-fresh c =
    let n = c.draw-number.result in
    let log : c.take_ticket.new.pass.log ≡ c.args.shard.now.log = ap (λ p. p.log) c.take_ticket.ensures.taken in
    let above : Each (λ (x : Entry). x.number < n) c.args.shard.now.log = subst (Each (λ (x : Entry). x.number < n)) c.requires.seen (c.draw-number.ensures.above_seen c.args.shard.now.shard) in
    subst (λ (q : Entry × List Entry). IsFresh q.1 q.0) (λ j. (sym c.entry_of.ensures j, sym log j)) (below-fresh c.args.shard.now.log (cleared n) above)

pub returns-clause-seen : goal.returns-clause-seen
returns-clause-seen c =
    let q = c.enter-receipt.new.pass in let was = c.args.caller.now.seen in let log = c.args.shard.now.log in
    let same : c.ticket-ticket.new.pass.seen ≡ was = search rules in
    let entered : q.log ≡ log ++ cleared c.draw-number.result ∷ [] = search rules in
    let here : q.shard ≡ c.args.shard.now.shard = search rules in
    let r = c.enter-receipt.result in
    let both : BothSeen was r.seen c.take_receipt.new.pass.seen = subst (λ (p : List (List Entry)). BothSeen p r.seen c.take_receipt.new.pass.seen) same c.take_receipt.ensures.seen in
    let shown : at_log r.seen q.shard ≡ q.log = subst (λ (x : Receipt). at_log r.seen x.shard ≡ x.log) c.enter-receipt.ensures.receipt c.take_receipt.ensures.shown in
    let first : log ≡ at_log was q.shard = sym (ap (at_log was) here ∙ c.requires.seen) in
    let prefix : IsPrefix (at_log was q.shard) q.log = subst (λ (p : List Entry × List Entry). IsPrefix p.0 p.1) (λ j. (first j, sym entered j)) (prefix-append log (cleared c.draw-number.result ∷ [])) in
    sees-all was r.seen c.take_receipt.new.pass.seen q.shard q.log both shown prefix
