use Rattle.std.proofs.Common.{◌≡◌, ◌<◌, refl, sym, ap, ◌∙◌, subst}
use Rattle.df_log.specs.declared.entry.Entry.{Entry}
use Rattle.df_book.specs.Weights.{Each}
use Rattle.df_book.specs.Logs.{BothSeen, HasRoom, IsFresh}
use Rattle.df_book.specs.Draws.{draws_of, Agreed}
use Rattle.df_book.specs.Passes.{Caller, Shard, after_draw, running_of, after_ticket, after_running, after_receipt, after_entry, receipt_of}
use Rattle.df_end.specs.OneCall.{Idle, flushall, flushed}
use Rattle.df_end.proofs.FlushLaws.{is-drawn, has-room, is-fresh, entered, went}
use Rattle.df_end.proofs.one_call.flush.Goals as goal

pub enter-receipt-requires-clause-drawn : goal.enter-receipt-requires-clause-drawn
enter-receipt-requires-clause-drawn c =
    let p = c.args.shard.now in let v = c.args.caller.now in let n = c.draw-number.result in let seen = c.take_ticket.new.pass.seen in
    let caller : c.draw-number.new.pass ≡ after_draw v flushall n = c.draw-number.ensures.drawn ∙ ap (λ k. after_draw v k n) c.requires.call in
    let ticket : c.ticket-ticket.result ≡ running_of (after_draw v flushall n) = (c.ticket-ticket.ensures.running refl).1 ∙ ap running_of caller in
    let taken : c.take_ticket.new.pass ≡ after_ticket p (running_of (after_draw v flushall n)) seen = c.take_ticket.ensures.taken ∙ ap (λ t. after_ticket p t seen) ticket in
    let low : Each (λ (e : Entry). e.number < n) p.log = subst (Each (λ (e : Entry). e.number < n)) c.requires.shard.1 (c.draw-number.ensures.above_seen 0) in
    subst (λ (q : Entry × Shard). 0 < draws_of q.0.number q.1.known) (λ j. (sym c.entry_of.ensures j, sym taken j))
    (is-drawn p v n seen c.requires.idle c.requires.shard.0 c.draw-number.ensures.range.0 low)

pub enter-receipt-requires-clause-running : goal.enter-receipt-requires-clause-running
enter-receipt-requires-clause-running c =
    let p = c.args.shard.now in let v = c.args.caller.now in let n = c.draw-number.result in let seen = c.take_ticket.new.pass.seen in
    let caller : c.draw-number.new.pass ≡ after_draw v flushall n = c.draw-number.ensures.drawn ∙ ap (λ k. after_draw v k n) c.requires.call in
    let ticket : c.ticket-ticket.result ≡ running_of (after_draw v flushall n) = (c.ticket-ticket.ensures.running refl).1 ∙ ap running_of caller in
    let taken : c.take_ticket.new.pass ≡ after_ticket p (running_of (after_draw v flushall n)) seen = c.take_ticket.ensures.taken ∙ ap (λ t. after_ticket p t seen) ticket in
    let low : Each (λ (e : Entry). e.number < n) p.log = subst (Each (λ (e : Entry). e.number < n)) c.requires.shard.1 (c.draw-number.ensures.above_seen 0) in
    subst (λ (q : Entry × Shard). HasRoom q.1.log q.1.counted q.0) (λ j. (sym c.entry_of.ensures j, sym taken j))
    (has-room p v n seen c.requires.idle c.requires.shard.0 c.draw-number.ensures.range.0 low)

pub enter-receipt-requires-clause-fresh : goal.enter-receipt-requires-clause-fresh
enter-receipt-requires-clause-fresh c =
    let p = c.args.shard.now in let v = c.args.caller.now in let n = c.draw-number.result in let seen = c.take_ticket.new.pass.seen in
    let caller : c.draw-number.new.pass ≡ after_draw v flushall n = c.draw-number.ensures.drawn ∙ ap (λ k. after_draw v k n) c.requires.call in
    let ticket : c.ticket-ticket.result ≡ running_of (after_draw v flushall n) = (c.ticket-ticket.ensures.running refl).1 ∙ ap running_of caller in
    let taken : c.take_ticket.new.pass ≡ after_ticket p (running_of (after_draw v flushall n)) seen = c.take_ticket.ensures.taken ∙ ap (λ t. after_ticket p t seen) ticket in
    let low : Each (λ (e : Entry). e.number < n) p.log = subst (Each (λ (e : Entry). e.number < n)) c.requires.shard.1 (c.draw-number.ensures.above_seen 0) in
    subst (λ (q : Entry × Shard). IsFresh q.1.log q.0) (λ j. (sym c.entry_of.ensures j, sym taken j))
    (is-fresh p v n seen c.requires.idle c.requires.shard.0 c.draw-number.ensures.range.0 low)

pub returns-clause-idle : goal.returns-clause-idle
returns-clause-idle c =
    let p = c.args.shard.now in let v = c.args.caller.now in let n = c.draw-number.result in let seen = c.take_ticket.new.pass.seen in
    let caller : c.draw-number.new.pass ≡ after_draw v flushall n = c.draw-number.ensures.drawn ∙ ap (λ k. after_draw v k n) c.requires.call in
    let ticket : c.ticket-ticket.result ≡ running_of (after_draw v flushall n) = (c.ticket-ticket.ensures.running refl).1 ∙ ap running_of caller in
    let taken : c.take_ticket.new.pass ≡ after_ticket p (running_of (after_draw v flushall n)) seen = c.take_ticket.ensures.taken ∙ ap (λ t. after_ticket p t seen) ticket in
    let low : Each (λ (e : Entry). e.number < n) p.log = subst (Each (λ (e : Entry). e.number < n)) c.requires.shard.1 (c.draw-number.ensures.above_seen 0) in
    let agreed : Agreed (after_ticket p (running_of (after_draw v flushall n)) seen).known = subst (λ (q : Shard). Agreed q.known) taken c.take_ticket.ensures.agreed in
    subst Idle (sym (c.enter-receipt.ensures.grown ∙ (λ j. after_entry (taken j) (c.entry_of.ensures j))))
    (entered p v n seen c.requires.idle c.requires.shard.0 c.draw-number.ensures.range.0 low agreed)

pub returns-clause-went : goal.returns-clause-went
returns-clause-went c =
    let p = c.args.shard.now in let v = c.args.caller.now in let n = c.draw-number.result in let u = c.take_receipt.new.pass in
    let r = c.enter-receipt.result in
    let caller : c.draw-number.new.pass ≡ after_draw v flushall n = c.draw-number.ensures.drawn ∙ ap (λ k. after_draw v k n) c.requires.call in
    let running : c.ticket-ticket.new.pass ≡ after_running (after_draw v flushall n) = (c.ticket-ticket.ensures.running refl).0 ∙ ap after_running caller in
    let now : u ≡ after_receipt (after_running (after_draw v flushall n)) r u.seen = c.take_receipt.ensures.taken ∙ ap (λ q. after_receipt q r u.seen) running in
    let entered : r ≡ receipt_of (after_entry c.take_ticket.new.pass (flushed n)) = c.enter-receipt.ensures.receipt ∙ ap receipt_of (c.enter-receipt.ensures.grown ∙ ap (after_entry c.take_ticket.new.pass) c.entry_of.ensures) in
    let both : BothSeen v.seen r.seen u.seen = subst (λ (q : Caller). BothSeen q.seen r.seen u.seen) running c.take_receipt.ensures.seen in
    went v u n r c.take_ticket.new.pass.log c.draw-number.ensures.above_seen c.draw-number.ensures.above_own c.draw-number.ensures.range.0 c.draw-number.ensures.fresh
    (ap (λ q. q.shard) entered ∙ ap (λ q. q.shard) c.take_ticket.ensures.taken ∙ c.requires.shard.0)
    (ap (λ q. q.log) entered) now both c.take_receipt.ensures.shown c.take_receipt.ensures.bounded
