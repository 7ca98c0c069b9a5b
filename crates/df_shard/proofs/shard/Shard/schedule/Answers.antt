use Rattle.std.proofs.Common.{◌≡◌, ◌∙◌, ap, sym, ℕ}
use Rattle.std.specs.Prelude.{Some}
use Rattle.df_model.specs.declared.keys.Keys.{Keys}
use Rattle.df_footprints.specs.Footprints.{footprint_of}
use Rattle.df_book.specs.Draws.{call_at}
use Rattle.df_book.specs.Passes.{Ticket}
use Rattle.df_hops.specs.Parts.{shards_in}
use Rattle.df_hops.specs.Said.{keys_said, keys_due}
use Rattle.df_shard.proofs.Tickets.{asks-came, drawn-came}
use Rattle.df_shard.proofs.shard.Shard.schedule.Goals as goal

pub take_in-body-requires-clause-drawn : goal.take_in-body-requires-clause-drawn
take_in-body-requires-clause-drawn c =
    let m = c.args.m in drawn-came c.args.self.now c.take_ticket.new.self m.ticket m.number c.take_ticket.ensures m.drawn

pub take_in-body-requires-clause-asks : goal.take_in-body-requires-clause-asks
take_in-body-requires-clause-asks c =
    let m = c.args.m in let t : Ticket = m.ticket in let n : ℕ = m.number in let is = c.in-Schedule.is in
    let k : Keys = c.into_inner.result in
    let asks : Some k ≡ footprint_of (shards_in t.book) (call_at t.known n) m.shard =
    ap Some c.into_inner.ensures ∙ sym (ap keys_said is) ∙ m.keys ∙ ap (λ b. keys_due b m.shard n t) is in
    asks-came c.args.self.now c.take_ticket.new.self t n m.shard k c.take_ticket.ensures (c.requires.book.1 ∙ sym c.requires.book.0) c.requires.here.0 m.drawn asks
