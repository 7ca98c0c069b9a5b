use Rattle.std.proofs.Common.{◌∙◌, ap, sym, ℕ}
use Rattle.df_book.specs.Passes.{Ticket}
use Rattle.df_hops.specs.Parts.{act_of}
use Rattle.df_hops.specs.Said.{runs_due, act_said, act_due}
use Rattle.df_shard.specs.Holds.{View}
use Rattle.df_shard.specs.Came.{Took}
use Rattle.df_shard.proofs.Tickets.{comes}
use Rattle.df_shard.proofs.shard.Shard.hop.Goals as goal

pub arm-requires : goal.arm-requires
arm-requires c =
    let m = c.args.m in let t : Ticket = m.ticket in let n : ℕ = m.number in let is = c.in-Hop.is in
    let x : View = c.args.self.now in let y : View = c.take_ticket.new.self in let k : Took x y t = c.take_ticket.ensures in
    record {
      comes = comes x y t n m.shard c.in-Hop.hop (act_of c.in-Hop.part) k (c.requires.book.1 ∙ sym c.requires.book.0) c.requires.here.0
          (m.runs ∙ ap (runs_due n) is) m.drawn (sym (ap act_said is) ∙ m.act ∙ ap (λ b. act_due b m.shard n t) is);
    }
