use Rattle.std.proofs.Common.{subst}
use Rattle.df_book.specs.Passes.{Shard}
use Rattle.df_shard.specs.Fields.{view_of}
use Rattle.df_shard.specs.Holds.{View}
use Rattle.df_shard.specs.Came.{Took, with_pass}
use Rattle.df_shard.proofs.Tickets.{takes, took}
use Rattle.df_shard.proofs.shard.Shard.take_ticket.Goals as goal

pub invariant_of-self : goal.invariant_of-self
invariant_of-self c =
    takes (view_of c.self.inside) c.args.ticket c.take_ticket.new.pass c.take_ticket.ensures.taken c.take_ticket.ensures.seen c.take_ticket.ensures.own c.self.invariant

pub returns : goal.returns
returns c =
    let x : View = view_of c.self.inside in
    let p : Shard = c.take_ticket.new.pass in
    subst (λ (v : View). Took v (with_pass x p) c.args.ticket) c.self.view_is
    (took x c.args.ticket p c.take_ticket.ensures.taken c.take_ticket.ensures.seen c.take_ticket.ensures.own c.take_ticket.ensures.agreed c.self.invariant)
