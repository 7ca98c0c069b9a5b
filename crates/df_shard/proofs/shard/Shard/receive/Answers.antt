use Rattle.std.proofs.Common.{◌∙◌, ap, sym, refl, ℕ}
use Rattle.df_model.specs.declared.command.Call.{Call}
use Rattle.df_book.specs.Passes.{Ticket}
use Rattle.df_hops.specs.Said.{runs_due, call_said, call_due, hash_said, hash_due, act_said, act_due}
use Rattle.df_shard.specs.Holds.{View}
use Rattle.df_shard.specs.Came.{Took}
use Rattle.df_shard.proofs.Tickets.{brings, took-book, took-rest}
use Rattle.df_shard.proofs.shard.Shard.receive.Goals as goal

pub returns : goal.returns
returns c =
    let m = c.args.m in let t : Ticket = m.ticket in let n : ℕ = m.number in let is = c.in-Quick.is in
    let call : Call = c.in-Quick.slip.value.call in
    let x : View = c.args.self.now in let y : View = c.take_ticket.new.self in let k : Took x y t = c.take_ticket.ensures in
    record {
      book = took-book x y t k ∙ c.requires.book.0;
      pass = took-rest x y t k;
      asked = (refl, refl);
      call = ap call_said is;
      hash = sym (ap hash_said is) ∙ m.hash ∙ ap hash_due is;
      brought = brings x y t n m.shard c.in-Quick.hop call k (c.requires.book.1 ∙ sym c.requires.book.0) c.requires.here.0
          (m.runs ∙ ap (runs_due n) is) m.drawn (sym (ap call_said is) ∙ m.call ∙ ap (λ b. call_due b n t) is)
          (sym (ap act_said is) ∙ m.act ∙ ap (λ b. act_due b m.shard n t) is);
    }
