use Rattle.std.proofs.Common.{◌≡◌, ◌∙◌, ap, sym, subst}
use Rattle.df_model.specs.declared.command.Call.{Call}
use Rattle.df_book.specs.Passes.{Caller}
use Rattle.df_caller.specs.declared.slip.Slip.{Slip}
use Rattle.df_coord.specs.Asking.{RunsAlone}
use Rattle.df_coord.specs.OneHops.{Drawn}
use Rattle.df_coord.proofs.RunLaws.{asked-so}
use Rattle.df_coord.proofs.one_hop.OneHop.start.Goals as goal

pub send-requires : goal.send-requires
send-requires g c =
    let o = c.args.self.now in let h = c.requires.going in let e = c.ask-m.ensures in let m = c.ask-m.result in let w : Caller = c.ask-m.new.pass in
    let call : Call = c.args.slip.value.call in
    let kept : c.of-call.result.value ≡ call = c.of-call.ensures ∙ ap (λ (s : Slip). s.call) c.deref.ensures in
    let at : m.shard ≡ c.args.shard = e.shard in
    let drawn : Drawn o.shards m.shard c.args.hash o.before.value w call m.number = record {
      runs = subst (λ s. RunsAlone o.shards s call) (sym at) h.stands.1;
      hashed = h.stands.2;
      drawer = o.pass;
      passed = h.stands.3;
      asked = e.asked;
    } in
    let under = asked-so o.shards c.args.shard o.pass w call m.number h.stands.1.there e.asked in record {
      going = record {
        some = h.some;
        words = h.words;
        pass = ap (λ (p : Caller). p.book) e.asked.now ∙ h.pass;
        caller = ap (λ (p : Caller). p.first) e.asked.now ∙ h.caller;
        bounded = under.bounded;
        post = h.post;
        shards = h.shards;
        stands = (
          h.stands.0,
          subst (λ x. Drawn o.shards m.shard c.args.hash o.before.value w x m.number) (sym kept) drawn,
          e.awaited,
          e.book,
        );
      };
      taken = c.requires.taken;
    }
