use Rattle.std.proofs.Common.{◌≡◌, ◌<◌, ◌∷◌, [], ℕ, refl, sym, ap, ◌∙◌, subst}
use Rattle.std.specs.Prelude.{Option}
use Rattle.df_log.specs.Acts.{Act}
use Rattle.df_core.specs.Due.{due}
use Rattle.df_core.specs.Steps.{steps_of}
use Rattle.df_book.specs.Draws.{call_at, draws_of, last_number}
use Rattle.df_book.specs.Passes.{BookName, Caller, Ticket, running_of}
use Rattle.df_end.specs.Logs.{entries_in}
use Rattle.df_hops.specs.Parts.{shards_in}
use Rattle.df_hops.proofs.asking.hop.Goals as goal

pub invariant_of-result : goal.invariant_of-result
invariant_of-result c =
    let p : Caller = c.args.pass.now in let n : ℕ = c.args.number in
    let is : c.ticket-running.result ≡ running_of p = (c.ticket-running.ensures.running refl).1 in
    let due_by : BookName → Ticket → Option Act = λ z t. due (shards_in z) (call_at t.known n) (λ i. steps_of (entries_in (shards_in z) t.seen n i)) c.args.shard c.args.hop in
    record {
      last = ap (λ (t : Ticket). last_number t.known) is ∙ c.requires.last;
      drawn = subst (λ (t : Ticket). 0 < draws_of n t.known) (sym is) c.requires.drawn.1;
      runs = ap (λ (t : Ticket). t.runs) is ∙ ap (λ m. m ∷ []) c.requires.last;
      call = refl;
      hash = refl;
      keys = refl;
      act = c.requires.due ∙ ap (λ z. due_by z (running_of p)) (sym c.requires.book) ∙ ap (λ (t : Ticket). due_by t.book t) (sym is);
      fit = refl;
    }
