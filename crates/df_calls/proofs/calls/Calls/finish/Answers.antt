use Rattle.std.proofs.Common.{◌∙◌, ap, subst, sym}
use Rattle.df_book.specs.Weights.{head_or}
use Rattle.df_book.specs.Passes.{Caller}
use Rattle.df_end.specs.Sessions.{SessionHolds}
use Rattle.df_calls.proofs.calls.Calls.finish.Goals as goal

pub returns : goal.returns
returns c =
    let i = c.self.inside in
    let same = c.finished-pass.ensures i.book.now i.shards i.rested.value c.self.invariant.runs in
    let r = c.finished-pass.result.0 in record {
      pass_is = same ∙ ap (λ v. v.rested) c.self.view_is;
      rows_is = ap (λ v. v.rows) c.self.view_is;
      session = subst (λ n. SessionHolds n (head_or 0 r.sessions) r i.rows.rows) (ap (λ v. v.shards) c.self.view_is)
          (subst (λ (v : Caller). SessionHolds i.shards (head_or 0 v.sessions) v i.rows.rows) (sym same) c.self.invariant.session);
    }
