use Rattle.std.proofs.Common.{inl, inr, sym, subst}
use Rattle.df_check.specs.Check.{IsOfFile}
use Rattle.df_check.proofs.CheckLaws.{told_refused}
use Rattle.df_check.proofs.run.tell_fault.Goals as goal

pub returns-in-BadMagic : goal.returns-in-BadMagic
returns-in-BadMagic g c =
    let file : IsOfFile c.args.fault = elim c.in-BadMagic.is [
      | inl e ↦ subst IsOfFile (sym e) tt
      | inr (inl e) ↦ subst IsOfFile (sym e) tt
      | inr (inr (inl e)) ↦ subst IsOfFile (sym e.1) tt
      | inr (inr (inr (inl e))) ↦ subst IsOfFile (sym e.1) tt
      | inr (inr (inr (inr (inl e)))) ↦ subst IsOfFile (sym e.2) tt
      | inr (inr (inr (inr (inr (inl e))))) ↦ subst IsOfFile (sym e.2) tt
      | inr (inr (inr (inr (inr (inr (inl e)))))) ↦ subst IsOfFile (sym e.2) tt
      | inr (inr (inr (inr (inr (inr (inr (inl e))))))) ↦ subst IsOfFile (sym e.2) tt
      | inr (inr (inr (inr (inr (inr (inr (inr e))))))) ↦ subst IsOfFile (sym e.3) tt
    ] in
    told_refused c.args.fault c.tell_refused.result (g.O.Sink.outflow c.args.out.now) (g.O.Sink.outflow c.tell_refused.new.out) file c.tell_refused.ensures
