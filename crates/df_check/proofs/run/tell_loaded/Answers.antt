use Rattle.std.proofs.Common.{sym, subst, ◌∙◌}
use Rattle.df_values.specs.Seen.{seen}
use Rattle.df_table.proofs.TableLaws.{len_entries}
use Rattle.df_check.specs.Check.{KeysStatus, KeysTold}
use Rattle.df_check.proofs.run.tell_loaded.Goals as goal

pub returns-in-NoFile : goal.returns-in-NoFile
returns-in-NoFile g c =
    subst (λ l. KeysTold l c.tell.result (g.O.Sink.outflow c.args.out.now) (g.O.Sink.outflow c.tell.new.out)) (sym c.in-NoFile.is) c.tell.ensures

pub returns-in-Keys : goal.returns-in-Keys
returns-in-Keys g c =
    let entries = c.in-Keys.keys.entries in
    subst (λ l. KeysTold l c.tell_keys.result (g.O.Sink.outflow c.args.out.now) (g.O.Sink.outflow c.tell_keys.new.out)) (sym c.in-Keys.is)
    (subst (λ n. KeysStatus n c.tell_keys.result (g.O.Sink.outflow c.args.out.now) (g.O.Sink.outflow c.tell_keys.new.out)) (c.len.ensures.len ∙ sym (len_entries seen entries c.len.ensures.unique)) c.tell_keys.ensures)
