use Rattle.std.proofs.Common.{◌∙◌, sym, subst}
use Rattle.df_rdbload.specs.Loads.{HasLoaded}
use Rattle.df_rdbload.proofs.Steps.{err_is}
use Rattle.df_rdbload.proofs.LoadLaws.{none_first, none_later, keys_loaded, refused_first, refused_later}
use Rattle.df_rdbload.proofs.file.load.Goals as goal

pub returns-in_err-_some-clause-loaded : goal.returns-in_err-_some-clause-loaded
returns-in_err-_some-clause-loaded g c =
    let fault = c.in_err-_some.field-0.0 in
    subst (λ r. HasLoaded r (g.K.Disk.stored c.more.new.disk) (g.K.Disk.faults c.args.disk.now) (g.K.Disk.faults c.more.new.disk)) (sym (err_is _ fault c.from_residual.ensures.1))
    (refused_first fault _ _ _ _ _ _ c.in_err-_some.ensures)

pub returns-then-is_missing-clause-loaded : goal.returns-then-is_missing-clause-loaded
returns-then-is_missing-clause-loaded g c = none_first c.in_ok-_some._some c.in-Ok.ensures c.in_ok-_some.ensures (sym c.is_missing.ensures ∙ c.if-is_missing.true)

pub returns-then-is_missing-2-clause-loaded : goal.returns-then-is_missing-2-clause-loaded
returns-then-is_missing-2-clause-loaded g c =
    none_later c.in_ok-_some._some c.in-Ok.ensures c.in_ok-_some.ensures c.read_file-read.result c.read_file-read.ensures (sym c.is_missing.ensures ∙ c.if-is_missing.false) (sym c.is_missing-2.ensures ∙ c.if-is_missing-2.true)

pub returns-in_err-keys-clause-loaded : goal.returns-in_err-keys-clause-loaded
returns-in_err-keys-clause-loaded g c =
    let fault = c.in_err-keys.field-0.0 in
    subst (λ r. HasLoaded r (g.K.Disk.stored c.read_file-read.new.disk) (g.K.Disk.faults c.args.disk.now) (g.K.Disk.faults c.read_file-read.new.disk)) (sym (err_is _ fault c.from_residual-in_err-keys.ensures.1))
    (refused_later c.in_ok-_some._some c.in-Ok.ensures c.in_ok-_some.ensures fault c.in_err-keys.ensures (sym c.is_missing.ensures ∙ c.if-is_missing.false))

pub returns-clause-loaded : goal.returns-clause-loaded
returns-clause-loaded g c = keys_loaded c.in_ok-_some._some c.in-Ok.ensures c.in_ok-_some.ensures c.in_ok-keys.keys c.in_ok-keys.ensures (sym c.is_missing.ensures ∙ c.if-is_missing.false)
