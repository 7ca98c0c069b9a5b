use Rattle.df_rdbload.proofs.Steps.{err_is}
use Rattle.df_rdbload.proofs.PartLaws.{file_head, file_parts, file_end, file_whole}
use Rattle.df_rdbload.proofs.file.read_file.Goals as goal

pub returns-in_err-head : goal.returns-in_err-head
returns-in_err-head g c = file_head _ _ (err_is _ c.in_err-head.field-0.0 c.from_residual.ensures.1) c.in_err-head.ensures

pub returns-in_err-keys : goal.returns-in_err-keys
returns-in_err-keys g c = file_parts c.in_ok-head.ensures _ _ (err_is _ c.in_err-keys.field-0.0 c.from_residual-in_err-keys.ensures.1) c.in_err-keys.ensures

pub returns-in_err-end : goal.returns-in_err-end
returns-in_err-end g c = file_end c.in_ok-head.ensures c.in_ok-keys.keys c.in_ok-keys.ensures _ _ (err_is _ c.in_err-end.field-0.0 c.from_residual-in_err-end.ensures.1) c.in_err-end.ensures

pub returns : goal.returns
returns g c = file_whole c.in_ok-head.ensures c.in_ok-keys.keys c.in_ok-keys.ensures c.in_ok-end.ensures
