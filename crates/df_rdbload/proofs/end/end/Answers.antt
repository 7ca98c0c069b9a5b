use Rattle.df_rdbload.proofs.Steps.{err_is}
use Rattle.std.proofs.Common.{inl, inr, arith}
use Rattle.df_rdbload.proofs.EndLaws.{sum_wrong, end_fails, end_after, end_whole, end_short}
use Rattle.df_rdbload.proofs.ValueLaws.{at_true, at_false}
use Rattle.df_rdbload.proofs.end.end.Goals as goal

pub returns-in_err-bytes : goal.returns-in_err-bytes
returns-in_err-bytes g c = end_short _ _ (err_is _ c.in_err-bytes.field-0.0 c.from_residual.ensures.1) c.in_err-bytes.ensures

pub returns-then-not-is_good : goal.returns-then-not-is_good
returns-then-not-is_good g c =
    let isnt = at_false _ _ c.if-not-is_good.true c.is_good.ensures.no in
    sum_wrong c.in_ok-bytes.bytes c.in_ok-bytes.ensures c.number-stored.result c.sum-computed.result c.place-at.result (omega arith) c.number-stored.ensures (λ e. isnt (inl e)) (λ e. isnt (inr e)) c.sum-computed.ensures c.place-at.ensures

pub returns-in_err-is_end : goal.returns-in_err-is_end
returns-in_err-is_end g c =
    end_fails c.in_ok-bytes.bytes c.in_ok-bytes.ensures c.number-stored.result (omega arith) c.number-stored.ensures (rw c.sum-computed.ensures at (at_true _ _ c.if-not-is_good.false c.is_good.ensures.yes))
    _ _ (err_is _ c.in_err-is_end.field-0.0 c.from_residual-in_err-is_end.ensures.1) c.in_err-is_end.ensures

pub returns-then-not-is_end : goal.returns-then-not-is_end
returns-then-not-is_end g c =
    end_after c.in_ok-bytes.bytes c.in_ok-bytes.ensures c.number-stored.result (omega arith) c.number-stored.ensures (rw c.sum-computed.ensures at (at_true _ _ c.if-not-is_good.false c.is_good.ensures.yes))
    c.place-after.result c.place-after.ensures (rw c.if-not-is_end.true at c.in_ok-is_end.ensures)

pub returns : goal.returns
returns g c =
    end_whole c.in_ok-bytes.bytes c.in_ok-bytes.ensures c.number-stored.result (omega arith) c.number-stored.ensures (rw c.sum-computed.ensures at (at_true _ _ c.if-not-is_good.false c.is_good.ensures.yes))
    (rw c.if-not-is_end.false at c.in_ok-is_end.ensures)
