use Rattle.std.proofs.Common.{refl}
use Rattle.df_rdbcore.specs.Texts.{IsLength}
use Rattle.df_rdbload.specs.Stops.{LengthStops}
use Rattle.df_rdbload.proofs.Steps.{err_is, reads_none}
use Rattle.df_rdbload.proofs.SourceLaws.{IsNothing, Never, form_taken, no_length, goes_on_reading, fails_reading, ends_reading, less_left}
use Rattle.df_rdbload.proofs.source.Source.len.Goals as goal

pub feed-init : goal.feed-init
feed-init g c = reads_none IsNothing Never tt refl

pub feed-preserved : goal.feed-preserved
feed-preserved g c =
    let none = rw c.in_default.is at c.in_ok-n.ensures.cursor in
    goes_on_reading c.feed.invariant c.len_here.new.self c.more.new.self none.0 c.in_ok-n.ensures.others (rw c.if-not-goes_on.false at c.in_ok-goes_on.ensures)

pub feed-smaller : goal.feed-smaller
feed-smaller g c = less_left c.feed.self c.len_here.new.self c.more.new.self c.in_ok-n.ensures.others (rw c.if-not-goes_on.false at c.in_ok-goes_on.ensures).left

pub returns-in-Some : goal.returns-in-Some
returns-in-Some g c =
    let some = rw c.in-Some.is at c.in_ok-n.ensures.cursor in
    form_taken c.feed.invariant IsLength LengthStops c.in-Some.n some.0 c.len_here.new.self some.1 some.2 c.in_ok-n.ensures.others

pub returns-in_err-n : goal.returns-in_err-n
returns-in_err-n g c = no_length c.feed.invariant _ _ c.len_here.new.self (err_is _ c.in_err-n.field-0.0 c.from_residual.ensures.1) c.in_err-n.ensures.cursor.0 c.in_err-n.ensures.others c.in_err-n.ensures.cursor.1

pub returns-in_err-goes_on : goal.returns-in_err-goes_on
returns-in_err-goes_on g c =
    let none = rw c.in_default.is at c.in_ok-n.ensures.cursor in
    fails_reading c.feed.invariant IsLength LengthStops _ _ c.len_here.new.self c.more.new.self (err_is _ c.in_err-goes_on.field-0.0 c.from_residual-in_err-goes_on.ensures.1) none.0 c.in_ok-n.ensures.others c.in_err-goes_on.ensures

pub returns-then-not-goes_on : goal.returns-then-not-goes_on
returns-then-not-goes_on g c =
    let none = rw c.in_default.is at c.in_ok-n.ensures.cursor in
    ends_reading c.feed.invariant IsLength LengthStops c.too_short.result c.len_here.new.self c.more.new.self (λ size at f e. LengthStops.Cut none.1 e)
    none.0 c.in_ok-n.ensures.others (rw c.if-not-goes_on.true at c.in_ok-goes_on.ensures) c.too_short.ensures
