use Rattle.std.proofs.Common.{refl}
use Rattle.df_rdbcore.specs.Texts.{IsText}
use Rattle.df_rdbload.specs.Stops.{TextStops}
use Rattle.df_rdbload.proofs.Steps.{err_is, reads_none}
use Rattle.df_rdbload.proofs.SourceLaws.{IsNothing, Never, form_taken, no_text, goes_on_reading, fails_reading, ends_reading, less_left}
use Rattle.df_rdbload.proofs.source.Source.string.Goals as goal

pub feed-init : goal.feed-init
feed-init g c = reads_none IsNothing Never tt refl

pub feed-preserved : goal.feed-preserved
feed-preserved g c =
    let none = rw c.in_default.is at c.in_ok-text.ensures.cursor in
    goes_on_reading c.feed.invariant c.string_here.new.self c.more.new.self none.0 c.in_ok-text.ensures.others (rw c.if-not-goes_on.false at c.in_ok-goes_on.ensures)

pub feed-smaller : goal.feed-smaller
feed-smaller g c = less_left c.feed.self c.string_here.new.self c.more.new.self c.in_ok-text.ensures.others (rw c.if-not-goes_on.false at c.in_ok-goes_on.ensures).left

pub returns-in-Some : goal.returns-in-Some
returns-in-Some g c =
    let some = rw c.in-Some.is at c.in_ok-text.ensures.cursor in
    form_taken c.feed.invariant IsText TextStops c.in-Some.text some.0 c.string_here.new.self some.1 some.2 c.in_ok-text.ensures.others

pub returns-in_err-text : goal.returns-in_err-text
returns-in_err-text g c = no_text c.feed.invariant _ _ c.string_here.new.self (err_is _ c.in_err-text.field-0.0 c.from_residual.ensures.1) c.in_err-text.ensures.cursor.0 c.in_err-text.ensures.others c.in_err-text.ensures.cursor.1

pub returns-in_err-goes_on : goal.returns-in_err-goes_on
returns-in_err-goes_on g c =
    let none = rw c.in_default.is at c.in_ok-text.ensures.cursor in
    fails_reading c.feed.invariant IsText TextStops _ _ c.string_here.new.self c.more.new.self (err_is _ c.in_err-goes_on.field-0.0 c.from_residual-in_err-goes_on.ensures.1) none.0 c.in_ok-text.ensures.others c.in_err-goes_on.ensures

pub returns-then-not-goes_on : goal.returns-then-not-goes_on
returns-then-not-goes_on g c =
    let none = rw c.in_default.is at c.in_ok-text.ensures.cursor in
    ends_reading c.feed.invariant IsText TextStops c.too_short.result c.string_here.new.self c.more.new.self (λ size at f e. TextStops.Cut none.1 e)
    none.0 c.in_ok-text.ensures.others (rw c.if-not-goes_on.true at c.in_ok-goes_on.ensures) c.too_short.ensures
