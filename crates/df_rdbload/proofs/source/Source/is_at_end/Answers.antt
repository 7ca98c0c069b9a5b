use Rattle.std.proofs.Common.{refl}
use Rattle.df_rdbload.proofs.Steps.{err_is, reads_none}
use Rattle.df_rdbload.proofs.SourceLaws.{IsNothing, Never, goes_past, goes_on_reading, fails_end, at_end, less_left}
use Rattle.df_rdbload.proofs.source.Source.is_at_end.Goals as goal

pub feed-init : goal.feed-init
feed-init g c = reads_none IsNothing Never tt refl

pub feed-preserved : goal.feed-preserved
feed-preserved g c = goes_on_reading c.feed.invariant c.byte_here.new.self c.more.new.self c.in_default.ensures.cursor.1 c.in_default.ensures.others (rw c.if-not-goes_on.false at c.in_ok-goes_on.ensures)

pub feed-smaller : goal.feed-smaller
feed-smaller g c = less_left c.feed.self c.byte_here.new.self c.more.new.self c.in_default.ensures.others (rw c.if-not-goes_on.false at c.in_ok-goes_on.ensures).left

pub returns-in-Some : goal.returns-in-Some
returns-in-Some g c = goes_past c.feed.invariant c.in-Some._byte c.byte_here.new.self c.in-Some.ensures.cursor c.in-Some.ensures.others

pub returns-in_err-goes_on : goal.returns-in_err-goes_on
returns-in_err-goes_on g c = fails_end c.feed.invariant _ _ c.byte_here.new.self c.more.new.self (err_is _ c.in_err-goes_on.field-0.0 c.from_residual.ensures.1) c.in_default.ensures.cursor.1 c.in_default.ensures.others c.in_err-goes_on.ensures

pub returns-then-not-goes_on : goal.returns-then-not-goes_on
returns-then-not-goes_on g c = at_end c.feed.invariant c.byte_here.new.self c.more.new.self c.in_default.ensures.cursor.0 c.in_default.ensures.cursor.1 c.in_default.ensures.others (rw c.if-not-goes_on.true at c.in_ok-goes_on.ensures)
