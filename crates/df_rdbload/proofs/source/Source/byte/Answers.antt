use Rattle.std.proofs.Common.{[], ◌∷◌, length, refl, ap, arith}
use Rattle.df_rdbload.specs.Sources.{IsByte, ByteStops}
use Rattle.df_rdbload.proofs.Steps.{err_is, reads_none}
use Rattle.df_rdbload.proofs.SourceLaws.{IsNothing, Never, form_taken, goes_on_reading, fails_reading, ends_reading, less_left}
use Rattle.df_rdbload.proofs.source.Source.byte.Goals as goal

pub feed-init : goal.feed-init
feed-init g c = reads_none IsNothing Never tt refl

pub feed-preserved : goal.feed-preserved
feed-preserved g c = goes_on_reading c.feed.invariant c.byte_here.new.self c.more.new.self c.in_default.ensures.cursor.1 c.in_default.ensures.others (rw c.if-not-goes_on.false at c.in_ok-goes_on.ensures)

pub feed-smaller : goal.feed-smaller
feed-smaller g c = less_left c.feed.self c.byte_here.new.self c.more.new.self c.in_default.ensures.others (rw c.if-not-goes_on.false at c.in_ok-goes_on.ensures).left

pub returns-in-Some-clause-reads : goal.returns-in-Some-clause-reads
returns-in-Some-clause-reads g c = form_taken c.feed.invariant IsByte ByteStops c.in-Some.byte (c.in-Some.byte ∷ []) c.byte_here.new.self refl c.in-Some.ensures.cursor c.in-Some.ensures.others

pub returns-in-Some-clause-takes : goal.returns-in-Some-clause-takes
returns-in-Some-clause-takes g c = let runs = c.feed.invariant.goes.runs in let long = ap length c.in-Some.ensures.cursor.rest in let next_is = c.in-Some.ensures.others.next in omega (arith, runs, long, next_is)

pub returns-in_err-goes_on-clause-reads : goal.returns-in_err-goes_on-clause-reads
returns-in_err-goes_on-clause-reads g c = fails_reading c.feed.invariant IsByte ByteStops _ _ c.byte_here.new.self c.more.new.self (err_is _ c.in_err-goes_on.field-0.0 c.from_residual.ensures.1) c.in_default.ensures.cursor.1 c.in_default.ensures.others c.in_err-goes_on.ensures

pub returns-then-not-goes_on-clause-reads : goal.returns-then-not-goes_on-clause-reads
returns-then-not-goes_on-clause-reads g c =
    ends_reading c.feed.invariant IsByte ByteStops c.too_short.result c.byte_here.new.self c.more.new.self (λ size at f e. (c.in_default.ensures.cursor.0, e))
    c.in_default.ensures.cursor.1 c.in_default.ensures.others (rw c.if-not-goes_on.true at c.in_ok-goes_on.ensures) c.too_short.ensures
