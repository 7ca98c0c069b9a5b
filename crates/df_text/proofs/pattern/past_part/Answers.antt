use Rattle.std.proofs.Common.{rules}
use Rattle.df_text.proofs.ReadingLaws.{past_any, past_one, past_escaped}
use Rattle.df_text.proofs.pattern.past_part.Goals as goal

pub returns-then-first-eq63-clause-past : goal.returns-then-first-eq63-clause-past
returns-then-first-eq63-clause-past c = λ bs. past_any c.args.first c.args.byte c.args.rest.now bs c.if-first-eq63.true

pub returns-then-one-byte-clause-past : goal.returns-then-one-byte-clause-past
returns-then-one-byte-clause-past c = λ bs. past_escaped c.args.first c.in-Some.one c.args.byte c.args.rest.now c.in-Some.after.now bs (search rules) (search rules) c.if-one-byte.true

pub returns-then-first-byte-clause-past : goal.returns-then-first-byte-clause-past
returns-then-first-byte-clause-past c = λ bs. past_one c.args.first c.args.byte c.args.rest.now bs c.requires c.if-first-eq63.false c.if-first-eq91.false c.in-None.ensures c.if-first-byte.true
