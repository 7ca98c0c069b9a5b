use Rattle.std.proofs.Common.{rules}
use Rattle.df_text.proofs.ReadingLaws.{item_end, item_escaped, item_range, item_byte}
use Rattle.df_text.proofs.class.read_item.Goals as goal

pub returns-then-first-eq93-clause-item : goal.returns-then-first-eq93-clause-item
returns-then-first-eq93-clause-item c = λ n rs. item_end n rs c.in-Some.first c.args.bytes.now c.in-Some.rest.now (search rules) c.if-first-eq93.true

pub returns-in-Some-split_first-clause-item : goal.returns-in-Some-split_first-clause-item
returns-in-Some-split_first-clause-item c = λ n rs. item_escaped n rs c.in-Some.first c.in-Some-split_first.byte c.args.bytes.now c.in-Some.rest.now c.in-Some-split_first.rest.now (search rules) c.if-first-eq92.true (search rules)

pub returns-in-Some-range_end-clause-item : goal.returns-in-Some-range_end-clause-item
returns-in-Some-range_end-clause-item c = λ n rs. item_range n rs c.in-Some.first c.in-Some-range_end.to c.args.bytes.now c.in-Some.rest.now c.in-Some-range_end.rest.now (search rules) c.if-first-eq93.false c.if-first-eq92.false (search rules) (search rules)

pub returns-in-None-range_end-clause-item : goal.returns-in-None-range_end-clause-item
returns-in-None-range_end-clause-item c = λ n rs. item_byte n rs c.in-Some.first c.args.bytes.now c.in-Some.rest.now (search rules) c.if-first-eq93.false c.if-first-eq92.false c.in-None-range_end.ensures
