use Rattle.std.proofs.Common.{inr, arith}
use Rattle.df_rdbcore.proofs.SeenLaws.{too_long, awaits_bytes, plain_seen}
use Rattle.df_rdbcore.proofs.front.behind_length.Goals as goal

pub returns-then-n-gt-MAX_TEXT : goal.returns-then-n-gt-MAX_TEXT
returns-then-n-gt-MAX_TEXT c = inr (too_long c.args.bytes.now c.args.n c.args.used c.requires.is_length (omega arith))

pub returns-then-bytes-used : goal.returns-then-bytes-used
returns-then-bytes-used c = awaits_bytes c.args.bytes.now c.args.n c.args.used c.requires.within c.requires.is_length (omega arith) (omega arith)

pub returns : goal.returns
returns c = (omega arith, plain_seen c.args.bytes.now c.args.n c.args.used (omega arith) c.requires.is_length (omega arith))
