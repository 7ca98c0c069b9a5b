use Rattle.std.proofs.Common.{arith}
use Rattle.df_resp.proofs.SeenLaws.{sees_word_bytes}
use Rattle.df_resp.proofs.front.word_bytes_at.Goals as goal

pub returns : goal.returns
returns c = sees_word_bytes c.fixed_at.result c.args.from c.args.n c.args.bytes.now c.requires.behind (omega (arith, c.if-bytes-from.false, c.requires.within)) c.fixed_at.ensures
