use Rattle.std.proofs.Common.{subst, sym}
use Rattle.df_parse.specs.Readers.{shape_of}
use Rattle.df_parse.specs.Reading.{RowRead}
use Rattle.df_parse.proofs.reader.Reader.read.Goals as goal

-- the answer for any name, so for this one
pub returns-in-Flush : goal.returns-in-Flush
returns-in-Flush c =
    subst (λ it. RowRead c.args.name.now (shape_of it c.args.name.now c.args.words.now) c.flush.result c.flush.new.command)
    (sym c.in-Flush.is) (c.flush.ensures c.args.name.now)
