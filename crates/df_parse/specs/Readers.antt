-- How the words behind a name are read, by the reader of its row.
use Rattle.df_model.specs.Values.{Bytes}
use Rattle.df_model.specs.Reads.Shapes.{Shape}
use Rattle.df_model.specs.Reads.Shapes as shape
use Rattle.df_model.specs.declared.command.PlainOp.TheVariants.{Echo}
use Rattle.df_model.specs.declared.command.OneOp.TheVariants.{Hsetnx, Hincrby}
use Rattle.df_model.specs.declared.command.ManyOp.TheVariants.{Smove}
use Rattle.df_model.specs.declared.command.WholeOp.TheVariants.{Keys}
use Rattle.df_model.specs.declared.command.Command.TheVariants.{Plain, Whole}
use Rattle.df_parse.specs.Ops as op_of
use Rattle.df_parse.specs.declared.reader.Reader.{Reader}
use Rattle.df_parse.specs.declared.reader.Reader.TheVariants as reader

abbrev pub shape_of : Reader → Bytes → Shape
shape_of (reader.Alone op) name = shape.alone (Whole (op_of.alone op))
shape_of reader.Ping name = shape.ping
shape_of reader.Echo name = shape.one_word (λ message. Plain (Echo message))
shape_of reader.Select name = shape.one_word shape.select
shape_of reader.KeysLike name = shape.one_word (λ pattern. Whole (Keys pattern))
shape_of (reader.Flush op) name = shape.flush (op_of.flush op)
shape_of (reader.Key op) name = shape.key (op_of.key op)
shape_of (reader.KeyWord op) name = shape.key_word (op_of.key_word op)
shape_of (reader.KeyNumber op) name = shape.key_number (op_of.key_number op)
shape_of (reader.KeyNumbers op) name = shape.key_numbers (op_of.key_numbers op)
shape_of (reader.KeyNumberWord op) name = shape.key_number_word (op_of.key_number_word op)
shape_of (reader.KeyMany op) name = shape.key_many (op_of.key_many op)
shape_of (reader.Pop op) name = shape.pop (op_of.pop op)
shape_of (reader.KeyPairs op) name = shape.key_pairs name (op_of.key_pairs op)
shape_of reader.Set name = shape.set
shape_of reader.Setrange name = shape.setrange
shape_of reader.Hsetnx name = shape.key_words Hsetnx
shape_of reader.Hincrby name = shape.key_word_number Hincrby
shape_of reader.Linsert name = shape.linsert
shape_of (reader.ManyKeys op) name = shape.keys (op_of.keys op)
shape_of (reader.KeyKeys op) name = shape.key_keys (op_of.key_keys op)
shape_of (reader.TwoKeys op) name = shape.two_keys (op_of.two_keys op)
shape_of (reader.ManyPairs op) name = shape.pairs name (op_of.pairs op)
shape_of reader.Smove name = shape.two_keys_word Smove
shape_of reader.Lmove name = shape.lmove
