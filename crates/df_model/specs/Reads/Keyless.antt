-- Commands without a key, and those of the whole keyspace: the name of each and how the words behind it are read.
use Rattle.std.specs.Prelude.{List, [], ◌∷◌, codes}
use Rattle.df_model.specs.Reads.Shapes.{Row, row, ping, alone, one_word, select, flush}
use Rattle.df_model.specs.declared.command.PlainOp.TheVariants.{Echo}
use Rattle.df_model.specs.declared.command.WholeOp.TheVariants.{Dbsize, Keys, Flushall, Flushdb, Save}
use Rattle.df_model.specs.declared.command.Command.TheVariants.{Plain, Whole}

abbrev pub rows : List Row
rows =
    row (codes "ping") ping ∷
    row (codes "echo") (one_word (λ m. Plain (Echo m))) ∷
    row (codes "select") (one_word select) ∷
    row (codes "save") (alone (Whole Save)) ∷
    row (codes "dbsize") (alone (Whole Dbsize)) ∷
    row (codes "keys") (one_word (λ p. Whole (Keys p))) ∷
    row (codes "flushall") (flush Flushall) ∷
    row (codes "flushdb") (flush Flushdb) ∷
    []
