-- Commands on lists: the name of each and how the words behind it are read.
use Rattle.std.specs.Prelude.{List, [], ◌∷◌, codes}
use Rattle.df_model.specs.Reads.Shapes.{Row, row, key, key_number, key_numbers, key_number_word, key_many, pop, linsert, lmove, two_keys}
use Rattle.df_model.specs.declared.command.OneOp.TheVariants.{Lpush, Rpush, Lpushx, Rpushx, Lpop, Rpop, Llen, Lrange, Lindex, Lset, Lrem, Ltrim}
use Rattle.df_model.specs.declared.command.ManyOp.TheVariants.{Rpoplpush}

abbrev pub rows : List Row
rows =
    row (codes "lpush") (key_many Lpush) ∷
    row (codes "rpush") (key_many Rpush) ∷
    row (codes "lpushx") (key_many Lpushx) ∷
    row (codes "rpushx") (key_many Rpushx) ∷
    row (codes "lpop") (pop Lpop) ∷
    row (codes "rpop") (pop Rpop) ∷
    row (codes "llen") (key Llen) ∷
    row (codes "lrange") (key_numbers Lrange) ∷
    row (codes "lindex") (key_number Lindex) ∷
    row (codes "lset") (key_number_word Lset) ∷
    row (codes "linsert") linsert ∷
    row (codes "lrem") (key_number_word Lrem) ∷
    row (codes "ltrim") (key_numbers Ltrim) ∷
    row (codes "lmove") lmove ∷
    row (codes "rpoplpush") (two_keys Rpoplpush) ∷
    []
