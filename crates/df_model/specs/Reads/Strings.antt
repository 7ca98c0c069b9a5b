-- Commands on strings: the name of each and how the words behind it are read.
use Rattle.std.specs.Prelude.{List, [], ◌∷◌, codes}
use Rattle.df_model.specs.Reads.Shapes.{Row, row, key, key_word, key_number, key_numbers, setrange, set, keys, pairs}
use Rattle.df_model.specs.declared.command.OneOp.TheVariants.{Get, Setnx, Getset, Getdel, Append, Strlen, Getrange, Incr, Decr, Incrby, Decrby}
use Rattle.df_model.specs.declared.command.ManyOp.TheVariants.{Mget, Mset, Msetnx}

abbrev pub rows : List Row
rows =
    row (codes "get") (key Get) ∷
    row (codes "set") set ∷
    row (codes "setnx") (key_word Setnx) ∷
    row (codes "getset") (key_word Getset) ∷
    row (codes "getdel") (key Getdel) ∷
    row (codes "append") (key_word Append) ∷
    row (codes "strlen") (key Strlen) ∷
    row (codes "getrange") (key_numbers Getrange) ∷
    row (codes "setrange") setrange ∷
    row (codes "incr") (key Incr) ∷
    row (codes "decr") (key Decr) ∷
    row (codes "incrby") (key_number Incrby) ∷
    row (codes "decrby") (key_number Decrby) ∷
    row (codes "mget") (keys Mget) ∷
    row (codes "mset") (pairs (codes "mset") Mset) ∷
    row (codes "msetnx") (pairs (codes "msetnx") Msetnx) ∷
    []
