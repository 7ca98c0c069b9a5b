-- Commands on sets: the name of each and how the words behind it are read.
use Rattle.std.specs.Prelude.{List, [], ◌∷◌, codes}
use Rattle.df_model.specs.Reads.Shapes.{Row, row, key, key_word, key_many, keys, key_keys, two_keys_word}
use Rattle.df_model.specs.declared.command.OneOp.TheVariants.{Sadd, Srem, Scard, Sismember, Smismember, Smembers}
use Rattle.df_model.specs.declared.command.ManyOp.TheVariants.{Smove, Sinter, Sunion, Sdiff, Sinterstore, Sunionstore, Sdiffstore}

abbrev pub rows : List Row
rows =
    row (codes "sadd") (key_many Sadd) ∷
    row (codes "srem") (key_many Srem) ∷
    row (codes "scard") (key Scard) ∷
    row (codes "sismember") (key_word Sismember) ∷
    row (codes "smismember") (key_many Smismember) ∷
    row (codes "smembers") (key Smembers) ∷
    row (codes "smove") (two_keys_word Smove) ∷
    row (codes "sinter") (keys Sinter) ∷
    row (codes "sunion") (keys Sunion) ∷
    row (codes "sdiff") (keys Sdiff) ∷
    row (codes "sinterstore") (key_keys Sinterstore) ∷
    row (codes "sunionstore") (key_keys Sunionstore) ∷
    row (codes "sdiffstore") (key_keys Sdiffstore) ∷
    []
