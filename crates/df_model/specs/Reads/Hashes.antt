-- Commands on hashes: the name of each and how the words behind it are read.
use Rattle.std.specs.Prelude.{List, [], ◌∷◌, codes}
use Rattle.df_model.specs.Reads.Shapes.{Row, row, key, key_word, key_words, key_word_number, key_many, key_pairs}
use Rattle.df_model.specs.declared.command.OneOp.TheVariants.{Hset, Hmset, Hsetnx, Hget, Hmget, Hdel, Hlen, Hexists, Hstrlen, Hkeys, Hvals, Hgetall, Hincrby}

abbrev pub rows : List Row
rows =
    row (codes "hset") (key_pairs (codes "hset") Hset) ∷
    row (codes "hmset") (key_pairs (codes "hmset") Hmset) ∷
    row (codes "hsetnx") (key_words Hsetnx) ∷
    row (codes "hget") (key_word Hget) ∷
    row (codes "hmget") (key_many Hmget) ∷
    row (codes "hdel") (key_many Hdel) ∷
    row (codes "hlen") (key Hlen) ∷
    row (codes "hexists") (key_word Hexists) ∷
    row (codes "hstrlen") (key_word Hstrlen) ∷
    row (codes "hkeys") (key Hkeys) ∷
    row (codes "hvals") (key Hvals) ∷
    row (codes "hgetall") (key Hgetall) ∷
    row (codes "hincrby") (key_word_number Hincrby) ∷
    []
