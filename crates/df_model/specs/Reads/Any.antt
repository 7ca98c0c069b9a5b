-- Commands on keys of any kind: the name of each and how the words behind it are read.
use Rattle.std.specs.Prelude.{List, [], ◌∷◌, codes}
use Rattle.df_model.specs.Reads.Shapes.{Row, row, key, keys, two_keys}
use Rattle.df_model.specs.declared.command.OneOp.TheVariants.{KindOf}
use Rattle.df_model.specs.declared.command.ManyOp.TheVariants.{Del, Unlink, Exists, Rename, Renamenx}

abbrev pub rows : List Row
rows =
    row (codes "del") (keys Del) ∷
    row (codes "unlink") (keys Unlink) ∷
    row (codes "exists") (keys Exists) ∷
    row (codes "type") (key KindOf) ∷
    row (codes "rename") (two_keys Rename) ∷
    row (codes "renamenx") (two_keys Renamenx) ∷
    []
