use Rattle.std.proofs.Common.{rules}
use Rattle.df_book.proofs.Ending.{settles}
use Rattle.df_book.proofs.closing.BookOf+Said+Ruling.seal.Goals as goal

pub load-requires : goal.load-requires
load-requires c = (search rules, search rules, settles _ _ _ _)
