use Rattle.std.proofs.Common.{rules}
use Rattle.df_book.proofs.Ending.{counts}
use Rattle.df_book.proofs.closing.BookOf+Said+Ruling.last.Goals as goal

pub load-requires : goal.load-requires
load-requires c = (search rules, search rules, counts _ _ _ _)
