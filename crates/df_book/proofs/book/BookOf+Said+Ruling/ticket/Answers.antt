use Rattle.std.proofs.Common.{rules}
use Rattle.df_book.proofs.Cuts.{tickets, runs}
use Rattle.df_book.proofs.book.BookOf+Said+Ruling.ticket.Goals as goal

pub split_seat-seat-requires : goal.split_seat-seat-requires
split_seat-seat-requires c = (search rules, search rules, runs _ _ _ (search rules))

pub split_seat-seat-requires-else-runs : goal.split_seat-seat-requires-else-runs
split_seat-seat-requires-else-runs c = (search rules, search rules, tickets _ _ _)
