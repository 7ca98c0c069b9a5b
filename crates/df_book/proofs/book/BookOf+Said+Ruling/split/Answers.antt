use Rattle.std.proofs.Common.{rules, ap, ◌∙◌, arith}
use Rattle.df_book.specs.Views.{cut_of}
use Rattle.df_book.proofs.Cuts.{notes-cut, cuts}
use Rattle.df_book.proofs.book.BookOf+Said+Ruling.split.Goals as goal

pub compare_exchange-requires : goal.compare_exchange-requires
compare_exchange-requires c = (search rules, search rules, notes-cut _ _ _ _ _)

pub split_seat-seat-requires : goal.split_seat-seat-requires
split_seat-seat-requires c = let me = c.compare_exchange.ensures.2 in
    let was = c.from.view_is in
    (search rules, search rules, cuts _ _ _ (ap (λ m. m.0.first) me ∙ ap (λ p. p.first) was ∙ c.requires.first.0) (omega (arith, c.requires.first.1, ap (λ m. cut_of m.0.note) me, ap (λ m. m.0.budget) me, ap (λ p. p.budget) was)))
