use Rattle.std.proofs.Common.{rules, suc, ℕ, length, ap, ◌∙◌, arith, List}
use Rattle.std.specs.Prelude.{slice_index}
use Rattle.df_book.proofs.Opens.{opens}
use Rattle.df_book.proofs.opening.BookOf+Said+Ruling.new.Goals as goal

pub of_words-requires : goal.of_words-requires
of_words-requires c = let w = c.in_ok-words.ensures in let v = c.as_slice.ensures.value in let fr = c.from.ensures in
    opens _ _ _ (search rules) (ap length v ∙ w.0 ∙ omega (arith, fr)) (ap (λ (l : List ℕ). slice_index l 0) v ∙ w.1) (λ i h. ap (λ (l : List ℕ). slice_index l (suc i)) v ∙ w.2 i (omega (arith, h, fr)))
