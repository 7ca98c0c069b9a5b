use Rattle.std.proofs.Common.{◌≡◌, List, map, string_bytes, codes, Decides, sym, subst, ◌∙◌}
use Rattle.std.specs.Prelude.{MatchOption}
use Rattle.std.proofs.lemmas.Slice.Eq.{slice_eq-Decides}
use Rattle.std.proofs.lemmas.Bool.Decides.{Decides-eqb}
use Rattle.df_model.specs.Values.{Bytes}
use Rattle.df_check.specs.Lines.{IsFileName, NamesFile}
use Rattle.df_check.proofs.WordsLaws.{words_two, file_pair}
use Rattle.df_check.proofs.words.file_behind.Goals as goal

pub returns-then-eq : goal.returns-then-eq
returns-then-eq c =
    let word : Bytes = string_bytes c.end-item.result in
    let name : Bytes = string_bytes c.name-item-then-words-lt3.result in
    let found = c.file_name-then-eq.result in
    let decides : Decides c.eq.result (c.as_str-in-len2.result.now ≡ codes "--") = slice_eq-Decides Decides-eqb c.as_str-in-len2.result.now (codes "--") c.eq.result c.eq.ensures in
    let is : word ≡ codes "--" = sym c.as_str-in-len2.ensures.value ∙ decides.0 c.if-eq.true in
    subst (λ (l : List Bytes). MatchOption found ((file : Bytes) → ¬ (NamesFile l file)) (λ x. NamesFile l x.now)) (sym (words_two string_bytes c.args.words.now c.end-item.result c.name-item-then-words-lt3.result c.in-len2.len_at_least c.in-len2.len_below c.end-item.is c.name-item-then-words-lt3.is))
    (file_pair (λ x. x.now) found word name is (subst (λ d. MatchOption found (¬ (IsFileName d)) (λ x. IsFileName d × (x.now ≡ d))) c.as_str-then-eq.ensures.value c.file_name-then-eq.ensures))
