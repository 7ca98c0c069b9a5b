use Rattle.std.proofs.Common.{◌≡◌, List, drop, map, string_bytes, codes, Decides, sym, ap, subst, ◌∙◌}
use Rattle.std.specs.Prelude.{MatchOption}
use Rattle.std.proofs.lemmas.Slice.Eq.{slice_eq-Decides}
use Rattle.std.proofs.lemmas.Bool.Decides.{Decides-eqb}
use Rattle.df_model.specs.Values.{Bytes}
use Rattle.df_check.specs.Lines.{IsCheck, NamesFile}
use Rattle.df_check.proofs.WordsLaws.{words_cons, rest_whole, check_of}
use Rattle.df_check.proofs.words.file_named.Goals as goal

pub returns-then-eq : goal.returns-then-eq
returns-then-eq c =
    let word : Bytes = string_bytes c.command-item.result in
    let found = c.file_behind.result in
    let decides : Decides c.eq.result (c.as_str.result.now ≡ codes "check") = slice_eq-Decides Decides-eqb c.as_str.result.now (codes "check") c.eq.result c.eq.ensures in
    let is : word ≡ codes "check" = sym c.as_str.ensures.value ∙ decides.0 c.if-eq.true in
    subst (λ (l : List Bytes). MatchOption found ((name : Bytes) → ¬ (IsCheck l name)) (λ x. IsCheck l x.now)) (sym (words_cons string_bytes c.args.words.now c.command-item.result c.in-len1-up.len_at_least c.command-item.is))
    (check_of (λ x. x.now) found word (map string_bytes (drop 1 c.args.words.now)) is
    (subst (λ (l : List Bytes). MatchOption found ((name : Bytes) → ¬ (NamesFile l name)) (λ x. NamesFile l x.now)) (ap (map string_bytes) (rest_whole c.args.words.now)) c.file_behind.ensures))
