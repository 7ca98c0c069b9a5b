use Rattle.std.proofs.Common.{◌≡◌, ◌<◌, ◌≤◌, List, [], ◌∷◌, length, get_or, map, string_bytes, codes, Decides, sym, ap, ◌∙◌, arith}
use Rattle.std.proofs.lemmas.Slice.Eq.{slice_eq-Decides}
use Rattle.std.proofs.lemmas.Bool.Decides.{Decides-eqb}
use Rattle.df_model.specs.Values.{Bytes}
use Rattle.df_server.proofs.program.is_pipe.Goals as goal

alone : {A : Type 0} (xs : List A) (x : A) → 1 ≤ length xs → length xs < 2 → x ≡ get_or xs 0 x → xs ≡ x ∷ []
alone [] x some one is = absurd (omega (arith, some))
alone (y ∷ []) x some one is = ap (λ z. z ∷ []) (sym is)
alone (y ∷ z ∷ zs) x some one is = absurd (omega (arith, one))

same_alone : (a b : Bytes) → a ∷ [] ≡ b ∷ [] → a ≡ b
same_alone a b e = cc

pub returns-in-len1 : goal.returns-in-len1
returns-in-len1 c =
    let word : Bytes = string_bytes c.word-item.result in
    let one : map string_bytes c.args.words.now ≡ word ∷ [] = ap (map string_bytes) (alone c.args.words.now c.word-item.result c.in-len1.len_at_least c.in-len1.len_below c.word-item.is) in
    let is : c.as_str.result.now ≡ word = c.as_str.ensures.value in
    let decides : Decides c.eq.result (c.as_str.result.now ≡ codes "pipe") = slice_eq-Decides Decides-eqb c.as_str.result.now (codes "pipe") c.eq.result c.eq.ensures in
    (λ yes. one ∙ ap (λ w. w ∷ []) (sym is ∙ decides.0 yes), λ e. decides.1 (is ∙ same_alone word (codes "pipe") (sym one ∙ e)))
