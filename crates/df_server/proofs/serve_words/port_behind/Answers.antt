use Rattle.std.proofs.Common.{◌≡◌, ℕ, List, string_bytes, codes, Decides, sym, subst, ◌∙◌}
use Rattle.std.specs.Prelude.{MatchOption}
use Rattle.std.proofs.lemmas.Slice.Eq.{slice_eq-Decides}
use Rattle.std.proofs.lemmas.Bool.Decides.{Decides-eqb}
use Rattle.df_model.specs.Values.{Bytes}
use Rattle.df_server.specs.Serve.{IsPort, NamesPort}
use Rattle.df_check.proofs.WordsLaws.{words_two}
use Rattle.df_server.proofs.WordsLaws.{port_pair}
use Rattle.df_server.proofs.serve_words.port_behind.Goals as goal

pub returns-then-eq : goal.returns-then-eq
returns-then-eq c =
    let name : Bytes = string_bytes c.name-item.result in
    let digits : Bytes = string_bytes c.digits-item.result in
    let decides : Decides c.eq.result (c.as_str.result.now ≡ codes "--port") = slice_eq-Decides Decides-eqb c.as_str.result.now (codes "--port") c.eq.result c.eq.ensures in
    let is : name ≡ codes "--port" = sym c.as_str.ensures.value ∙ decides.0 c.if-eq.true in
    subst (λ (l : List Bytes). MatchOption c.port_of.result ((port : ℕ) → ¬ (NamesPort l port)) (λ port. NamesPort l port)) (sym (words_two string_bytes c.args.words.now c.name-item.result c.digits-item.result c.in-len2.len_at_least c.in-len2.len_below c.name-item.is c.digits-item.is))
    (port_pair c.port_of.result name digits is (subst (λ d. MatchOption c.port_of.result ((port : ℕ) → ¬ (IsPort d port)) (λ port. IsPort d port)) c.as_bytes-then-eq.ensures.value c.port_of.ensures))
