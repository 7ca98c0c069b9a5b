use Rattle.std.proofs.Common.{◌≡◌, ℕ, List, drop, map, string_bytes, codes, Decides, sym, ap, subst, ◌∙◌}
use Rattle.std.specs.Prelude.{MatchOption}
use Rattle.std.proofs.lemmas.Slice.Eq.{slice_eq-Decides}
use Rattle.std.proofs.lemmas.Bool.Decides.{Decides-eqb}
use Rattle.df_model.specs.Values.{Bytes}
use Rattle.df_server.specs.Serve.{IsServe, NamesPort}
use Rattle.df_check.proofs.WordsLaws.{words_cons, rest_whole}
use Rattle.df_server.proofs.WordsLaws.{serve_of}
use Rattle.df_server.proofs.serve_words.read_port.Goals as goal

pub returns-then-eq : goal.returns-then-eq
returns-then-eq c =
    let name : Bytes = string_bytes c.name-item.result in
    let decides : Decides c.eq.result (c.as_str.result.now ≡ codes "serve") = slice_eq-Decides Decides-eqb c.as_str.result.now (codes "serve") c.eq.result c.eq.ensures in
    let is : name ≡ codes "serve" = sym c.as_str.ensures.value ∙ decides.0 c.if-eq.true in
    subst (λ (l : List Bytes). MatchOption c.port_behind.result ((port : ℕ) → ¬ (IsServe l port)) (λ port. IsServe l port)) (sym (words_cons string_bytes c.args.words.now c.name-item.result c.in-len1-up.len_at_least c.name-item.is))
    (serve_of c.port_behind.result name (map string_bytes (drop 1 c.args.words.now)) is
    (subst (λ (l : List Bytes). MatchOption c.port_behind.result ((port : ℕ) → ¬ (NamesPort l port)) (λ port. NamesPort l port)) (ap (map string_bytes) (rest_whole c.args.words.now)) c.port_behind.ensures))
