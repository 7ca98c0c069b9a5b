-- The words of `serve`, one after the other.
use Rattle.std.proofs.Common.{◌≡◌, ℕ, List, [], ◌∷◌, codes}
use Rattle.std.specs.Prelude.{Option, Some, None, MatchOption}
use Rattle.df_model.specs.Values.{Bytes}
use Rattle.df_server.specs.Serve.{IsPort, IsServe, NamesPort}

pub serve_of : (found : Option ℕ) (name : Bytes) (behind : List Bytes) → name ≡ codes "serve" → MatchOption found ((port : ℕ) → ¬ (NamesPort behind port)) (λ port. NamesPort behind port) →
    MatchOption found ((port : ℕ) → ¬ (IsServe (name ∷ behind) port)) (λ port. IsServe (name ∷ behind) port)
serve_of None name behind is none = λ port serve. none port serve.1
serve_of (Some port) name behind is names = (is, names)

pub port_pair : (found : Option ℕ) (name digits : Bytes) → name ≡ codes "--port" → MatchOption found ((port : ℕ) → ¬ (IsPort digits port)) (λ port. IsPort digits port) →
    MatchOption found ((port : ℕ) → ¬ (NamesPort (name ∷ digits ∷ []) port)) (λ port. NamesPort (name ∷ digits ∷ []) port)
port_pair None name digits is none = λ port names. none port names.1
port_pair (Some port) name digits is found = (is, found)
