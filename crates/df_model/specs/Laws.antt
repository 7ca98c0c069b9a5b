-- Statements of laws.
use Rattle.std.specs.Prelude.{◌≡◌, List, true, false}
use Rattle.std.specs.List.{AllByRecursion}
use Rattle.df_model.specs.Values.{Bytes}
use Rattle.df_model.specs.Keyspace.{Keyspace, held}
use Rattle.df_model.specs.Access.{Access, names, among, does}
use Rattle.df_model.specs.Words.{Words}
use Rattle.df_model.specs.Framing.{IsRequest}
use Rattle.df_model.specs.Calls.{IsCall}
use Rattle.df_model.specs.History.{Item}
use Rattle.df_model.specs.Output.{SessionOutput}
use Rattle.df_model.specs.declared.session.Why.{Why}

-- Keyspaces that agree at the keys which an access names get the same reply and hold the same there afterwards;
-- a key that it doesn't write stays as it was, also where it is read; and what it writes is among what it names.
pub record LocalTo (a : Access) : Type 0 where
  pub same_reply : (K L : Keyspace) → ((k : Bytes) → among (names a) k ≡ true → held K k ≡ held L k) → (does a K).0 ≡ (does a L).0
  pub same_left : (K L : Keyspace) → ((k : Bytes) → among (names a) k ≡ true → held K k ≡ held L k) →
      (k : Bytes) → among (names a) k ≡ true → held (does a K).1 k ≡ held (does a L).1 k
  pub others_stay : (K : Keyspace) (k : Bytes) → among a.writes k ≡ false → held (does a K).1 k ≡ held K k
  pub writes_named : (k : Bytes) → among a.writes k ≡ true → among (names a) k ≡ true

abbrev pub IsLocal : Type 0
IsLocal = (a : Access) → LocalTo a

-- What a session's requests call is a call: none of its words is longer than a request's may be, and no transaction
-- has more commands than may be queued.
abbrev pub SessionsCall : Type 0
SessionsCall =
    (requests : List Words) (end : Why) (items : List Item) (out : Bytes) →
    AllByRecursion IsRequest requests → SessionOutput requests end items out → AllByRecursion (λ item. IsCall item.call) items
