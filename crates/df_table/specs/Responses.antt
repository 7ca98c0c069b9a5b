-- What a command gives where memory suffices: its reply's bytes, and the keyspace that it leaves.
use Rattle.std.specs.Prelude.{◌≡◌}
use Rattle.df_model.specs.Values.{Bytes}
use Rattle.df_model.specs.Keyspace.{Keyspace}
use Rattle.df_model.specs.Access.{Meaning}
use Rattle.df_model.specs.Replies.{encoding_of}

-- the reply is these bytes, and its keyspace is left
pub record Gives (m : Meaning) (after : Keyspace) (bytes : Bytes) : Type 0 where
  pub leaves : after ≡ m.1
  pub says : bytes ≡ encoding_of m.0
