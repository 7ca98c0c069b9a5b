-- A desk as its connection sees it, and as the one who serves it does.
use Rattle.std.specs.Prelude.{◌≡◌, ◌⊎◌, Bool, true, List, [], ◌∷◌, ◌++◌}
use Rattle.df_model.specs.Keyspace.{Keyspace}
use Rattle.df_model.specs.Calls.{Allowed}
use Rattle.df_caller.specs.Told.{Told}
use Rattle.df_caller.specs.Calling.{Calling}

-- what the connection knows; and all calls that ran, of which it wasn't told the last yet
pub record DeskState : Type 0 where
  pub calling : Calling
  pub ran : List Told

-- the call that waits was run on the table, or found no memory; the connection is told at its
-- next step
pub record Served (old new : DeskState) (K after : Keyspace) : Type 0 where
  pub calling : new.calling ≡ record old.calling { due = true }
  pub ran : ((new.ran ≡ old.ran) × (after ≡ K))
      ⊎ ((t : Told) × (marks : List Bool) × (new.ran ≡ old.ran ++ t ∷ []) × (old.ran ≡ old.calling.told) × Allowed t.call marks K t.reply after)
