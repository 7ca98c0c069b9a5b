-- The holders as a value that has no bytes shows them.
use Rattle.std.specs.Prelude.{ℕ, List}
use Rattle.df_intents.specs.Holders.{Holder}

-- the holders, the last that took its intents first, and how often one took or released any
pub record Trailed : Type 0 where
  pub holders : List Holder
  pub steps : ℕ
