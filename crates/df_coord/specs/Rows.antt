-- What a call left with its caller's pass, from before its first draw to behind its last answer.
use Rattle.std.specs.Prelude.{◌≡◌, Some, None, List, [], ◌∷◌, ◌++◌, ℕ}
use Rattle.df_model.specs.declared.command.Call.{Call}
use Rattle.df_model.specs.declared.reply.Reply.{Reply}
use Rattle.df_book.specs.Weights.{Each}
use Rattle.df_book.specs.Passes.{Caller}
use Rattle.df_end.specs.Calls.{Row}
use Rattle.df_end.specs.Rounds.{CallWent}

-- each time that a number was drawn for it, it ran nothing
pub record CallPassed (shards : ℕ) (v u : Caller) (call : Call) : Type 0 where
  pub passed : List Row
  pub nothing : Each (λ (r : Row). r.reply ≡ None) passed
  pub went : CallWent shards v u call passed

-- and the last time it ran, and was replied this
pub record CallRan (shards : ℕ) (v u : Caller) (call : Call) (reply : Reply) : Type 0 where
  pub passed : List Row
  pub nothing : Each (λ (r : Row). r.reply ≡ None) passed
  pub last : Row
  pub said : last.reply ≡ Some reply
  pub went : CallWent shards v u call (passed ++ last ∷ [])
