-- Who may let go, and what is left of it.
use Rattle.std.specs.Prelude.{◌≡◌, ℕ, ◌==◌, Bool, true, false, ◌&&◌, ◌||◌, not, cond, Option, Some, None, [], ◌∷◌}
use Rattle.df_log.specs.Acts.{Changes}
use Rattle.df_intents.specs.Holders.{holds}
use Rattle.df_txqueue.specs.Places.{is_queued}
use Rattle.df_shard.specs.Holds.{View, Wait, wait_at}
use Rattle.df_shard.specs.Changes.{left}

abbrev pub is_none : Changes → Bool
is_none [] = true
is_none (c ∷ changes) = false

-- It waits here and has staged nothing; who gives up has run nothing either.
abbrev pub may_leave : Bool → Option Wait → Bool
may_leave gives_up None = false
may_leave gives_up (Some w) = is_none w.staged && (not gives_up || (w.above == 0))

abbrev pub after_leave : Bool → View → ℕ → View
after_leave gives_up x n = cond (may_leave gives_up (wait_at n x.waiting)) (left x n) x

-- nothing waits of the number, and it has neither place nor intents
pub record IsGone (n : ℕ) (x : View) : Type 0 where
  pub waits : wait_at n x.waiting ≡ None
  pub place : is_queued n x.places ≡ false
  pub intents : holds n x.holders ≡ false
