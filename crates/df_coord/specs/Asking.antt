-- How a call of one hop is asked for.
use Rattle.std.specs.Prelude.{◌≡◌, ℕ, ◌<◌}
use Rattle.df_model.specs.declared.command.Command.{Command}
use Rattle.df_model.specs.declared.command.Call.{Call}
use Rattle.df_model.specs.declared.command.Call.TheVariants.{Single}
use Rattle.df_core.specs.Courses.{Alone, course_of}
use Rattle.df_book.specs.Weights.{Each, count}
use Rattle.df_book.specs.Logs.{AllBelow}
use Rattle.df_book.specs.Draws.{Bounded}
use Rattle.df_book.specs.Passes.{Caller, after_draw, after_running}
use Rattle.df_book.specs.declared.draw.Draw.{Draw}
use Rattle.df_post.specs.declared.awaited.Awaited.{Awaited}
use Rattle.df_post.specs.declared.awaited.Kind.TheVariants as kinds

-- the call is a single command that runs on this shard alone
pub record RunsAlone (shards s : ℕ) (call : Call) : Type 0 where
  pub command : Command
  pub is : call ≡ Single command
  pub alone : course_of shards command ≡ Alone s
  pub there : s < shards

-- what awaits its answer there: all of the call is its first hop
abbrev pub awaited_for : ℕ → Awaited
awaited_for n = record { number = n; hop = 0; kind = kinds.Quick }

-- The number was drawn for the call by a caller whose pass was v then and is u now, and one running ticket of it was made.
pub record Asked (v u : Caller) (call : Call) (n : ℕ) : Type 0 where
  pub positive : 0 < n
  pub above : Each (λ (d : Draw). d.number < n) v.own
  pub below : AllBelow n v.seen
  pub fresh : count n v.made ≡ 0
  pub bounded : Bounded v.own v.made v.seen
  pub now : u ≡ after_running (after_draw v call n)
