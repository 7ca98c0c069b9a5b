-- The facts of an answer, together.
use Rattle.std.specs.Prelude.{◌≡◌, ℕ, ◌≤◌, true}
use Rattle.df_hops.specs.Shown.{shard_shown, draws_needed, draws_shown, limit_said, call_back, call_drawn, has_note, told_said, told_shown, act_shown, act_asked}
use Rattle.df_hops.specs.Came.{IsDue, came_due, came_shown, may_want_it, outcome_said, outcome_shown}
use Rattle.df_hops.specs.declared.answer.AnswerBody.{AnswerBody}

pub record Facts (s n hop : ℕ) (body : AnswerBody) : Type 0 where
  pub shown : shard_shown s body ≡ s
  pub drawn : draws_needed body ≤ draws_shown n body
  pub limit : n ≤ limit_said n body
  pub call : call_back body ≡ call_drawn n body
  pub note : has_note n body ≡ true
  pub told : told_said body ≡ told_shown n hop body
  pub act : act_shown n hop body ≡ act_asked s n hop body
  pub came : came_shown n hop body ≡ came_due n hop body
  pub outcome : outcome_said body ≡ outcome_shown n hop body
  pub wants : may_want_it n hop body ≡ true
  pub part : IsDue n hop body
