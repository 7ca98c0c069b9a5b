-- Which Hops fit, and what they leave.
use Rattle.std.specs.Prelude.{ℕ, Bool, true, false, ◌&&◌, not, nat_lt, cond, Option, Some, None}
use Rattle.df_log.specs.Acts.{Act}
use Rattle.df_hops.specs.Parts.{act_of}
use Rattle.df_hops.specs.declared.message.Body.{Body}
use Rattle.df_hops.specs.declared.message.Body.TheVariants.{Schedule, Quick, Hop, Cancel, Conclude, Pull, DropCut}
use Rattle.df_shard.specs.Holds.{View, Wait, Hopping, wait_at}
use Rattle.df_shard.specs.Changes.{armed_wait, with_wait}

abbrev pub is_idle : Option Hopping → Bool
is_idle None = true
is_idle (Some a) = false

-- nothing of the call is armed, and no hop from this one on ran
abbrev pub fits : Wait → ℕ → Bool
fits w hop = is_idle w.armed && not (nat_lt hop w.above)

abbrev pub arm : Wait → ℕ → Act → Wait
arm w hop act = cond (fits w hop) (armed_wait w hop act) w

abbrev pub arm_at : View → Option Wait → ℕ → Act → View
arm_at x None hop act = x
arm_at x (Some w) hop act = record x { waiting = with_wait w.number (arm w hop act) x.waiting }

-- the hop of this number is armed, if it fits
abbrev pub armed_by : View → ℕ → ℕ → Act → View
armed_by x n hop act = arm_at x (wait_at n x.waiting) hop act

abbrev pub after_hop : View → ℕ → Body → View
after_hop x n (Schedule keys) = x
after_hop x n (Quick hop hash slip) = x
after_hop x n (Hop hop part) = armed_by x n hop (act_of part)
after_hop x n Cancel = x
after_hop x n Conclude = x
after_hop x n (Pull hop) = x
after_hop x n DropCut = x
