-- How a link is met.
use Rattle.std.specs.Prelude.{◌≡◌, ℕ, ◌≤◌, ◌<◌, Bool, true, false}
use Rattle.df_model.specs.Spoken.{MAX_OPEN}
use Rattle.df_conn.specs.Turns.{turned_away_line}
use Rattle.df_sessions.specs.declared.welcome.Welcome.{Welcome}
use Rattle.df_sessions.specs.declared.welcome.Welcome.TheVariants as welcomes

-- with a place and what it is told, if it is turned away, which happens to late ones alone
abbrev pub IsWelcome : Welcome → ℕ → Type 0
IsWelcome welcomes.In count = Unit {0}
IsWelcome (welcomes.Away line) count = (line.items ≡ turned_away_line) × (MAX_OPEN ≤ count)

-- where so many are served
abbrev pub IsDue : Welcome → ℕ → Type 0
IsDue welcomes.In served = served < MAX_OPEN
IsDue (welcomes.Away line) served = MAX_OPEN ≤ served

abbrev pub turns_away : Welcome → Bool
turns_away welcomes.In = false
turns_away (welcomes.Away line) = true
