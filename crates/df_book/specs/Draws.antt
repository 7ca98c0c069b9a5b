-- Draws by their numbers.
use Rattle.std.specs.Prelude.{◌≡◌, ℕ, ◌<◌, ◌≤◌, ◌==◌, List, [], ◌∷◌, length, cond}
use Rattle.df_model.specs.declared.command.Call.{Call}
use Rattle.df_model.specs.declared.command.Call.TheVariants.{Exec}
use Rattle.df_book.specs.Weights.{total, hit, count, Each}
use Rattle.df_book.specs.Logs.{uses_in}
use Rattle.df_log.specs.declared.entry.Entry.{Entry}
use Rattle.df_book.specs.declared.draw.Draw.{Draw}

-- how often the number was drawn
abbrev pub draws_of : ℕ → List Draw → ℕ
draws_of n draws = total (λ (d : Draw). hit n d.number) draws

-- the call that was drawn with this number
abbrev pub call_at : List Draw → ℕ → Call
call_at [] n = Exec record { items = []; spare = 0 }
call_at (d ∷ ds) n = cond (d.number == n) d.call (call_at ds n)

abbrev pub last_number : List Draw → ℕ
last_number [] = 0
last_number (d ∷ []) = d.number
last_number (d ∷ e ∷ ds) = last_number (e ∷ ds)

-- these are all the numbers from 1 on, each once
pub record Numbered (draws : List Draw) : Type 0 where
  pub range : Each (λ (d : Draw). (0 < d.number) × (d.number ≤ length draws)) draws
  pub once : (n : ℕ) → 0 < n → n ≤ length draws → draws_of n draws ≡ 1

-- its number is among these draws, and with this call
abbrev pub IsDraw : List Draw → Draw → Type 0
IsDraw draws d = (0 < draws_of d.number draws) × (call_at draws d.number ≡ d.call)

-- draws of one number are of one call
abbrev pub Agreed : List Draw → Type 0
Agreed known = Each (λ (d : Draw). call_at known d.number ≡ d.call) known

-- what others told of own numbers is the own draw
abbrev pub OwnAgreed : List Draw → List Draw → Type 0
OwnAgreed own known = Each (λ (d : Draw). 0 < draws_of d.number own → call_at own d.number ≡ d.call) known

-- of own numbers, no more entries and Passed notes stand in the logs than running tickets were made
abbrev pub Bounded : List Draw → List ℕ → List (List Entry) → Type 0
Bounded own made seen = (n c : ℕ) → 0 < draws_of n own → uses_in n seen c ≤ count n made
