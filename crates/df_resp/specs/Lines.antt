-- Reading a line that has a mark and a number.
use Rattle.std.specs.Prelude.{ℕ, ◌-◌, ◌+◌, ◌*◌, Bool, ◌==◌, ◌&&◌, not, nat_le, if◌then◌else◌, [], ◌∷◌}
use Rattle.df_model.specs.Values.{Bytes}
use Rattle.df_model.specs.declared.session.BadKind.{BadKind}
use Rattle.df_model.specs.declared.session.BadKind.TheVariants as kinds
use Rattle.df_resp.specs.Scan.{Scan, and_then, fixed}

abbrev pub is_digit : ℕ → Bool
is_digit b = nat_le 48 b && nat_le b 57

-- the line feed behind a number's carriage return
abbrev pub line_feed : BadKind → ℕ → Bytes → Scan ℕ
line_feed kind value bytes = and_then (fixed kind (10 ∷ []) bytes) (λ _ rest. Scan.Whole value rest)

-- what may follow digits with this value: a carriage return; or a digit, where the number has no leading zero and stays within the limit
abbrev pub digits : BadKind → ℕ → ℕ → Bytes → Scan ℕ
digits kind limit value [] = Scan.More
digits kind limit value (b ∷ bytes) =
    if b == 13 then line_feed kind value bytes
    else (if is_digit b && (not (value == 0) && nat_le (10 * value + (b - 48)) limit) then digits kind limit (10 * value + (b - 48)) bytes
    else Scan.Bad (b ∷ bytes) kind)

abbrev pub first_digit : BadKind → ℕ → Bytes → Scan ℕ
first_digit kind limit [] = Scan.More
first_digit kind limit (b ∷ bytes) = if is_digit b && nat_le (b - 48) limit then digits kind limit (b - 48) bytes else Scan.Bad (b ∷ bytes) kind

-- a mark, a number of at most this limit, and the line's end
abbrev pub line : ℕ → BadKind → ℕ → Bytes → Scan ℕ
line mark kind limit [] = Scan.More
line mark kind limit (b ∷ bytes) = if b == mark then first_digit kind limit bytes else Scan.Bad (b ∷ bytes) kinds.Start
