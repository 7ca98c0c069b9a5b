-- How a new book's logs are dealt out.
use Rattle.std.specs.Prelude.{ℕ, [], ◌∷◌}
use Rattle.df_book.specs.Weights.{from_on}
use Rattle.df_book.specs.Views.{blank}
use Rattle.df_book.specs.declared.view.View.{View}

-- the first pass, with n logs from i on
abbrev pub dealing : ℕ → ℕ → ℕ → View
dealing draws i n = record blank { first = 1; budget = draws; owns = from_on i n }

-- a pass of one log
abbrev pub owner_of : ℕ → View
owner_of i = record blank { owns = i ∷ [] }
