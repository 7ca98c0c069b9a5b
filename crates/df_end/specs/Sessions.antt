-- What a session keeps and leaves, and what is kept of all sessions that ended.
use Rattle.std.specs.Prelude.{◌≡◌, ℕ, ◌<◌, List, [], ◌∷◌, ◌++◌}
use Rattle.df_model.specs.Spoken.{Session, Spoke}
use Rattle.df_order.specs.Lists.{Chain}
use Rattle.df_book.specs.Weights.{Each}
use Rattle.df_book.specs.Logs.{Within}
use Rattle.df_book.specs.Draws.{draws_of}
use Rattle.df_book.specs.Passes.{Caller}
use Rattle.df_book.specs.declared.draw.Draw.{Draw}
use Rattle.df_end.specs.Calls.{Row, draws_in, CallLeft, Follows, items_of}

-- ---- what a session's type keeps

-- of its pass, and of its draws with what came of each
pub record SessionHolds (shards id : ℕ) (v : Caller) (rows : List Row) : Type 0 where
  pub place : v.sessions ≡ id ∷ []
  pub own : v.own ≡ draws_in rows
  pub mine : Each (λ (r : Row). (r.draw.session ≡ id) × (r.draw.floor < r.draw.number)) rows
  -- it made running tickets of its own numbers alone
  pub made : Each (λ (n : ℕ). 0 < draws_of n v.own) v.made
  pub left : Each (CallLeft shards v) rows
  pub follow : Chain (Follows shards) rows

-- ---- sessions that ended

-- a session that ended, with its pass as it was when it was joined into the first one
pub record Gone : Type 0 where
  pub session : Session
  pub pass : Caller
  pub rows : List Row

-- it spoke of the items of its own calls
pub record SessionLeft (shards : ℕ) (g : Gone) : Type 0 where
  pub holds : SessionHolds shards g.session.id g.pass g.rows
  pub spoke : Spoke g.session (items_of shards g.pass.seen g.rows)

abbrev pub all_own : List Gone → List Draw
all_own [] = []
all_own (g ∷ gone) = g.pass.own ++ all_own gone

abbrev pub all_made : List Gone → List ℕ
all_made [] = []
all_made (g ∷ gone) = g.pass.made ++ all_made gone

abbrev pub all_places : List Gone → List ℕ
all_places [] = []
all_places (g ∷ gone) = g.pass.sessions ++ all_places gone

abbrev pub sessions_in : List Gone → List Session
sessions_in [] = []
sessions_in (g ∷ gone) = g.session ∷ sessions_in gone

-- what is kept of the first pass: it has what the sessions had that were joined into it, and nothing else
pub record Lobby (shards : ℕ) (first : Caller) (gone : List Gone) : Type 0 where
  pub own : first.own ≡ all_own gone
  pub made : first.made ≡ all_made gone
  pub places : first.sessions ≡ all_places gone
  pub seen : Each (λ (g : Gone). Within g.pass.seen first.seen) gone
  pub left : Each (SessionLeft shards) gone
