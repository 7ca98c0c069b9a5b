-- A post in one thread.
use Rattle.std.specs.Prelude.{◌≡◌, ℕ, zero, suc, ◌+◌, false, None, List, [], ◌∷◌, get_or, map, set}
use Rattle.df_book.specs.Passes.{BookName}
use Rattle.df_post.specs.Postings.{Posting}
use Rattle.df_post.specs.Ways.{WayView}
use Rattle.df_post.specs.declared.local.LocalPost.TheInside.{Inside}

pub record LocalView : Type 0 where
  pub book : BookName
  -- the way to each shard, in order
  pub ways : List WayView
  pub stalls : ℕ

-- the way to shard s of a book, with nothing on it
abbrev pub bare_way : BookName → ℕ → WayView
bare_way z s = record { book = z; shard = s; awaits = None; sent = false; lies = None }

-- those of n shards from s on
abbrev pub bare_ways : BookName → ℕ → ℕ → List WayView
bare_ways z s zero = []
bare_ways z s (suc n) = bare_way z s ∷ bare_ways z (s + 1) n

abbrev pub way_at : ℕ → LocalView → WayView
way_at s p = get_or p.ways s (bare_way p.book s)

abbrev pub posting_of : LocalView → Posting
posting_of p = record { book = p.book; awaits = map (λ (w : WayView). w.awaits) p.ways; stalls = p.stalls }

-- those of the shards from s on are the ways of this book, in order
abbrev pub Rows : BookName → ℕ → List WayView → Type 0
Rows z s [] = Unit {0}
Rows z s (w ∷ ws) = (w.book ≡ z) × (w.shard ≡ s) × Rows z (s + 1) ws

abbrev pub local_of : Inside → LocalView
local_of p = record { book = p.book.value; ways = p.ways.items; stalls = p.stalls }

abbrev pub IsKept : Inside → Type 0
IsKept p = Rows p.book.value 0 p.ways.items

-- one way changed, and how often something had to wait
abbrev pub ChangedAt : ℕ → LocalView → LocalView → Type 0
ChangedAt s old new = (new.book ≡ old.book) × (new.ways ≡ set old.ways s (way_at s new))
