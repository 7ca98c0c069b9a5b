-- What runs calls of many hops has room for: the messages of one time to all shards, and what came back.
use Rattle.std.specs.Prelude.{◌≡◌, ℕ, Bool, is_some, Option, Some, None, length}
use Rattle.df_book.specs.Passes.{BookName}
use Rattle.df_post.specs.Rounds.{Place, Idle, RoundView, awaited_in, place_at}
use Rattle.df_post.specs.declared.awaited.Awaited.{Awaited}
use Rattle.df_post.specs.declared.awaited.Kind.{Kind}
use Rattle.df_exchange.specs.Exchanges.{asked_in}
use Rattle.df_turn.specs.Turns.{IsClear}
use Rattle.df_many.specs.declared.room.Room.{Room}

-- ---- the messages of one time

-- no message is anywhere
abbrev pub AllIdle : RoundView → Type 0
AllIdle round = (s : ℕ) → place_at s round ≡ Idle

-- what awaits, if anything, is of this kind
abbrev pub OfKind : Kind → Option Awaited → Type 0
OfKind kind None = Unit {0}
OfKind kind (Some a) = a.kind ≡ kind

-- all messages are of this kind
abbrev pub AllOf : Kind → RoundView → Type 0
AllOf kind round = (s : ℕ) → OfKind kind (asked_in (place_at s round))

-- a message is in the place, wherever it is by now
abbrev pub is_asked : Place → Bool
is_asked place = is_some (asked_in place)

-- what is asked of shard s
abbrev pub kind_there : Kind → ℕ → RoundView → Type 0
kind_there kind s round = OfKind kind (asked_in (place_at s round))

-- the one round and the other have the same on the way
pub record SameWay (old new : RoundView) : Type 0 where
  pub book : new.book ≡ old.book
  pub places : length new.places ≡ length old.places
  pub awaits : (s : ℕ) → awaited_in (place_at s new) ≡ awaited_in (place_at s old)

-- ---- all of it

-- for so many shards of this book, with nothing heard
pub record IsRoom (z : BookName) (n : ℕ) (room : Room) : Type 0 where
  pub book : room.round.book ≡ z
  pub places : length room.round.places ≡ n
  pub clear : IsClear n room.outcomes.items
  pub taken : length room.taken.items ≡ n
  pub keys : length room.keys.items ≡ n
