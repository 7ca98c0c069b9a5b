-- What a connection knows of its session at any time, and what the next request does to that.
use Rattle.std.specs.Prelude.{◌≡◌, ◌⊎◌, ℕ, ◌+◌, None, List, [], ◌∷◌, ◌++◌, length}
use Rattle.df_model.specs.Values.{Bytes}
use Rattle.df_model.specs.Words.{Words}
use Rattle.df_model.specs.Framing.{Splits, BeginsWhole, CanGoOn}
use Rattle.df_model.specs.BadInput.{BadAt}
use Rattle.df_model.specs.Session.{State}
use Rattle.df_model.specs.declared.command.Call.{Call}
use Rattle.df_model.specs.declared.session.BadKind.{BadKind}
use Rattle.df_model.specs.declared.session.Why.TheVariants as ends
use Rattle.df_resp.specs.Stream.{Stream, Counts, place_of}
use Rattle.df_caller.specs.Told.{Told}
use Rattle.df_conn.specs.Walked.{Walked, Asked, Closes}
use Rattle.df_conn.specs.declared.talk.Taken.{Taken}
use Rattle.df_conn.specs.declared.talk.Taken.TheVariants as taken

-- all requests before the rest were walked
pub record Stands (told : List Told) (bytes said : Bytes) (state : State) (stream : Stream) : Type 0 where
  pub good : stream.failed ≡ None
  pub counted : Counts 0 bytes stream.before stream.rest
  pub walked : Walked told bytes said state stream.rest

-- and then this call was taken
pub record Awaits (told : List Told) (bytes said : Bytes) (call : Call) (state : State) (stream : Stream) : Type 0 where
  pub good : stream.failed ≡ None
  pub counted : Counts 0 bytes stream.before stream.rest
  pub asked : Asked told bytes said call state stream.rest

-- the first bad byte is at this place, as far as the code counts
pub record BadNear (bytes : Bytes) (at : ℕ) (kind : BadKind) : Type 0 where
  pub place : ℕ
  pub bad : BadAt bytes place kind
  pub at_is : at ≡ place_of place

-- nothing whole is left, and the rest may become a request
pub record IsDry (bytes : Bytes) (stream : Stream) : Type 0 where
  pub no_whole : ¬ (BeginsWhole stream.rest)
  pub can_go_on : CanGoOn bytes

-- the session can't go on: it was walked up to some place
pub record Stuck (told : List Told) (bytes said : Bytes) : Type 0 where
  pub state : State
  pub rest : Bytes
  pub walked : Walked told bytes said state rest

abbrev pub StandsNext : Taken → List Told → Bytes → Bytes → State → Stream → Type 0
StandsNext taken.Replied told bytes said state stream = Stands told bytes said state stream
StandsNext (taken.Calls slip) told bytes said state stream = Awaits told bytes said slip.value.call state stream
StandsNext taken.Quit told bytes said state stream = Closes ends.Quit bytes said told
StandsNext taken.Asked told bytes said state stream = Closes ends.Asked bytes said told
StandsNext taken.Dry told bytes said state stream = Stands told bytes said state stream × IsDry bytes stream
StandsNext (taken.Bad kind at) told bytes said state stream = Closes (ends.Protocol kind at) bytes said told × BadNear bytes at kind
StandsNext taken.NoMemory told bytes said state stream = Stuck told bytes said

-- a request left the rest
abbrev pub LeavesRest : Bytes → Bytes → Type 0
LeavesRest old new = (words : Words) × Splits old (words ∷ []) new

abbrev pub TakesOne : Taken → Bytes → Bytes → Type 0
TakesOne taken.Replied old new = LeavesRest old new
TakesOne (taken.Calls slip) old new = LeavesRest old new
TakesOne taken.Quit old new = LeavesRest old new
TakesOne taken.Asked old new = LeavesRest old new
TakesOne taken.Dry old new = Splits old [] new
TakesOne (taken.Bad kind at) old new = Splits old [] new
TakesOne taken.NoMemory old new = Unit {0}

-- where none is whole nothing is said
abbrev pub AddsFor : Taken → Bytes → Type 0
AddsFor taken.Replied added = Unit {0}
AddsFor (taken.Calls slip) added = Unit {0}
AddsFor taken.Quit added = Unit {0}
AddsFor taken.Asked added = Unit {0}
AddsFor taken.Dry added = added ≡ []
AddsFor (taken.Bad kind at) added = Unit {0}
AddsFor taken.NoMemory added = Unit {0}

-- Replies are added behind the others, and however the session stood, it stands so next.
pub record Took (t : Taken) (sent_old sent : ℕ) (state_old state : State) (old new : Stream) (before now : Bytes) : Type 0 where
  pub sent_is : sent ≡ sent_old
  pub added : Bytes
  pub output : now ≡ before ++ added
  pub adds : AddsFor t added
  pub stands : (told : List Told) (bytes said : Bytes) → Stands told bytes said state_old old → StandsNext t told bytes (said ++ added) state new
  pub takes : old.failed ≡ None → TakesOne t old.rest new.rest

-- so many bytes more were written; where that is all, no output is kept
abbrev pub Passed : ℕ → Bytes → ℕ → Bytes → ℕ → Type 0
Passed count output sent output' sent' =
    ((output' ≡ output) × (sent' ≡ sent + count)) ⊎ ((sent + count ≡ length output) × (output' ≡ []) × (sent' ≡ 0))
