-- A desk as its connection sees it, and as the one who serves it does.
use Rattle.std.specs.Prelude.{◌≡◌, Bool, true, false, List, [], ◌∷◌, ◌++◌, Option, Some, None}
use Rattle.df_model.specs.Replies.{encoding_of}
use Rattle.df_model.specs.declared.command.Call.{Call}
use Rattle.df_caller.specs.Told.{Told}
use Rattle.df_desk.specs.States.{DeskState}
use Rattle.df_desk.specs.declared.place.Place.{Place}
use Rattle.df_desk.specs.declared.place.Place.TheVariants as places
use Rattle.df_desk.specs.declared.desk.Desk.TheInside.{Inside}

-- the call under way
abbrev pub under_at : Place → Option Call
under_at places.Empty = None
under_at (places.Waits slip) = Some slip.value.call
under_at (places.Ran slip ran) = Some ran.call
under_at (places.Unsaid slip ran) = Some ran.call
under_at (places.NoMemory slip call) = Some call.value

-- whether the next step tells how the call came out
abbrev pub due_at : Place → Bool
due_at places.Empty = true
due_at (places.Waits slip) = false
due_at (places.Ran slip ran) = true
due_at (places.Unsaid slip ran) = true
due_at (places.NoMemory slip call) = true

-- the call that ran, of which the connection isn't told yet
abbrev pub ran_at : Place → List Told
ran_at places.Empty = []
ran_at (places.Waits slip) = []
ran_at (places.Ran slip ran) = ran ∷ []
ran_at (places.Unsaid slip ran) = ran ∷ []
ran_at (places.NoMemory slip call) = []

-- the reply that lies in the slip is the call's
abbrev pub said_at : Place → Type 0
said_at places.Empty = Unit {0}
said_at (places.Waits slip) = Unit {0}
said_at (places.Ran slip ran) = slip.value.reply ≡ encoding_of ran.reply
said_at (places.Unsaid slip ran) = Unit {0}
said_at (places.NoMemory slip call) = Unit {0}

abbrev pub desk_of : Inside → DeskState
desk_of d = record { calling = record { told = d.answered; under = under_at d.place; stalls = d.stalls; due = due_at d.place }; ran = d.answered ++ ran_at d.place }
