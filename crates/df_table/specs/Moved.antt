-- An element that goes from a list to a list.
use Rattle.std.specs.Prelude.{◌≡◌, Bool, true, false, Option, Some, None, List, [], ◌∷◌}
use Rattle.df_model.specs.Values.{Bytes, Value}
use Rattle.df_model.specs.Outcomes.{settled}
use Rattle.df_model.specs.Meaning.Lists.{elements, stored, taken, given}
use Rattle.df_model.specs.Replies.{encoding_of}
use Rattle.df_model.specs.declared.command.Side.{Side}
use Rattle.df_model.specs.declared.reply.Reply.TheVariants.{Bulk}
use Rattle.df_table.specs.declared.moves.ListHere.{ListHere}
use Rattle.df_table.specs.declared.moves.ListHere.TheVariants.{Empty, Filled, Other}

-- a list that has an element
abbrev pub IsFilled : Option Value → Type 0
IsFilled held = (x : Bytes) × (xs : List Bytes) × (held ≡ Some (Value.Elements (x ∷ xs)))

-- what a look at a key found
abbrev pub IsSeen : ListHere → Option Value → Type 0
IsSeen Empty held = elements held ≡ Some []
IsSeen Filled held = IsFilled held
IsSeen Other held = elements held ≡ None

-- what a key holds that keeps its list though it be empty, or that doesn't
abbrev pub put_as : Bool → List Bytes → Option Value
put_as true xs = Some (Value.Elements xs)
put_as false xs = settled (stored xs) None

-- an element of the source went to the destination, and its bytes are the reply
pub record Passes (from to : Side) (source left destination received : List Bytes) (bytes : Bytes) : Type 0 where
  pub element : Bytes
  pub takes : taken from source ≡ element ∷ taken from left
  pub gives : received ≡ given to element destination
  pub says : bytes ≡ encoding_of (Bulk element)

-- an element went from one end of a list to an end of it
pub record Turns (from to : Side) (before after : List Bytes) (bytes : Bytes) : Type 0 where
  pub left : List Bytes
  pub passes : Passes from to before left left after bytes
