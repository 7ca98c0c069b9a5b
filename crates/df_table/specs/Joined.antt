-- A member that goes from a set to a set.
use Rattle.std.specs.Prelude.{◌≡◌, Bool, true, false, Option, Some, None}
use Rattle.df_model.specs.Values.{Bytes, Value, Members}
use Rattle.df_model.specs.Members as members
use Rattle.df_model.specs.Outcomes.{count, settled}
use Rattle.df_model.specs.Meaning.Sets.{members_of, stored}
use Rattle.df_model.specs.Replies.{encoding_of}
use Rattle.df_table.specs.declared.smove.SetHere.{SetHere}
use Rattle.df_table.specs.declared.smove.SetHere.TheVariants.{Missing, With, Without, Other}

-- a set that has the member, or one that hasn't
abbrev pub Has : Bool → Bytes → Option Value → Type 0
Has b member held = (set : Members) × (held ≡ Some (Value.Set set)) × (members.contains set member ≡ b)

-- what a look at a key found
abbrev pub IsSeen : SetHere → Bytes → Option Value → Type 0
IsSeen Missing member held = held ≡ None
IsSeen With member held = Has true member held
IsSeen Without member held = Has false member held
IsSeen Other member held = (members_of held ≡ None)

-- what a key holds that keeps its set though it be empty, or that doesn't
abbrev pub put_as : Bool → Members → Option Value
put_as true set = Some (Value.Set set)
put_as false set = settled (stored set) None

-- the member went from the source to the destination
pub record Joins (member : Bytes) (source left destination received : Members) (bytes : Bytes) : Type 0 where
  pub takes : left ≡ members.remove source member
  pub gives : received ≡ members.insert destination member
  pub says : bytes ≡ encoding_of (count 1)
