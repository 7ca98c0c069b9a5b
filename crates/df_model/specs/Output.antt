-- The output of a session: the encoded replies, in the order of its requests.
use Rattle.std.specs.Prelude.{◌≡◌, ◌⊎◌, List, [], ◌∷◌, ◌++◌}
use Rattle.std.specs.List.{flat_map}
use Rattle.df_model.specs.Values.{Bytes}
use Rattle.df_model.specs.Words.{Words}
use Rattle.df_model.specs.Replies.{encoding_of, protocol_error}
use Rattle.df_model.specs.Session.{State, Given, session_step, without_memory}
use Rattle.df_model.specs.History.{Item}
use Rattle.df_model.specs.declared.command.Call.{Call}
use Rattle.df_model.specs.declared.session.Why.{Why}
use Rattle.df_model.specs.declared.session.Why.TheVariants as ends
use Rattle.df_model.specs.declared.reply.ErrorText.TheVariants as errors
use Rattle.df_model.specs.declared.reply.Reply.{Reply}
use Rattle.df_model.specs.declared.reply.Reply.TheVariants.{Error}

-- ---- where a session that ends so may have stopped

-- anywhere: requests may be left
abbrev pub MayStop : Why → Type 0
MayStop ends.InputEnd = ⊥
MayStop ends.Quit = ⊥
MayStop ends.Asked = ⊥
MayStop ends.Stopped = Unit {0}
MayStop (ends.Protocol kind at) = ⊥
MayStop ends.ReadFault = Unit {0}
MayStop ends.WriteFault = Unit {0}
MayStop ends.TooMany = ⊥
MayStop ends.Spent = Unit {0}
MayStop ends.NoMemory = Unit {0}

-- behind the last request alone
abbrev pub IsAtLast : Why → Type 0
IsAtLast ends.InputEnd = Unit {0}
IsAtLast ends.Quit = ⊥
IsAtLast ends.Asked = ⊥
IsAtLast ends.Stopped = ⊥
IsAtLast (ends.Protocol kind at) = Unit {0}
IsAtLast ends.ReadFault = ⊥
IsAtLast ends.WriteFault = ⊥
IsAtLast ends.TooMany = ⊥
IsAtLast ends.Spent = ⊥
IsAtLast ends.NoMemory = ⊥

-- ---- the walk

-- The machine goes through the requests from a state, takes these items and gives these replies; a rule each.
pub data Walk (end : Why) : State → List Words → List Item → List Reply → Type 0 where
  -- no request is left
  done : (state : State) → IsAtLast end → Walk end state [] [] []
  -- requests may be left
  stopped : (state : State) (requests : List Words) → MayStop end → Walk end state requests [] []
  -- QUIT: what stands behind it isn't looked at
  parted : (state : State) (words : Words) (requests : List Words) (reply : Reply) (after : State) →
      session_step state words ≡ (Given.Parts reply, after) → (end ≡ ends.Quit) ⊎ MayStop end →
      Walk end state (words ∷ requests) [] (reply ∷ [])
  -- SHUTDOWN
  left : (state : State) (words : Words) (requests : List Words) (after : State) →
      session_step state words ≡ (Given.Leaves, after) → (end ≡ ends.Asked) ⊎ MayStop end →
      Walk end state (words ∷ requests) [] []
  -- a reply at once
  replied : (state : State) (words : Words) (requests : List Words) (items : List Item) (reply : Reply) (replies : List Reply) (after : State) →
      session_step state words ≡ (Given.Replies reply, after) → Walk end after requests items replies →
      Walk end state (words ∷ requests) items (reply ∷ replies)
  -- a call that was run takes the next item and gives its reply
  called : (state : State) (words : Words) (requests : List Words) (item : Item) (items : List Item) (replies : List Reply) (after : State) →
      session_step state words ≡ (Given.Calls item.call, after) → Walk end after requests items replies →
      Walk end state (words ∷ requests) (item ∷ items) (item.reply ∷ replies)
  -- a call that found no memory and wasn't run
  not_run : (state : State) (words : Words) (requests : List Words) (items : List Item) (replies : List Reply) (call : Call) (after : State) →
      session_step state words ≡ (Given.Calls call, after) → Walk end after requests items replies →
      Walk end state (words ∷ requests) items (Error errors.Memory ∷ replies)
  -- a request that found no memory before the machine took it
  not_taken : (state : State) (words : Words) (requests : List Words) (items : List Item) (replies : List Reply) →
      Walk end (without_memory state) requests items replies →
      Walk end state (words ∷ requests) items (Error errors.Memory ∷ replies)
  -- a connection too many: no request is looked at
  turned_away : (state : State) → end ≡ ends.TooMany → Walk end state [] [] (Error errors.TooMany ∷ [])

-- what stands behind the replies of a session that ends so
abbrev pub farewell : Why → Bytes
farewell ends.InputEnd = []
farewell ends.Quit = []
farewell ends.Asked = []
farewell ends.Stopped = []
farewell (ends.Protocol kind at) = protocol_error kind
farewell ends.ReadFault = []
farewell ends.WriteFault = []
farewell ends.TooMany = []
farewell ends.Spent = []
farewell ends.NoMemory = []

-- From its beginning the session walked its requests with these items; these are the bytes of its replies, and of
-- the protocol error where its input is bad.
pub record SessionOutput (requests : List Words) (end : Why) (items : List Item) (out : Bytes) : Type 0 where
  pub replies : List Reply
  pub walk : Walk end State.Ready requests items replies
  pub out_is : out ≡ flat_map encoding_of replies ++ farewell end
