-- What a call is answered on one table. A mark for each command of an EXEC says whether it is kept.
use Rattle.std.specs.Prelude.{List, [], ◌∷◌, Bool, true, false}
use Rattle.df_model.specs.Keyspace.{Keyspace}
use Rattle.df_model.specs.Meaning.{meaning}
use Rattle.df_model.specs.Outcomes.{array}
use Rattle.df_model.specs.declared.command.Command.{Command}
use Rattle.df_model.specs.declared.command.Call.{Call}
use Rattle.df_model.specs.declared.command.Call.TheVariants as calls
use Rattle.df_model.specs.declared.reply.ErrorText.TheVariants as errors
use Rattle.df_model.specs.declared.reply.Reply.{Reply}
use Rattle.df_model.specs.declared.reply.Reply.TheVariants.{Error}
use Rattle.df_caller.specs.Told.{Told}

-- a command that is kept is answered as it means, and leaves its keyspace to the next; another found no memory
abbrev pub replies_on : List Command → List Bool → Keyspace → List Reply
replies_on [] marks K = []
replies_on (command ∷ commands) [] K = []
replies_on (command ∷ commands) (true ∷ marks) K = (meaning command K).0 ∷ replies_on commands marks (meaning command K).1
replies_on (command ∷ commands) (false ∷ marks) K = Error errors.Memory ∷ replies_on commands marks K

abbrev pub reply_on : Call → List Bool → Keyspace → Reply
reply_on (calls.Single command) marks K = (meaning command K).0
reply_on (calls.Exec commands) marks K = array (replies_on commands.items marks K)

abbrev pub told_on : Call → List Bool → Keyspace → Told
told_on call marks K = record { call = call; reply = reply_on call marks K }
