-- Statements of laws.
use Rattle.std.specs.Prelude.{List, Bool}
use Rattle.df_model.specs.Keyspace.{Keyspace, no_keys}
use Rattle.df_model.specs.Meaning.{meaning}
use Rattle.df_model.specs.Calls.{HasWords, IsCall, Allowed}
use Rattle.df_model.specs.declared.command.Command.{Command}
use Rattle.df_model.specs.declared.command.Call.{Call}
use Rattle.df_model.specs.declared.reply.Reply.{Reply}
use Rattle.df_limits.specs.Limits.{KeepsLimits}

-- a command whose words are no longer than a request's may be leaves a keyspace within the limits, where it meets one
abbrev pub CommandsKeepLimits : Type 0
CommandsKeepLimits = (command : Command) (K : Keyspace) → HasWords command → KeepsLimits K → KeepsLimits (meaning command K).1

-- so does a call, whichever of its commands are kept
abbrev pub CallsKeepLimits : Type 0
CallsKeepLimits =
    (call : Call) (marks : List Bool) (K : Keyspace) (reply : Reply) (after : Keyspace) →
    IsCall call → Allowed call marks K reply after → KeepsLimits K → KeepsLimits after

abbrev pub NoKeysKeepLimits : Type 0
NoKeysKeepLimits = KeepsLimits no_keys
