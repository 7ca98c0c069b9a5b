-- The parts of an EXEC's reply: what each of its commands was answered.
use Rattle.std.specs.Prelude.{◌≡◌, List, [], ◌∷◌, map, Bool, true, false}
use Rattle.df_model.specs.Values.{Bytes}
use Rattle.df_model.specs.Keyspace.{Keyspace}
use Rattle.df_model.specs.Meaning.{meaning}
use Rattle.df_model.specs.Replies.{encoding_of}
use Rattle.df_model.specs.declared.command.Command.{Command}
use Rattle.df_model.specs.declared.reply.ErrorText.TheVariants as errors
use Rattle.df_model.specs.declared.reply.Reply.TheVariants.{Error}
use Rattle.df_desk.specs.declared.exec.Part.{Part}
use Rattle.df_desk.specs.declared.exec.Part.TheVariants.{Said, Refused}

-- its bytes within the reply
abbrev pub bytes_of : Part → Bytes
bytes_of (Said bytes) = bytes
bytes_of Refused = encoding_of (Error errors.Memory)

abbrev pub is_kept : Part → Bool
is_kept (Said bytes) = true
is_kept Refused = false

-- which of the commands are kept
abbrev pub marks_of : List Part → List Bool
marks_of parts = map is_kept parts

-- what a command came to: its meaning, or nothing changed
abbrev pub Gave : Part → Command → Keyspace → Keyspace → Type 0
Gave (Said bytes) command K after = (bytes ≡ encoding_of (meaning command K).0) × (after ≡ (meaning command K).1)
Gave Refused command K after = after ≡ K

-- commands in turn, each from the keyspace that the one before left
abbrev pub GaveAll : List Command → List Part → Keyspace → Keyspace → Type 0
GaveAll [] [] K after = after ≡ K
GaveAll (command ∷ commands) (part ∷ parts) K after = (middle : Keyspace) × Gave part command K middle × GaveAll commands parts middle after
GaveAll [] (part ∷ parts) K after = ⊥
GaveAll (command ∷ commands) [] K after = ⊥
