-- A command that was run as it means, or that found no memory, is an outcome; and so are those of an EXEC in turn.
use Rattle.std.proofs.Common.{◌≡◌, Bool, true, false, List, [], ◌∷◌, ◌++◌, length, codes, decimal, inl, inr, refl, sym, ap, subst, ◌∙◌, arith}
use Rattle.std.specs.List.{flat_map}
use Rattle.df_model.specs.Values.{Bytes}
use Rattle.df_model.specs.Keyspace.{Keyspace}
use Rattle.df_model.specs.Spared.{Spared}
use Rattle.df_model.specs.Meaning.{meaning}
use Rattle.df_model.specs.Calls.{Does, DoesAll, Allowed}
use Rattle.df_model.specs.Replies.{crlf, encoding_of}
use Rattle.df_model.specs.declared.command.WholeOp.TheVariants as wholes
use Rattle.df_model.specs.declared.command.Command.{Command}
use Rattle.df_model.specs.declared.command.Command.TheVariants.{Plain, One, Many, Whole, Wrong}
use Rattle.df_model.specs.declared.command.Call.{Call}
use Rattle.df_model.specs.declared.command.Call.TheVariants.{Single, Exec}
use Rattle.df_model.specs.declared.reply.ErrorText.TheVariants as errors
use Rattle.df_model.specs.declared.reply.Reply.TheVariants.{Error}
use Rattle.df_model.proofs.EncodingLaws.{array_is}
use Rattle.df_caller.specs.Told.{Told}
use Rattle.df_table.specs.Responses.{Gives}
use Rattle.df_desk.specs.declared.exec.Part.{Part}
use Rattle.df_desk.specs.declared.exec.Part.TheVariants.{Said, Refused}
use Rattle.df_desk.specs.Parts.{bytes_of, marks_of, GaveAll}
use Rattle.df_desk.specs.Replies.{replies_on, reply_on, told_on}
use Rattle.df_desk.specs.Runs.{HasGiven}

-- ---- one command

kept : (command : Command) (K after : Keyspace) → after ≡ (meaning command K).1 → Does command true K (meaning command K).0 after
kept (Plain op) K after e = ap (λ m. ((meaning (Plain op) K).0, m)) (sym e)
kept (One key op) K after e = ap (λ m. ((meaning (One key op) K).0, m)) (sym e)
kept (Many op) K after e = ap (λ m. ((meaning (Many op) K).0, m)) (sym e)
kept (Whole wholes.Dbsize) K after e = ap (λ m. ((meaning (Whole wholes.Dbsize) K).0, m)) (sym e)
kept (Whole (wholes.Keys pattern)) K after e = ap (λ m. ((meaning (Whole (wholes.Keys pattern)) K).0, m)) (sym e)
kept (Whole wholes.Flushall) K after e = ap (λ m. ((meaning (Whole wholes.Flushall) K).0, m)) (sym e)
kept (Whole wholes.Flushdb) K after e = ap (λ m. ((meaning (Whole wholes.Flushdb) K).0, m)) (sym e)
kept (Whole wholes.Save) K after e = (e, inl refl)
kept (Wrong error) K after e = ap (λ m. ((meaning (Wrong error) K).0, m)) (sym e)

refused : (command : Command) (K after : Keyspace) → after ≡ K → Does command false K (Error errors.Memory) after
refused (Plain op) K after e = (e, inl refl)
refused (One key op) K after e = (e, inl refl)
refused (Many op) K after e = (e, inl refl)
refused (Whole wholes.Dbsize) K after e = (e, inl refl)
refused (Whole (wholes.Keys pattern)) K after e = (e, inl refl)
refused (Whole wholes.Flushall) K after e = (e, inl refl)
refused (Whole wholes.Flushdb) K after e = (e, inl refl)
refused (Whole wholes.Save) K after e = (e, inr (inr refl))
refused (Wrong error) K after e = (e, inl refl)

-- ---- the commands of an EXEC

does_all : (commands : List Command) (parts : List Part) (K after : Keyspace) → GaveAll commands parts K after → DoesAll commands (marks_of parts) K (replies_on commands (marks_of parts) K) after
does_all [] [] K after g = g
does_all [] (part ∷ parts) K after g = absurd g
does_all (command ∷ commands) [] K after g = absurd g
does_all (command ∷ commands) (Said bytes ∷ parts) K after g =
    let next = (meaning command K).1 in
    (next, kept command K next refl, does_all commands parts next after (subst (λ k. GaveAll commands parts k after) g.1.1 g.2))
does_all (command ∷ commands) (Refused ∷ parts) K after g =
    (K, refused command K K refl, does_all commands parts K after (subst (λ k. GaveAll commands parts k after) g.1 g.2))

one_each : (commands : List Command) (parts : List Part) (K after : Keyspace) → GaveAll commands parts K after → length parts ≡ length (replies_on commands (marks_of parts) K)
one_each [] [] K after g = refl
one_each [] (part ∷ parts) K after g = absurd g
one_each (command ∷ commands) [] K after g = absurd g
one_each (command ∷ commands) (Said bytes ∷ parts) K after g =
    let next = (meaning command K).1 in
    omega (arith, one_each commands parts next after (subst (λ k. GaveAll commands parts k after) g.1.1 g.2))
one_each (command ∷ commands) (Refused ∷ parts) K after g =
    omega (arith, one_each commands parts K after (subst (λ k. GaveAll commands parts k after) g.1 g.2))

-- the parts' bytes are those of the replies
says_all : (commands : List Command) (parts : List Part) (K after : Keyspace) → GaveAll commands parts K after → flat_map bytes_of parts ≡ flat_map encoding_of (replies_on commands (marks_of parts) K)
says_all [] [] K after g = refl
says_all [] (part ∷ parts) K after g = absurd g
says_all (command ∷ commands) [] K after g = absurd g
says_all (command ∷ commands) (Said bytes ∷ parts) K after g =
    let next = (meaning command K).1 in
    ap (λ x. x ++ flat_map bytes_of parts) g.1.0
    ∙ ap (λ x. encoding_of (meaning command K).0 ++ x) (says_all commands parts next after (subst (λ k. GaveAll commands parts k after) g.1.1 g.2))
says_all (command ∷ commands) (Refused ∷ parts) K after g =
    ap (λ x. encoding_of (Error errors.Memory) ++ x) (says_all commands parts K after (subst (λ k. GaveAll commands parts k after) g.1 g.2))

-- ---- a call that ran

-- as a call of its own
pub single_given : (call : Call) (command : Command) (marks : List Bool) (K after : Keyspace) (ran : Told) (reply : Bytes) → call ≡ Single command → ran ≡ told_on call marks K → Gives (meaning command K) after reply →
    HasGiven ran call K after × (reply ≡ encoding_of ran.reply)
single_given call command marks K after ran reply is e g =
    let told : ran ≡ told_on (Single command) marks K = e ∙ ap (λ c. told_on c marks K) is in
    let allowed : Allowed (Single command) (true ∷ []) K (meaning command K).0 after = (after, kept command K after g.leaves, refl) in
    (record { calls = ap (λ (t : Told). t.call) e; marks = true ∷ []; allowed = subst (λ (t : Told). Allowed t.call (true ∷ []) K t.reply after) (sym told) allowed }, g.says ∙ ap (λ (t : Told). encoding_of t.reply) (sym told))

pub exec_given : (call : Call) (commands : Spared Command) (parts : List Part) (K after : Keyspace) (ran : Told) → call ≡ Exec commands → ran ≡ told_on call (marks_of parts) K → GaveAll commands.items parts K after → HasGiven ran call K after
exec_given call commands parts K after ran is e g =
    let told : ran ≡ told_on (Exec commands) (marks_of parts) K = e ∙ ap (λ c. told_on c (marks_of parts) K) is in
    let allowed : Allowed (Exec commands) (marks_of parts) K (reply_on (Exec commands) (marks_of parts) K) after = (replies_on commands.items (marks_of parts) K, refl, does_all commands.items parts K after g) in
    record { calls = ap (λ (t : Told). t.call) e; marks = marks_of parts; allowed = subst (λ (t : Told). Allowed t.call (marks_of parts) K t.reply after) (sym told) allowed }

pub exec_said : (call : Call) (commands : Spared Command) (parts : List Part) (K after : Keyspace) (ran : Told) (reply : Bytes) → call ≡ Exec commands → ran ≡ told_on call (marks_of parts) K → GaveAll commands.items parts K after →
    reply ≡ codes "*" ++ decimal (length parts) ++ crlf ++ flat_map bytes_of parts → reply ≡ encoding_of ran.reply
exec_said call commands parts K after ran reply is e g joined =
    let replies = replies_on commands.items (marks_of parts) K in
    let told : ran ≡ told_on (Exec commands) (marks_of parts) K = e ∙ ap (λ c. told_on c (marks_of parts) K) is in
    joined
    ∙ ap (λ n. codes "*" ++ decimal n ++ crlf ++ flat_map bytes_of parts) (one_each commands.items parts K after g)
    ∙ ap (λ x. codes "*" ++ decimal (length replies) ++ crlf ++ x) (says_all commands.items parts K after g)
    ∙ sym (array_is replies)
    ∙ ap (λ (t : Told). encoding_of t.reply) (sym told)
