-- What came of a call of one hop whose answer was heard.
use Rattle.std.specs.Prelude.{◌≡◌, ℕ, Some, None, [], ◌∷◌}
use Rattle.df_model.specs.Replies.{encoding_of}
use Rattle.df_model.specs.declared.command.Call.{Call}
use Rattle.df_model.specs.declared.reply.Reply.{Reply}
use Rattle.df_core.specs.Done.{want_of_memory}
use Rattle.df_book.specs.Passes.{Caller}
use Rattle.df_end.specs.Rounds.{CallWent}
use Rattle.df_rounds.specs.Between.{row_of}
use Rattle.df_coord.specs.declared.hearing.Heard.{Heard}
use Rattle.df_coord.specs.declared.hearing.Heard.TheVariants as heard

-- From the pass v before its draw to the pass u now: it ran, and its reply lies in the slip or is that it found no memory;
-- or it ran nothing, and its slip holds it.
abbrev pub HasHeard : Heard → ℕ → Caller → Caller → Call → ℕ → Type 0
HasHeard (heard.Ran slip) shards v u call n =
    (reply : Reply) × CallWent shards v u call (row_of v call n (Some reply) ∷ []) × (slip.value.reply ≡ encoding_of reply)
HasHeard (heard.Wanted slip) shards v u call n = CallWent shards v u call (row_of v call n (Some want_of_memory) ∷ [])
HasHeard (heard.Passed why slip) shards v u call n = CallWent shards v u call (row_of v call n None ∷ []) × (slip.value.call ≡ call)
