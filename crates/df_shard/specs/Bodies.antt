-- Kinds of messages and of answers.
use Rattle.std.specs.Prelude.{ℕ, Bool, true, false, Option, Some, None}
use Rattle.df_log.specs.Acts as acts
use Rattle.df_log.specs.Acts.{Told}
use Rattle.df_hops.specs.declared.answer.Why.{Why}
use Rattle.df_hops.specs.declared.answer.Why.TheVariants.{Refused, NoMemory}
use Rattle.df_hops.specs.declared.answer.Answer.{Answer}
use Rattle.df_hops.specs.declared.answer.AnswerBody.{AnswerBody}
use Rattle.df_hops.specs.declared.answer.AnswerBody.TheVariants as answers
use Rattle.df_hops.specs.declared.message.Body.{Body}
use Rattle.df_hops.specs.declared.message.Body.TheVariants.{Schedule, Quick, Hop, Cancel, Conclude, Pull, DropCut}

-- ---- messages

abbrev pub is_quick : Body → Bool
is_quick (Schedule keys) = false
is_quick (Quick hop hash slip) = true
is_quick (Hop hop part) = false
is_quick Cancel = false
is_quick Conclude = false
is_quick (Pull hop) = false
is_quick DropCut = false

abbrev pub is_schedule : Body → Bool
is_schedule (Schedule keys) = true
is_schedule (Quick hop hash slip) = false
is_schedule (Hop hop part) = false
is_schedule Cancel = false
is_schedule Conclude = false
is_schedule (Pull hop) = false
is_schedule DropCut = false

abbrev pub is_hop : Body → Bool
is_hop (Schedule keys) = false
is_hop (Quick hop hash slip) = false
is_hop (Hop hop part) = true
is_hop Cancel = false
is_hop Conclude = false
is_hop (Pull hop) = false
is_hop DropCut = false

-- nobody answers it at once
abbrev pub is_silent : Body → Bool
is_silent (Schedule keys) = false
is_silent (Quick hop hash slip) = false
is_silent (Hop hop part) = true
is_silent Cancel = false
is_silent Conclude = false
is_silent (Pull hop) = true
is_silent DropCut = false

-- ---- answers

-- what the note of a Quick that was passed was told
abbrev pub why_told : Why → Told
why_told (Refused limit) = acts.Refused limit
why_told NoMemory = acts.NoMemory

-- why a Quick was passed, if it was
abbrev pub why_in : AnswerBody → Option Why
why_in answers.Taken = None
why_in (answers.Refused limit) = None
why_in answers.NoMemory = None
why_in (answers.Passed why slip receipt) = Some why
why_in (answers.Ran slip receipt keys) = None
why_in (answers.Wanted slip receipt) = None
why_in (answers.Did outcome receipt keys) = None
why_in answers.Freed = None
why_in (answers.Pulled out done receipt) = None

abbrev pub limit_in_why : Option Why → Option ℕ
limit_in_why None = None
limit_in_why (Some (Refused limit)) = Some limit
limit_in_why (Some NoMemory) = None

-- the limit by which a Schedule was refused, if it was
abbrev pub limit_in : AnswerBody → Option ℕ
limit_in answers.Taken = None
limit_in (answers.Refused limit) = Some limit
limit_in answers.NoMemory = None
limit_in (answers.Passed why slip receipt) = None
limit_in (answers.Ran slip receipt keys) = None
limit_in (answers.Wanted slip receipt) = None
limit_in (answers.Did outcome receipt keys) = None
limit_in answers.Freed = None
limit_in (answers.Pulled out done receipt) = None

abbrev pub limit_scheduled : Option Answer → Option ℕ
limit_scheduled None = None
limit_scheduled (Some answer) = limit_in answer.body

abbrev pub is_taken : AnswerBody → Bool
is_taken answers.Taken = true
is_taken (answers.Refused limit) = false
is_taken answers.NoMemory = false
is_taken (answers.Passed why slip receipt) = false
is_taken (answers.Ran slip receipt keys) = false
is_taken (answers.Wanted slip receipt) = false
is_taken (answers.Did outcome receipt keys) = false
is_taken answers.Freed = false
is_taken (answers.Pulled out done receipt) = false

abbrev pub was_taken : Option Answer → Bool
was_taken None = false
was_taken (Some answer) = is_taken answer.body

-- it has neither a slip nor a receipt
abbrev pub is_plain : AnswerBody → Bool
is_plain answers.Taken = true
is_plain (answers.Refused limit) = true
is_plain answers.NoMemory = true
is_plain (answers.Passed why slip receipt) = false
is_plain (answers.Ran slip receipt keys) = false
is_plain (answers.Wanted slip receipt) = false
is_plain (answers.Did outcome receipt keys) = false
is_plain answers.Freed = true
is_plain (answers.Pulled out done receipt) = false

-- ---- what a Quick is answered

-- its call is done on the shard: a Quick was passed or ran
abbrev pub ends_quick : AnswerBody → Bool
ends_quick answers.Taken = false
ends_quick (answers.Refused limit) = false
ends_quick answers.NoMemory = false
ends_quick (answers.Passed why slip receipt) = true
ends_quick (answers.Ran slip receipt keys) = true
ends_quick (answers.Wanted slip receipt) = true
ends_quick (answers.Did outcome receipt keys) = false
ends_quick answers.Freed = false
ends_quick (answers.Pulled out done receipt) = false

abbrev pub why_answered : Option Answer → Option Why
why_answered None = None
why_answered (Some answer) = why_in answer.body

-- the limit by which it was refused, if it was
abbrev pub limit_answered : Option Answer → Option ℕ
limit_answered answer = limit_in_why (why_answered answer)

abbrev pub is_passed : Option Why → Bool
is_passed None = false
is_passed (Some why) = true

abbrev pub was_passed : Option Answer → Bool
was_passed answer = is_passed (why_answered answer)

abbrev pub is_for_memory : Option Why → Bool
is_for_memory None = false
is_for_memory (Some (Refused limit)) = false
is_for_memory (Some NoMemory) = true

-- it was passed for want of memory
abbrev pub is_unheard : Option Answer → Bool
is_unheard answer = is_for_memory (why_answered answer)
