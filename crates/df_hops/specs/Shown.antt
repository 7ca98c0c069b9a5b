-- What an answer says, and what its receipt shows: of each of its facts the one side and the other.
use Rattle.std.specs.Prelude.{ℕ, ◌==◌, Bool, true, false, ◌&&◌, ◌||◌, not, cond, Option, Some, None, List, [], ◌∷◌}
use Rattle.df_model.specs.Values.{Bytes}
use Rattle.df_model.specs.Replies.{encoding_of}
use Rattle.df_model.specs.declared.command.Call.{Call}
use Rattle.df_log.specs.Acts as acts
use Rattle.df_log.specs.Acts.{Act, Told}
use Rattle.df_log.specs.Entries.{is_note}
use Rattle.df_log.specs.declared.entry.Entry.{Entry}
use Rattle.df_core.specs.Due.{due}
use Rattle.df_book.specs.Logs.{is_passed}
use Rattle.df_book.specs.Draws.{call_at, draws_of}
use Rattle.df_book.specs.Passes.{BookName, Receipt}
use Rattle.df_hops.specs.Parts.{shards_in}
use Rattle.df_hops.specs.declared.answer.Why.{Why}
use Rattle.df_hops.specs.declared.answer.Why.TheVariants as whys
use Rattle.df_hops.specs.declared.answer.AnswerBody.{AnswerBody}
use Rattle.df_hops.specs.declared.answer.AnswerBody.TheVariants.{Taken, Refused, NoMemory, Passed, Ran, Wanted, Did, Freed, Pulled}

-- ---- what stands in a log

-- the first entry of this number and hop that is no note, which a longer log has too
abbrev pub entry_at : ℕ → ℕ → List Entry → Option Entry
entry_at n hop [] = None
entry_at n hop (e ∷ log) = cond ((e.number == n) && ((e.hop == hop) && not (is_note e.act))) (Some e) (entry_at n hop log)

-- a note that this number was passed stands there
abbrev pub was_passed : ℕ → List Entry → Bool
was_passed n [] = false
was_passed n (e ∷ log) = ((e.number == n) && is_passed e.act) || was_passed n log

-- what an entry did
abbrev pub act_in : Option Entry → Option Act
act_in None = None
act_in (Some e) = Some e.act

-- the bytes of a reply, or that there was no memory for one; no other answer has any
abbrev pub bytes_of : Told → Option (Option Bytes)
bytes_of (acts.Ran reply) = Some (Some (encoding_of reply))
bytes_of (acts.Values values) = None
bytes_of acts.Staged = None
bytes_of acts.Applied = None
bytes_of (acts.Names names) = None
bytes_of (acts.Number n) = None
bytes_of (acts.Cut pairs) = None
bytes_of acts.NoMemory = Some None
bytes_of (acts.Refused limit) = None
bytes_of (acts.Handed bytes) = None
bytes_of (acts.Replied reply) = None

-- the bytes that an entry was told
abbrev pub bytes_in : Option Entry → Option (Option Bytes)
bytes_in None = None
bytes_in (Some e) = bytes_of e.told

-- ---- the receipt

-- the receipt that comes with an answer
abbrev pub receipt_in : AnswerBody → Option Receipt
receipt_in Taken = None
receipt_in (Refused limit) = None
receipt_in NoMemory = None
receipt_in (Passed why slip receipt) = Some receipt
receipt_in (Ran slip receipt keys) = Some receipt
receipt_in (Wanted slip receipt) = Some receipt
receipt_in (Did outcome receipt keys) = Some receipt
receipt_in Freed = None
receipt_in (Pulled out done receipt) = Some receipt

-- whose log it shows, or this shard where there is none
abbrev pub shard_of : ℕ → Option Receipt → ℕ
shard_of s None = s
shard_of s (Some r) = r.shard

abbrev pub shard_shown : ℕ → AnswerBody → ℕ
shard_shown s body = shard_of s (receipt_in body)

-- whose book it is of, or this one where there is none
abbrev pub book_of : BookName → Option Receipt → BookName
book_of z None = z
book_of z (Some r) = r.book

abbrev pub book_shown : BookName → AnswerBody → BookName
book_shown z body = book_of z (receipt_in body)

-- who shows a receipt shows a draw of the number
abbrev pub needs : Option Receipt → ℕ
needs None = 0
needs (Some r) = 1

abbrev pub draws_needed : AnswerBody → ℕ
draws_needed body = needs (receipt_in body)

-- how often the number was drawn by what the shard knew
abbrev pub draws_in : ℕ → Option Receipt → ℕ
draws_in n None = 0
draws_in n (Some r) = draws_of n r.known

abbrev pub draws_shown : ℕ → AnswerBody → ℕ
draws_shown n body = draws_in n (receipt_in body)

-- ---- what ran nothing

-- the limit of a refusal, or the number itself
abbrev pub limit_of : ℕ → Why → ℕ
limit_of n (whys.Refused limit) = limit
limit_of n whys.NoMemory = n

abbrev pub limit_said : ℕ → AnswerBody → ℕ
limit_said n Taken = n
limit_said n (Refused limit) = limit
limit_said n NoMemory = n
limit_said n (Passed why slip receipt) = limit_of n why
limit_said n (Ran slip receipt keys) = n
limit_said n (Wanted slip receipt) = n
limit_said n (Did outcome receipt keys) = n
limit_said n Freed = n
limit_said n (Pulled out done receipt) = n

-- the call in a slip that comes back with nothing run
abbrev pub call_back : AnswerBody → Option Call
call_back Taken = None
call_back (Refused limit) = None
call_back NoMemory = None
call_back (Passed why slip receipt) = Some slip.value.call
call_back (Ran slip receipt keys) = None
call_back (Wanted slip receipt) = None
call_back (Did outcome receipt keys) = None
call_back Freed = None
call_back (Pulled out done receipt) = None

-- the call that was drawn under this number, by what the shard knew
abbrev pub call_drawn : ℕ → AnswerBody → Option Call
call_drawn n Taken = None
call_drawn n (Refused limit) = None
call_drawn n NoMemory = None
call_drawn n (Passed why slip receipt) = Some (call_at receipt.known n)
call_drawn n (Ran slip receipt keys) = None
call_drawn n (Wanted slip receipt) = None
call_drawn n (Did outcome receipt keys) = None
call_drawn n Freed = None
call_drawn n (Pulled out done receipt) = None

-- the note of what was passed stands in the log
abbrev pub has_note : ℕ → AnswerBody → Bool
has_note n Taken = true
has_note n (Refused limit) = true
has_note n NoMemory = true
has_note n (Passed why slip receipt) = was_passed n receipt.log
has_note n (Ran slip receipt keys) = true
has_note n (Wanted slip receipt) = true
has_note n (Did outcome receipt keys) = true
has_note n Freed = true
has_note n (Pulled out done receipt) = true

-- ---- what ran

-- the bytes in the slip, or that there was no memory
abbrev pub told_said : AnswerBody → Option (Option Bytes)
told_said Taken = None
told_said (Refused limit) = None
told_said NoMemory = None
told_said (Passed why slip receipt) = None
told_said (Ran slip receipt keys) = Some (Some slip.value.reply)
told_said (Wanted slip receipt) = Some None
told_said (Did outcome receipt keys) = None
told_said Freed = None
told_said (Pulled out done receipt) = None

-- what the entry of this number and hop was told
abbrev pub told_shown : ℕ → ℕ → AnswerBody → Option (Option Bytes)
told_shown n hop Taken = None
told_shown n hop (Refused limit) = None
told_shown n hop NoMemory = None
told_shown n hop (Passed why slip receipt) = None
told_shown n hop (Ran slip receipt keys) = bytes_in (entry_at n hop receipt.log)
told_shown n hop (Wanted slip receipt) = bytes_in (entry_at n hop receipt.log)
told_shown n hop (Did outcome receipt keys) = None
told_shown n hop Freed = None
told_shown n hop (Pulled out done receipt) = None

-- what that entry did
abbrev pub act_shown : ℕ → ℕ → AnswerBody → Option Act
act_shown n hop Taken = None
act_shown n hop (Refused limit) = None
act_shown n hop NoMemory = None
act_shown n hop (Passed why slip receipt) = None
act_shown n hop (Ran slip receipt keys) = act_in (entry_at n hop receipt.log)
act_shown n hop (Wanted slip receipt) = act_in (entry_at n hop receipt.log)
act_shown n hop (Did outcome receipt keys) = None
act_shown n hop Freed = None
act_shown n hop (Pulled out done receipt) = None

-- what is due as this hop of the call that was drawn, before any other
abbrev pub due_in : ℕ → ℕ → ℕ → Receipt → Option Act
due_in s n hop r = due (shards_in r.book) (call_at r.known n) (λ i. []) s hop

abbrev pub act_asked : ℕ → ℕ → ℕ → AnswerBody → Option Act
act_asked s n hop Taken = None
act_asked s n hop (Refused limit) = None
act_asked s n hop NoMemory = None
act_asked s n hop (Passed why slip receipt) = None
act_asked s n hop (Ran slip receipt keys) = due_in s n hop receipt
act_asked s n hop (Wanted slip receipt) = due_in s n hop receipt
act_asked s n hop (Did outcome receipt keys) = None
act_asked s n hop Freed = None
act_asked s n hop (Pulled out done receipt) = None
