-- What an answer says of the part that ran, and what its receipt shows of it: of each of these facts the one side and the
-- other.
use Rattle.std.specs.Prelude.{ℕ, ◌≡◌, Bool, true, is_some, Option, Some, None, List, [], ◌∷◌, map}
use Rattle.std.specs.Option.{option_map}
use Rattle.std.specs.FinMap as fin
use Rattle.df_model.specs.Keyspace.{Keyspace, held}
use Rattle.df_model.specs.Meaning.{meaning}
use Rattle.df_model.specs.Replies.{encoding_of}
use Rattle.df_values.specs.Seen.{seen}
use Rattle.df_log.specs.Acts as acts
use Rattle.df_log.specs.Acts.{Act, Told}
use Rattle.df_log.specs.Parts.{own_keys, may_want}
use Rattle.df_log.specs.declared.entry.Entry.{Entry}
use Rattle.df_book.specs.Passes.{Receipt}
use Rattle.df_end.specs.Asked.{PartDue}
use Rattle.df_hops.specs.Outcomes as said
use Rattle.df_hops.specs.Outcomes.{Said}
use Rattle.df_hops.specs.Parts.{shards_in}
use Rattle.df_hops.specs.Shown.{entry_at, act_in}
use Rattle.df_hops.specs.declared.answer.Outcome.{Outcome}
use Rattle.df_hops.specs.declared.answer.Outcome.TheVariants as outcomes
use Rattle.df_hops.specs.declared.answer.AnswerBody.{AnswerBody}
use Rattle.df_hops.specs.declared.answer.AnswerBody.TheVariants.{Taken, Refused, NoMemory, Passed, Ran, Wanted, Did, Freed, Pulled}

-- ---- what an act gives

-- where memory suffices, on a shard where this is seen of its keys; a note gives nothing
abbrev pub given : ℕ → ℕ → Keyspace → Act → Told
given shards s K (acts.Run command) = acts.Ran (meaning command K).0
given shards s K (acts.Read keys) = acts.Values (map (held K) keys)
given shards s K (acts.Stage changes) = acts.Staged
given shards s K acts.Apply = acts.Applied
given shards s K acts.Unstage = acts.Applied
given shards s K acts.Begin = acts.Cut (own_keys shards s K)
given shards s K acts.Walk = acts.Names (fin.keys (own_keys shards s K))
given shards s K acts.Count = acts.Number (fin.len (own_keys shards s K))
given shards s K acts.Clear = acts.Applied
given shards s K acts.Passed = acts.NoMemory
given shards s K acts.Pull = acts.NoMemory
given shards s K acts.Saved = acts.NoMemory

-- the outcome, or want of memory
abbrev pub given_as : Outcome → ℕ → ℕ → Keyspace → Act → Told
given_as (outcomes.Ran pieces) shards s K act = given shards s K act
given_as (outcomes.Values values) shards s K act = given shards s K act
given_as outcomes.Staged shards s K act = given shards s K act
given_as outcomes.Applied shards s K act = given shards s K act
given_as (outcomes.Names names) shards s K act = given shards s K act
given_as (outcomes.Number n) shards s K act = given shards s K act
given_as outcomes.NoMemory shards s K act = acts.NoMemory

-- what an entry was told
abbrev pub told_in : Option Entry → Option Told
told_in None = None
told_in (Some e) = Some e.told

abbrev pub came_shown : ℕ → ℕ → AnswerBody → Option Told
came_shown n hop Taken = None
came_shown n hop (Refused limit) = None
came_shown n hop NoMemory = None
came_shown n hop (Passed why slip receipt) = None
came_shown n hop (Ran slip receipt keys) = told_in (entry_at n hop receipt.log)
came_shown n hop (Wanted slip receipt) = None
came_shown n hop (Did outcome receipt keys) = told_in (entry_at n hop receipt.log)
came_shown n hop Freed = None
came_shown n hop (Pulled out done receipt) = None

abbrev pub came_due : ℕ → ℕ → AnswerBody → Option Told
came_due n hop Taken = None
came_due n hop (Refused limit) = None
came_due n hop NoMemory = None
came_due n hop (Passed why slip receipt) = None
came_due n hop (Ran slip receipt keys) =
    option_map (given (shards_in receipt.book) receipt.shard keys.value.keys) (act_in (entry_at n hop receipt.log))
came_due n hop (Wanted slip receipt) = None
came_due n hop (Did outcome receipt keys) =
    option_map (given_as outcome (shards_in receipt.book) receipt.shard keys.value.keys) (act_in (entry_at n hop receipt.log))
came_due n hop Freed = None
came_due n hop (Pulled out done receipt) = None

-- ---- an outcome

abbrev pub said_of : Told → Said
said_of (acts.Ran reply) = said.Reply (encoding_of reply)
said_of (acts.Values values) = said.Values values
said_of acts.Staged = said.Staged
said_of acts.Applied = said.Applied
said_of (acts.Names names) = said.Names names
said_of (acts.Number n) = said.Number n
said_of (acts.Cut pairs) = said.Applied
said_of acts.NoMemory = said.NoMemory
said_of (acts.Refused limit) = said.Nothing
said_of (acts.Handed bytes) = said.Nothing
said_of (acts.Replied reply) = said.Nothing

abbrev pub said_as : Outcome → Said
said_as (outcomes.Ran pieces) = said.Reply pieces.value
said_as (outcomes.Values values) = said.Values (map (option_map seen) values.value.items)
said_as outcomes.Staged = said.Staged
said_as outcomes.Applied = said.Applied
said_as (outcomes.Names names) = said.Names names.value.items
said_as (outcomes.Number n) = said.Number n
said_as outcomes.NoMemory = said.NoMemory

abbrev pub said_in : Option Entry → Option Said
said_in None = None
said_in (Some e) = Some (said_of e.told)

abbrev pub outcome_said : AnswerBody → Option Said
outcome_said Taken = None
outcome_said (Refused limit) = None
outcome_said NoMemory = None
outcome_said (Passed why slip receipt) = None
outcome_said (Ran slip receipt keys) = None
outcome_said (Wanted slip receipt) = None
outcome_said (Did outcome receipt keys) = Some (said_as outcome)
outcome_said Freed = None
outcome_said (Pulled out done receipt) = None

abbrev pub outcome_shown : ℕ → ℕ → AnswerBody → Option Said
outcome_shown n hop Taken = None
outcome_shown n hop (Refused limit) = None
outcome_shown n hop NoMemory = None
outcome_shown n hop (Passed why slip receipt) = None
outcome_shown n hop (Ran slip receipt keys) = None
outcome_shown n hop (Wanted slip receipt) = None
outcome_shown n hop (Did outcome receipt keys) = said_in (entry_at n hop receipt.log)
outcome_shown n hop Freed = None
outcome_shown n hop (Pulled out done receipt) = None

-- the act may find no memory, if that is the outcome
abbrev pub may_want_as : Outcome → Act → Bool
may_want_as (outcomes.Ran pieces) act = true
may_want_as (outcomes.Values values) act = true
may_want_as outcomes.Staged act = true
may_want_as outcomes.Applied act = true
may_want_as (outcomes.Names names) act = true
may_want_as (outcomes.Number n) act = true
may_want_as outcomes.NoMemory act = may_want act

abbrev pub may_want_in : Outcome → Option Act → Bool
may_want_in outcome None = true
may_want_in outcome (Some act) = may_want_as outcome act

abbrev pub may_want_it : ℕ → ℕ → AnswerBody → Bool
may_want_it n hop Taken = true
may_want_it n hop (Refused limit) = true
may_want_it n hop NoMemory = true
may_want_it n hop (Passed why slip receipt) = true
may_want_it n hop (Ran slip receipt keys) = true
may_want_it n hop (Wanted slip receipt) = true
may_want_it n hop (Did outcome receipt keys) = may_want_in outcome (act_in (entry_at n hop receipt.log))
may_want_it n hop Freed = true
may_want_it n hop (Pulled out done receipt) = true

-- ---- what was due

-- the entry of a Hop did what was due by what its caller had seen, which the shard had seen too
abbrev pub DueAs : ℕ → ℕ → Receipt → Option Entry → Type 0
DueAs n hop r None = ⊥
DueAs n hop r (Some e) = PartDue (shards_in r.book) r n hop e.act

abbrev pub IsDue : ℕ → ℕ → AnswerBody → Type 0
IsDue n hop Taken = Unit {0}
IsDue n hop (Refused limit) = Unit {0}
IsDue n hop NoMemory = Unit {0}
IsDue n hop (Passed why slip receipt) = Unit {0}
IsDue n hop (Ran slip receipt keys) = Unit {0}
IsDue n hop (Wanted slip receipt) = Unit {0}
IsDue n hop (Did outcome receipt keys) = DueAs n hop receipt (entry_at n hop receipt.log)
IsDue n hop Freed = Unit {0}
IsDue n hop (Pulled out done receipt) = Unit {0}
