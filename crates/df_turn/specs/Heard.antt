-- What the answers of a round say, of one shard and of all together.
use Rattle.std.specs.Prelude.{ℕ, Bool, true, false, cond, is_some, Option, Some, None, List, [], map}
use Rattle.std.specs.Option.{option_map}
use Rattle.df_model.specs.Values.{Bytes, Value, Members}
use Rattle.df_values.specs.Seen.{seen}
use Rattle.df_values.specs.declared.value.Value.{Value as Here}
use Rattle.df_log.specs.Acts.{Act, Apply, Clear, Unstage, Told, Values}
use Rattle.df_core.specs.Due.{some}
use Rattle.df_core.specs.Done.{names_of, sum_of}
use Rattle.df_hops.specs.declared.answer.Outcome.{Outcome}
use Rattle.df_hops.specs.declared.answer.Outcome.TheVariants as outcomes
use Rattle.df_exchange.specs.Asks.{heard_of}
use Rattle.df_turn.specs.declared.ends.Show.{Show}
use Rattle.df_turn.specs.declared.ends.Show.TheVariants as shows

-- ---- of one shard, or of none that was asked

-- it found no memory
abbrev pub is_want : Option Outcome → Bool
is_want None = false
is_want (Some (outcomes.Ran pieces)) = false
is_want (Some (outcomes.Values values)) = false
is_want (Some outcomes.Staged) = false
is_want (Some outcomes.Applied) = false
is_want (Some (outcomes.Names names)) = false
is_want (Some (outcomes.Number n)) = false
is_want (Some outcomes.NoMemory) = true

-- the count of its keys
abbrev pub number_heard : Option Outcome → ℕ
number_heard None = 0
number_heard (Some (outcomes.Ran pieces)) = 0
number_heard (Some (outcomes.Values values)) = 0
number_heard (Some outcomes.Staged) = 0
number_heard (Some outcomes.Applied) = 0
number_heard (Some (outcomes.Names names)) = 0
number_heard (Some (outcomes.Number n)) = n
number_heard (Some outcomes.NoMemory) = 0

-- the names of its keys
abbrev pub names_heard : Option Outcome → List Bytes
names_heard None = []
names_heard (Some (outcomes.Ran pieces)) = []
names_heard (Some (outcomes.Values values)) = []
names_heard (Some outcomes.Staged) = []
names_heard (Some outcomes.Applied) = []
names_heard (Some (outcomes.Names names)) = names.value.items
names_heard (Some (outcomes.Number n)) = []
names_heard (Some outcomes.NoMemory) = []

-- values as they are seen
abbrev pub seen_values : List (Option Here) → List (Option Value)
seen_values values = map (option_map seen) values

-- what its keys hold
abbrev pub values_heard : Option Outcome → List (Option Value)
values_heard None = []
values_heard (Some (outcomes.Ran pieces)) = []
values_heard (Some (outcomes.Values values)) = seen_values values.value.items
values_heard (Some outcomes.Staged) = []
values_heard (Some outcomes.Applied) = []
values_heard (Some (outcomes.Names names)) = []
values_heard (Some (outcomes.Number n)) = []
values_heard (Some outcomes.NoMemory) = []

-- the reply of a command that ran there
abbrev pub reply_heard : Option Outcome → Option Bytes
reply_heard None = None
reply_heard (Some (outcomes.Ran pieces)) = Some pieces.value
reply_heard (Some (outcomes.Values values)) = None
reply_heard (Some outcomes.Staged) = None
reply_heard (Some outcomes.Applied) = None
reply_heard (Some (outcomes.Names names)) = None
reply_heard (Some (outcomes.Number n)) = None
reply_heard (Some outcomes.NoMemory) = None

-- ---- of the first n shards

-- one of them found no memory
abbrev pub some_want : ℕ → List (Option Outcome) → Bool
some_want n heard = some (λ s. is_want (heard_of s heard)) n

abbrev pub sum_heard : ℕ → List (Option Outcome) → ℕ
sum_heard n heard = sum_of (λ s. number_heard (heard_of s heard)) n

abbrev pub all_names : ℕ → List (Option Outcome) → Members
all_names n heard = names_of (λ s. names_heard (heard_of s heard)) n

-- the answers of a round in which keys were read
abbrev pub told_heard : List (Option Outcome) → ℕ → Told
told_heard heard s = Values (values_heard (heard_of s heard))

-- ---- what those are asked next that were heard

-- by which act a change is shown
abbrev pub act_in : Show → Act
act_in shows.Apply = Apply
act_in shows.Clear = Clear

-- to show what they staged, by this act, or to take it back
abbrev pub ends_as : Bool → Act → Option Outcome → Option Act
ends_as wanted act heard = cond (is_some heard) (Some (cond wanted Unstage act)) None
