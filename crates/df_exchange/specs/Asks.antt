-- What awaits the answer to a hop, and what its outcome tells.
use Rattle.std.specs.Prelude.{◌≡◌, ℕ, true, Option, Some, None, List, get_or}
use Rattle.df_log.specs.Acts as acts
use Rattle.df_log.specs.Acts.{Act, Told}
use Rattle.df_hops.specs.Came.{said_of, said_as}
use Rattle.df_hops.specs.declared.answer.Outcome.{Outcome}
use Rattle.df_post.specs.Fits.{is_part}
use Rattle.df_post.specs.declared.awaited.Awaited.{Awaited}
use Rattle.df_post.specs.declared.awaited.Kind.TheVariants as kinds
use Rattle.df_post.specs.declared.awaited.PartKind.{PartKind}
use Rattle.df_post.specs.declared.awaited.PartKind.TheVariants as part_kinds

-- what an act is answered by; a note is no part, and any would do
abbrev pub kind_of_act : Act → PartKind
kind_of_act (acts.Run command) = part_kinds.Run
kind_of_act (acts.Read keys) = part_kinds.Read
kind_of_act (acts.Stage changes) = part_kinds.Stage
kind_of_act acts.Apply = part_kinds.Do
kind_of_act acts.Unstage = part_kinds.Do
kind_of_act acts.Begin = part_kinds.Do
kind_of_act acts.Walk = part_kinds.Walk
kind_of_act acts.Count = part_kinds.Count
kind_of_act acts.Clear = part_kinds.Do
kind_of_act acts.Passed = part_kinds.Do
kind_of_act acts.Pull = part_kinds.Do
kind_of_act acts.Saved = part_kinds.Do

-- what awaits the answer to this hop of number n
abbrev pub awaited_hop : ℕ → ℕ → Act → Awaited
awaited_hop n hop act = record { number = n; hop = hop; kind = kinds.Hop (kind_of_act act) }

-- the outcome tells what the entry of this act was told, and is of the kind that such an act is answered by
abbrev pub Tells : Act → Told → Outcome → Type 0
Tells act told outcome = (said_of told ≡ said_as outcome) × (is_part (kind_of_act act) outcome ≡ true)

-- what was heard of a shard: nothing where it wasn't asked, else an outcome that tells what it was told
abbrev pub Heard : Option Act → Told → Option Outcome → Type 0
Heard None told heard = heard ≡ None
Heard (Some act) told heard = (outcome : Outcome) × (heard ≡ Some outcome) × Tells act told outcome

-- what was heard of shard s
abbrev pub heard_of : ℕ → List (Option Outcome) → Option Outcome
heard_of s outcomes = get_or outcomes s None

-- of all shards
abbrev pub AllHeard : (ℕ → Option Act) → (ℕ → Told) → List (Option Outcome) → Type 0
AllHeard asked told outcomes = (s : ℕ) → Heard (asked s) (told s) (heard_of s outcomes)
