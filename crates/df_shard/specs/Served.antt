-- What an armed hop comes to: its entry, what its shard has then, and what is answered.
use Rattle.std.specs.Prelude.{◌≡◌, ℕ, ◌+◌, Bool, true, false, Option, Some, None, if◌then◌else◌}
use Rattle.df_model.specs.Keyspace.{Keyspace}
use Rattle.df_model.specs.Reads.{IsLinked}
use Rattle.df_log.specs.Acts as acts
use Rattle.df_log.specs.Acts.{Act, Told, Changes}
use Rattle.df_log.specs.Parts.{IsTold, shown_after, staged_after}
use Rattle.df_log.specs.declared.entry.Entry.{Entry}
use Rattle.df_hops.specs.Shown.{bytes_of}
use Rattle.df_hops.specs.Came.{given, given_as, may_want_as, said_as, said_of}
use Rattle.df_shard.specs.Holds.{Hopping, Wait, puts_in}
use Rattle.df_shard.specs.Changes.{done_wait}
use Rattle.df_model.specs.declared.command.Call.{Call}
use Rattle.df_shard.specs.declared.serving.Came.{Came}
use Rattle.df_shard.specs.declared.serving.Came.TheVariants.{OfQuick, OfPart}
use Rattle.df_shard.specs.declared.serving.Turned.{Turned}

-- a command that runs is no SAVE
abbrev pub IsLinkedAct : Act → Type 0
IsLinkedAct (acts.Run command) = IsLinked command
IsLinkedAct (acts.Read keys) = Unit {0}
IsLinkedAct (acts.Stage changes) = Unit {0}
IsLinkedAct acts.Apply = Unit {0}
IsLinkedAct acts.Unstage = Unit {0}
IsLinkedAct acts.Begin = Unit {0}
IsLinkedAct acts.Walk = Unit {0}
IsLinkedAct acts.Count = Unit {0}
IsLinkedAct acts.Clear = Unit {0}
IsLinkedAct acts.Passed = ⊥
IsLinkedAct acts.Pull = ⊥
IsLinkedAct acts.Saved = ⊥

-- the entry of an armed hop
abbrev pub entry_of : Wait → Hopping → Told → Entry
entry_of w a told = record { number = w.number; hop = a.hop; act = a.act; told = told }

-- What is said of the hop is what its entry was told: of a Quick the reply's bytes or that it found no memory, of a part
-- its outcome.
abbrev pub IsSaid : ℕ → ℕ → Keyspace → Hopping → Told → Came → Type 0
IsSaid shards s K a told (OfQuick is_said slip) =
    ((if is_said then Some (Some slip.value.reply) else Some None) ≡ bytes_of told)
    × (is_said ≡ true → told ≡ given shards s K a.act) × (a.call ≡ None → ⊥)
IsSaid shards s K a told (OfPart outcome) =
    (told ≡ given_as outcome shards s K a.act) × (said_as outcome ≡ said_of told) × (may_want_as outcome a.act ≡ true)
    × (a.call ≡ None)

abbrev pub is_quick_came : Came → Bool
is_quick_came (OfQuick is_said slip) = true
is_quick_came (OfPart outcome) = false

-- The armed hop of the call w ran on a shard with these keys and places that are kept.
pub record ServedTo (shards s : ℕ) (K : Keyspace) (kept : ℕ) (w : Wait) (K' : Keyspace) (kept' : ℕ) (w' : Wait) (r : Turned) : Type 0 where
  pub ran : Hopping
  pub told : Told
  pub changes : Changes
  pub armed : w.armed ≡ Some ran
  pub entry : r.entry ≡ entry_of w ran told
  pub hop : r.hop ≡ ran.hop
  pub after : w' ≡ done_wait w ran.hop changes
  pub is_told : IsTold shards s K ran.act told
  pub keys : K' ≡ shown_after ran.act told w.staged K
  pub staged : changes ≡ staged_after ran.act told w.staged
  pub room : kept' + puts_in w.staged ≡ kept + puts_in changes
  pub said : IsSaid shards s K ran told r.came
  pub bare : is_quick_came r.came ≡ true → changes ≡ w.staged

-- the call with a hop armed so
abbrev pub armed_as : Wait → ℕ → Act → Option Call → Wait
armed_as w hop act call = record w { armed = Some record { hop = hop; act = act; call = call } }
