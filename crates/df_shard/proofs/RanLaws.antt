-- What a hop that ran was told, by what it is said to have come to.
use Rattle.std.proofs.Common.{◌≡◌, ℕ, Bool, true, false, refl, ap}
use Rattle.std.specs.Prelude.{Some, None, if◌then◌else◌}
use Rattle.df_model.specs.Values.{Bytes}
use Rattle.df_model.specs.Keyspace.{Keyspace}
use Rattle.df_model.specs.Meaning.{meaning}
use Rattle.df_model.specs.declared.command.Call.{Call}
use Rattle.df_log.specs.Acts as acts
use Rattle.df_log.specs.Acts.{Act, Told, Changes}
use Rattle.df_log.specs.Parts as parts
use Rattle.df_log.specs.Parts.{IsTold, did, shown_after, staged_after, may_want}
use Rattle.df_log.specs.Entries.{is_note}
use Rattle.df_log.specs.declared.entry.Entry.{Entry}
use Rattle.df_hops.specs.Shown.{bytes_of}
use Rattle.df_hops.specs.Came.{given, given_as, may_want_as}
use Rattle.df_hops.specs.declared.answer.Outcome.{Outcome}
use Rattle.df_hops.specs.declared.answer.Outcome.TheVariants as outcomes
use Rattle.df_shard.specs.Holds.{call_act, call_command}
use Rattle.df_shard.specs.Came.{RanTo, done}
use Rattle.df_shard.specs.Served.{IsLinkedAct}
use Rattle.df_shard.proofs.Bare.{not-both}

-- ---- a Quick

pub record QuickRan (shards s n hop : ℕ) (call : Call) (K K' : Keyspace) (bytes : Bytes) (e : Entry) (is_said : Bool) (staged : Changes) : Type 0 where
  pub told : Told
  pub entry : e ≡ done n hop call told
  pub is_told : IsTold shards s K (call_act call hop) told
  pub keys : K' ≡ shown_after (call_act call hop) told staged K
  pub changes : staged ≡ staged_after (call_act call hop) told staged
  pub said : (if is_said then Some (Some bytes) else Some None) ≡ bytes_of told
  pub given : is_said ≡ true → told ≡ given shards s K (call_act call hop)

pub quick-ran : (shards s n hop : ℕ) (call : Call) (K K' : Keyspace) (bytes : Bytes) (e : Entry) (is_said : Bool) (staged : Changes) →
    RanTo n hop call K K' bytes e is_said → QuickRan shards s n hop call K K' bytes e is_said staged
quick-ran shards s n hop call K K' bytes e true staged r = record {
  told = acts.Ran (meaning (call_command call hop) K).0;
  entry = r.0;
  is_told = parts.ran (call_command call hop);
  keys = r.1;
  changes = refl;
  said = ap (λ b. Some (Some b)) r.2;
  given = λ e. refl;
}
quick-ran shards s n hop call K K' bytes e false staged r = record {
  told = acts.NoMemory;
  entry = r.0;
  is_told = parts.wanted (call_act call hop) refl;
  keys = r.1;
  changes = refl;
  said = refl;
  given = λ e. absurd (not-both e refl);
}

-- ---- a part

pub linked-plain : (act : Act) → IsLinkedAct act → is_note act ≡ false
linked-plain (acts.Run command) l = refl
linked-plain (acts.Read keys) l = refl
linked-plain (acts.Stage changes) l = refl
linked-plain acts.Apply l = refl
linked-plain acts.Unstage l = refl
linked-plain acts.Begin l = refl
linked-plain acts.Walk l = refl
linked-plain acts.Count l = refl
linked-plain acts.Clear l = refl
linked-plain acts.Passed l = absurd l
linked-plain acts.Pull l = absurd l
linked-plain acts.Saved l = absurd l

given-told : (shards s : ℕ) (K : Keyspace) (act : Act) → is_note act ≡ false → IsTold shards s K act (given shards s K act)
given-told shards s K (acts.Run command) n = parts.ran command
given-told shards s K (acts.Read keys) n = parts.read keys
given-told shards s K (acts.Stage changes) n = parts.staged changes
given-told shards s K acts.Apply n = parts.applied
given-told shards s K acts.Unstage n = parts.unstaged
given-told shards s K acts.Begin n = parts.began
given-told shards s K acts.Walk n = parts.walked
given-told shards s K acts.Count n = parts.counted
given-told shards s K acts.Clear n = parts.cleared
given-told shards s K acts.Passed n = absurd (not-both refl n)
given-told shards s K acts.Pull n = absurd (not-both refl n)
given-told shards s K acts.Saved n = absurd (not-both refl n)

pub told-as : (shards s : ℕ) (K : Keyspace) (act : Act) (outcome : Outcome) → is_note act ≡ false → may_want_as outcome act ≡ true →
    IsTold shards s K act (given_as outcome shards s K act)
told-as shards s K act (outcomes.Ran pieces) n w = given-told shards s K act n
told-as shards s K act (outcomes.Values values) n w = given-told shards s K act n
told-as shards s K act outcomes.Staged n w = given-told shards s K act n
told-as shards s K act outcomes.Applied n w = given-told shards s K act n
told-as shards s K act (outcomes.Names names) n w = given-told shards s K act n
told-as shards s K act (outcomes.Number m) n w = given-told shards s K act n
told-as shards s K act outcomes.NoMemory n w = parts.wanted act w
