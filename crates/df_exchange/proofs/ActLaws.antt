-- What an act is answered by, and what it may be told.
use Rattle.std.proofs.Common.{◌≡◌, ℕ, true, false, refl}
use Rattle.std.proofs.lemmas.Bool.{true≢false}
use Rattle.std.specs.Coded.{codes}
use Rattle.df_model.specs.Values.{coded_value}
use Rattle.df_model.specs.Keyspace.{Keyspace, coded_keyspace}
use Rattle.df_model.specs.contracts.reply.Reply as reply
use Rattle.df_log.specs.Acts as acts
use Rattle.df_log.specs.Acts.{Act}
use Rattle.df_log.specs.Entries.{is_note}
use Rattle.df_log.specs.Parts.{IsTold}
use Rattle.df_hops.specs.Came.{given, given_as, may_want_as}
use Rattle.df_hops.specs.Parts.{act_of}
use Rattle.df_hops.specs.declared.message.Part.{Part}
use Rattle.df_hops.specs.declared.message.Part.TheVariants as part_names
use Rattle.df_hops.specs.declared.answer.Outcome.{Outcome}
use Rattle.df_hops.specs.declared.answer.Outcome.TheVariants as outcomes
use Rattle.df_post.specs.Fits.{part_kind}
use Rattle.df_exchange.specs.Asks.{kind_of_act}

pub kind-part : (part : Part) → kind_of_act (act_of part) ≡ part_kind part
kind-part (part_names.Run command) = refl
kind-part (part_names.Read keys) = refl
kind-part (part_names.Stage changes) = refl
kind-part part_names.Apply = refl
kind-part part_names.Unstage = refl
kind-part part_names.Begin = refl
kind-part part_names.Walk = refl
kind-part part_names.Count = refl
kind-part part_names.Clear = refl

pub act-set : (a b : Act) → IsProp (a ≡ b)
act-set a b = hlevel (codes, reply.the_row.coded, coded_value, coded_keyspace)

-- ---- what it may be told

module _ (shards s : ℕ) (K : Keyspace) where
  -- an act that is no note may be told what it gives
  given-told : (act : Act) → is_note act ≡ false → IsTold shards s K act (given shards s K act)
  given-told (acts.Run command) plain = IsTold.ran command
  given-told (acts.Read keys) plain = IsTold.read keys
  given-told (acts.Stage changes) plain = IsTold.staged changes
  given-told acts.Apply plain = IsTold.applied
  given-told acts.Unstage plain = IsTold.unstaged
  given-told acts.Begin plain = IsTold.began
  given-told acts.Walk plain = IsTold.walked
  given-told acts.Count plain = IsTold.counted
  given-told acts.Clear plain = IsTold.cleared
  given-told acts.Passed plain = absurd (true≢false plain)
  given-told acts.Pull plain = absurd (true≢false plain)
  given-told acts.Saved plain = absurd (true≢false plain)

  -- or that there was no memory, where it may find none
  pub given-as-told : (outcome : Outcome) (act : Act) → is_note act ≡ false → may_want_as outcome act ≡ true →
      IsTold shards s K act (given_as outcome shards s K act)
  given-as-told (outcomes.Ran pieces) act plain may = given-told act plain
  given-as-told (outcomes.Values values) act plain may = given-told act plain
  given-as-told outcomes.Staged act plain may = given-told act plain
  given-as-told outcomes.Applied act plain may = given-told act plain
  given-as-told (outcomes.Names names) act plain may = given-told act plain
  given-as-told (outcomes.Number n) act plain may = given-told act plain
  given-as-told outcomes.NoMemory act plain may = IsTold.wanted act may
