-- KEYS, DBSIZE, SAVE and FLUSHALL on several shards do what one thread does.
use Rattle.std.proofs.Common.{◌≡◌, ℕ, ◌<◌, Bool, true, false, List, [], ◌∷◌, inl, inr, refl, sym, ap, subst, ◌∙◌}
use Rattle.std.specs.List.{filter}
use Rattle.df_model.specs.Values.{Bytes}
use Rattle.df_model.specs.Members as members
use Rattle.df_model.specs.Keyspace.{Keyspace, held, no_keys}
use Rattle.df_model.specs.Hash.{shard_of}
use Rattle.df_model.specs.Patterns.{is_match}
use Rattle.df_model.specs.Outcomes.{ok, count, bulks}
use Rattle.df_model.specs.Calls.{Does}
use Rattle.df_model.specs.declared.command.WholeOp.TheVariants as wholes
use Rattle.df_model.specs.declared.command.Command.{Command}
use Rattle.df_model.specs.declared.command.Command.TheVariants.{Whole}
use Rattle.df_model.specs.declared.reply.Reply.{Reply}
use Rattle.df_log.specs.Acts.{Act, Stage, Begin, Walk, Count, Clear, Told, Staged, Number, Cut}
use Rattle.df_log.specs.Acts as acts
use Rattle.df_log.specs.Parts.{Part, did}
use Rattle.df_core.specs.Courses.{Clears, course_of}
use Rattle.df_core.specs.Steps.{Step, after_steps, AllTold}
use Rattle.df_core.specs.Joined.{joined}
use Rattle.df_core.specs.Done.{OnEach, IsSaveReply, names_of, sum_of, want_of_memory, first_step, stage_step, apply_step, unstage_step}
use Rattle.df_core.proofs.CourseLaws.{below_shards, Flushes, flushes}
use Rattle.df_core.proofs.StepLaws.{told_names, told_number, either_way}
use Rattle.df_core.proofs.JoinedLaws.{joined_is, same_joined}
use Rattle.df_core.proofs.NamesLaws.{names_joined}
use Rattle.df_core.proofs.SumsLaws.{sum_joined}

-- ---- what the shards show together

-- where every shard shows nothing, they show nothing together
none_joined : (shards : ℕ) (parts : ℕ → Part) → 0 < shards → ((s : ℕ) → s < shards → (parts s).visible ≡ no_keys) →
    joined shards parts ≡ no_keys
none_joined shards parts pos none =
    joined_is shards parts no_keys pos (λ key. ap (λ K. held K key) (none (shard_of key shards) (below_shards key shards pos)))

-- ---- FLUSHALL and FLUSHDB

-- kept, it leaves nothing; else all stays
flush_kept : (command : Command) (K : Keyspace) → Flushes command → Does command true K ok no_keys
flush_kept command K Flushes.flushall = refl
flush_kept command K Flushes.flushdb = refl

flush_wanted : (command : Command) (K : Keyspace) → Flushes command → Does command false K want_of_memory K
flush_wanted command K Flushes.flushall = (refl, inl refl)
flush_wanted command K Flushes.flushdb = (refl, inl refl)

-- ---- the law, for each way to be done

module _ (shards i n : ℕ) (command : Command) (own : ℕ → List Step) (parts : ℕ → Part) where
  -- a command and a keyspace before, a reply, and what the shards show together behind the steps
  abbrev Ends : Bool → Reply → Type 0
  Ends kept reply = Does command kept (joined shards parts) reply (joined shards (λ s. after_steps n (own s) (parts s)))

  module _ (these : ℕ → List Step) (each : OnEach shards own these) where
    shows : (s : ℕ) → s < shards → (after_steps n (own s) (parts s)).visible ≡ (after_steps n (these s) (parts s)).visible
    shows s lt = ap (λ steps. (after_steps n steps (parts s)).visible) (each.within s lt)

    stays : ((s : ℕ) → (after_steps n (these s) (parts s)).visible ≡ (parts s).visible) →
        joined shards (λ s. after_steps n (own s) (parts s)) ≡ joined shards parts
    stays same = same_joined shards shards (λ s. after_steps n (own s) (parts s)) parts (λ s lt. shows s lt ∙ same s)

    told_each : ((s : ℕ) → AllTold shards s n (own s) (parts s)) → (s : ℕ) → s < shards → AllTold shards s n (these s) (parts s)
    told_each told s lt = subst (λ steps. AllTold shards s n steps (parts s)) (each.within s lt) (told s)

  -- what the shards told together is what one thread is told
  pub names_does : ((s : ℕ) → AllTold shards s n (own s) (parts s)) → (pattern : Bytes) (names : ℕ → List Bytes) →
      command ≡ Whole (wholes.Keys pattern) → OnEach shards own (λ s. first_step i Walk (acts.Names (names s)) ∷ []) →
      Ends false (bulks (filter (is_match pattern) (members.items (names_of names shards))))
  names_does told pattern names is each = rw is (
    stays _ each (λ s. refl),
    inr (ap (λ items. (bulks (filter (is_match pattern) items), joined shards parts))
        (sym (names_joined shards parts names shards (λ s lt. told_names shards s (parts s).visible (names s) (told_each _ each told s lt).0)))),
  )

  pub counts_does : ((s : ℕ) → AllTold shards s n (own s) (parts s)) → (numbers : ℕ → ℕ) →
      command ≡ Whole wholes.Dbsize → OnEach shards own (λ s. first_step i Count (Number (numbers s)) ∷ []) →
      Ends false (count (sum_of numbers shards))
  counts_does told numbers is each = rw is (
    stays _ each (λ s. refl),
    inr (ap (λ k. (count k, joined shards parts))
        (sym (sum_joined shards parts numbers shards (λ s lt. told_number shards s (parts s).visible (numbers s) (told_each _ each told s lt).0)))),
  )

  pub names_wanted_does : (pattern : Bytes) (answers : ℕ → Told) → command ≡ Whole (wholes.Keys pattern) →
      OnEach shards own (λ s. first_step i Walk (answers s) ∷ []) → Ends false want_of_memory
  names_wanted_does pattern answers is each = rw is (stays _ each (λ s. either_way (did (answers s)) (parts s).visible), inl refl)

  pub counts_wanted_does : (answers : ℕ → Told) → command ≡ Whole wholes.Dbsize →
      OnEach shards own (λ s. first_step i Count (answers s) ∷ []) → Ends false want_of_memory
  counts_wanted_does answers is each = rw is (stays _ each (λ s. either_way (did (answers s)) (parts s).visible), inl refl)

  pub cuts_does : (pairs : ℕ → Keyspace) (reply : Reply) → command ≡ Whole wholes.Save →
      OnEach shards own (λ s. first_step i Begin (Cut (pairs s)) ∷ []) → IsSaveReply reply → Ends false reply
  cuts_does pairs reply is each may = rw is (stays _ each (λ s. refl), may)

  pub cleared_does : 0 < shards → course_of shards command ≡ Clears →
      OnEach shards own (λ s. stage_step i (Stage []) Staged ∷ apply_step i Clear ∷ []) → Ends true ok
  cleared_does pos is each =
      subst (Does command true (joined shards parts) ok) (sym (none_joined shards (λ s. after_steps n (own s) (parts s)) pos (shows _ each)))
      (flush_kept command (joined shards parts) (flushes shards command is))

  pub kept_all_does : (answers : ℕ → Told) → course_of shards command ≡ Clears →
      OnEach shards own (λ s. stage_step i (Stage []) (answers s) ∷ unstage_step i ∷ []) → Ends false want_of_memory
  kept_all_does answers is each =
      subst (Does command false (joined shards parts) want_of_memory) (sym (stays _ each (λ s. either_way (did (answers s)) (parts s).visible)))
      (flush_wanted command (joined shards parts) (flushes shards command is))
