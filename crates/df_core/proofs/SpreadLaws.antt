-- The steps of a command with keys do, on all shards together, what the command means.
use Rattle.std.proofs.Common.{◌≡◌, ◌≢◌, ℕ, ◌<◌, Bool, true, false, List, [], ◌∷◌, inl, inr, refl, sym, ap, ◌∙◌, subst, arith}
use Rattle.std.specs.Prelude.{Some, ◌==◌, ◌&&◌, map}
use Rattle.std.proofs.lemmas.Bool.{false≢true, eq-eqb, false_from_ne_true}
use Rattle.std.proofs.lemmas.Bool.Decides.{eqb_tells}
use Rattle.std.proofs.Math.Bool.{and-true}
use Rattle.df_model.specs.Values.{Bytes}
use Rattle.df_model.specs.Words.{same}
use Rattle.df_model.specs.Hash.{shard_of}
use Rattle.df_model.specs.Keyspace.{Keyspace, held, no_keys}
use Rattle.df_model.specs.Access.{Access, names, among, does}
use Rattle.df_model.specs.Outcomes.{ok}
use Rattle.df_model.specs.Meaning.{meaning, one}
use Rattle.df_model.specs.Calls.{Does}
use Rattle.df_model.specs.declared.command.Command.{Command}
use Rattle.df_model.specs.declared.reply.Reply.{Reply}
use Rattle.df_model.proofs.LocalityLaws.{same_reply, same_left, others}
use Rattle.df_footprints.specs.Footprints.{access_of, named}
use Rattle.df_footprints.proofs.ModesLaws.{keys_of_one, means}
use Rattle.df_log.specs.Acts.{Run, Read, Ran, Values, NoMemory}
use Rattle.df_log.specs.Changes.{change_of}
use Rattle.df_log.specs.Parts.{Part, after_act}
use Rattle.df_core.specs.Altered.{altered}
use Rattle.df_core.specs.Courses.{Alone, Spread, Cuts, course_of, keys_on, changes_on}
use Rattle.df_core.specs.Steps.{Step, after_steps, AllTold}
use Rattle.df_core.specs.Done.{Shows, Stops, Undoes, Done, first_step, stage_step, read_step, want_of_memory}
use Rattle.df_core.specs.Done as done
use Rattle.df_core.specs.Joined.{joined}
use Rattle.df_core.proofs.JoinedLaws.{held_joined, joined_is, joined_stays}
use Rattle.df_core.proofs.CourseLaws.{OnOne, OfAll, flush_means, below_shards, spread_access, alone_either, runs_does, unwritten, nowhere_means}
use Rattle.df_core.proofs.AlteredLaws.{changed_to, held_changed, altered_named, altered_unnamed}
use Rattle.df_core.proofs.HopLaws.{one_shard}
use Rattle.df_core.proofs.KeysLaws.{alike_map}
use Rattle.df_core.proofs.StepLaws.{told_reply, told_values, read_stays, stage_stays, apply_shows}
use Rattle.df_core.proofs.WholeLaws.{names_does, counts_does, names_wanted_does, counts_wanted_does, cuts_does, cleared_does, kept_all_does}

-- ---- a command that ran on one shard

module _ (shards s n : ℕ) (command : Command) (xs ys : ℕ → Part) (pos : 0 < shards) (here : (ys s).visible ≡ (meaning command (xs s).visible).1)
    (there : (t : ℕ) → t ≢ s → (ys t).visible ≡ (xs t).visible) where
  module _ (a : Access) (one : OnOne shards s command a) where
    seen_here : (key : Bytes) → shard_of key shards ≡ s → held (joined shards xs) key ≡ held (xs s).visible key
    seen_here key e = held_joined shards xs key pos ∙ ap (λ t. held (xs t).visible key) e

    agree_here : (key : Bytes) → among (names a) key ≡ true → held (joined shards xs) key ≡ held (xs s).visible key
    agree_here key h = seen_here key (one.on key h)

    at_here : (key : Bytes) (b : Bool) → among (names a) key ≡ b → shard_of key shards ≡ s →
        held (does a (xs s).visible).1 key ≡ held (does a (joined shards xs)).1 key
    at_here key true h e = sym (same_left a (joined shards xs) (xs s).visible agree_here key h)
    at_here key false h e =
        others a (xs s).visible key (unwritten a key h) ∙ sym (seen_here key e) ∙ sym (others a (joined shards xs) key (unwritten a key h))

    left_at : (key : Bytes) → held (ys (shard_of key shards)).visible key ≡ held (does a (joined shards xs)).1 key
    left_at key = elim (eqb_tells (shard_of key shards) s) [
      | inl e ↦ ap (λ t. held (ys t).visible key) e.1
          ∙ ap (λ V. held V key) here
          ∙ ap (λ m. held m.1 key) (means command a (xs s).visible one.is)
          ∙ at_here key (among (names a) key) refl e.1
      | inr e ↦ ap (λ V. held V key) (there (shard_of key shards) e.1)
          ∙ sym (held_joined shards xs key pos)
          ∙ sym (others a (joined shards xs) key (unwritten a key (false_from_ne_true (among (names a) key) (λ h. e.1 (one.on key h)))))
    ]

    one_means : meaning command (joined shards xs) ≡ ((meaning command (xs s).visible).0, joined shards ys)
    one_means =
        means command a (joined shards xs) one.is
        ∙ (λ i. (same_reply a (joined shards xs) (xs s).visible agree_here i, sym (joined_is shards ys (does a (joined shards xs)).1 pos left_at) i))
        ∙ ap (λ m. (m.0, joined shards ys)) (sym (means command a (xs s).visible one.is))

  all_means : OfAll shards s command → meaning command (joined shards xs) ≡ ((meaning command (xs s).visible).0, joined shards ys)
  all_means all = flush_means command all.flush (joined shards xs) ∙ (λ i. (reply i, space i))
    where
      reply : ok ≡ (meaning command (xs s).visible).0
      reply = sym (ap (λ m. m.0) (flush_means command all.flush (xs s).visible))

      zero_there : (key : Bytes) → shard_of key shards ≡ s
      zero_there key = let below = below_shards key shards pos in omega (arith, below, all.only, all.first)

      space : no_keys ≡ joined shards ys
      space =
          sym (joined_is shards ys no_keys pos
          (λ key. ap (λ t. held (ys t).visible key) (zero_there key)
          ∙ ap (λ V. held V key) (here ∙ ap (λ m. m.1) (flush_means command all.flush (xs s).visible))))

  alone_means : course_of shards command ≡ Alone s →
      meaning command (joined shards xs) ≡ ((meaning command (xs s).visible).0, joined shards ys)
  alone_means e = elim (alone_either shards s command e) [ inl one ↦ one_means one.0 one.1 | inr all ↦ all_means all ]

-- ---- a command with keys on several shards

module _ (shards i n : ℕ) (command : Command) (K : Keyspace) where
  -- the keys of the command hold what was read
  values_seen : (s : ℕ) (steps : List Step) (x : Part) → Shows shards i s command K steps → AllTold shards s n steps x →
      (key : Bytes) → among (keys_on shards s command) key ≡ true → held K key ≡ held x.visible key
  values_seen s steps x (done.unnamed none) told key named = absurd (false≢true (ap (λ l. among l key) (sym none) ∙ named))
  values_seen s steps x (done.looked some same) told key named =
      alike_map (held K) (held x.visible) (keys_on shards s command)
      (told_values shards s x.visible (keys_on shards s command) (map (held K) (keys_on shards s command)) told.0) key named
  values_seen s steps x (done.applied some) told key named =
      alike_map (held K) (held x.visible) (keys_on shards s command)
      (told_values shards s x.visible (keys_on shards s command) (map (held K) (keys_on shards s command)) told.0) key named

  -- and what is seen then is what was seen, with the changes
  seen_after : (s : ℕ) (steps : List Step) (x : Part) → Shows shards i s command K steps → (key : Bytes) →
      held (after_steps n steps x).visible key ≡ changed_to (change_of (changes_on shards s command K) key) (held x.visible key)
  seen_after s steps x (done.unnamed none) key =
      sym (ap (λ l. changed_to (change_of (altered K (meaning command K).1 l) key) (held x.visible key)) none)
  seen_after s steps x (done.looked some same) key = sym (ap (λ c. changed_to (change_of c key) (held x.visible key)) same)
  seen_after s steps x (done.applied some) key =
      ap (λ V. held V key) (apply_shows n
      (after_act n (Read (keys_on shards s command)) (Values (map (held K) (keys_on shards s command))) x) (changes_on shards s command K))
      ∙ held_changed (changes_on shards s command K) x.visible key

  shows_stays : (s : ℕ) (steps : List Step) (x : Part) → Shows shards i s command K steps →
      changes_on shards s command K ≡ [] → (after_steps n steps x).visible ≡ x.visible
  shows_stays s steps x (done.unnamed none) e = refl
  shows_stays s steps x (done.looked some same) e = refl
  shows_stays s steps x (done.applied some) e = absurd (some e)

  module _ (a : Access) (is : access_of command ≡ Some a) (own : ℕ → List Step) (parts : ℕ → Part) (pos : 0 < shards)
      (shows : (s : ℕ) → Shows shards i s command K (own s)) (told : (s : ℕ) → AllTold shards s n (own s) (parts s)) where
    abbrev ends : ℕ → Part
    ends s = after_steps n (own s) (parts s)

    on_own : (key : Bytes) (b : Bool) → among (names a) key ≡ b → among (keys_on shards (shard_of key shards) command) key ≡ b
    on_own key b h =
        keys_of_one shards (shard_of key shards) command a key is
        ∙ ap (λ c. c && (shard_of key shards == shard_of key shards)) h
        ∙ ap (λ c. b && c) (eq-eqb (shard_of key shards) (shard_of key shards) refl)
        ∙ and-true b

    seen_of : (key : Bytes) → among (names a) key ≡ true → held K key ≡ held (parts (shard_of key shards)).visible key
    seen_of key h =
        values_seen (shard_of key shards) (own (shard_of key shards)) (parts (shard_of key shards))
        (shows (shard_of key shards)) (told (shard_of key shards)) key (on_own key true h)

    agree_on : (key : Bytes) → among (names a) key ≡ true → held K key ≡ held (joined shards parts) key
    agree_on key h = seen_of key h ∙ sym (held_joined shards parts key pos)

    left_on : (key : Bytes) (b : Bool) → among (names a) key ≡ b →
        held (ends (shard_of key shards)).visible key ≡ held (does a (joined shards parts)).1 key
    left_on key true h =
        seen_after (shard_of key shards) (own (shard_of key shards)) (parts (shard_of key shards)) (shows (shard_of key shards)) key
        ∙ altered_named K (meaning command K).1 (keys_on shards (shard_of key shards) command) key
        (held (parts (shard_of key shards)).visible key) (on_own key true h) (sym (seen_of key h))
        ∙ ap (λ m. held m.1 key) (means command a K is)
        ∙ same_left a K (joined shards parts) agree_on key h
    left_on key false h =
        seen_after (shard_of key shards) (own (shard_of key shards)) (parts (shard_of key shards)) (shows (shard_of key shards)) key
        ∙ ap (λ c. changed_to c (held (parts (shard_of key shards)).visible key))
        (altered_unnamed K (meaning command K).1 (keys_on shards (shard_of key shards) command) key (on_own key false h))
        ∙ sym (held_joined shards parts key pos)
        ∙ sym (others a (joined shards parts) key (unwritten a key h))

    spread_means : meaning command (joined shards parts) ≡ ((meaning command K).0, joined shards (λ s. after_steps n (own s) (parts s)))
    spread_means =
        means command a (joined shards parts) is
        ∙ (λ j. (
          sym (same_reply a K (joined shards parts) agree_on) j,
          sym
              (joined_is shards ends (does a (joined shards parts)).1 pos (λ key. left_on key (among (names a) key) refl)) j,
        ))
        ∙ ap (λ m. (m.0, joined shards ends)) (sym (means command a K is))

-- ---- steps that show nothing

module _ (shards i n : ℕ) (command : Command) where
  stops_stays : (s : ℕ) (steps : List Step) (x : Part) → Stops shards i s command steps →
      (after_steps n steps x).visible ≡ x.visible
  stops_stays s steps x (done.unnamed none) = refl
  stops_stays s steps x (done.read some told) = read_stays n x (keys_on shards s command) told

  undoes_stays : (K : Keyspace) (s : ℕ) (steps : List Step) (x : Part) → Undoes shards i s command K steps →
      (after_steps n steps x).visible ≡ x.visible
  undoes_stays K s steps x (done.unnamed none) = refl
  undoes_stays K s steps x (done.looked some same) = refl
  undoes_stays K s steps x (done.undone some told) =
      stage_stays n (after_act n (Read (keys_on shards s command)) (Values (map (held K) (keys_on shards s command))) x)
      (changes_on shards s command K) told

-- ---- the law for one command

module _ (shards i n : ℕ) (command : Command) (own : ℕ → List Step) (parts : ℕ → Part) (pos : 0 < shards) where
  -- what the shards hold behind the steps
  abbrev behind : ℕ → Part
  behind s = after_steps n (own s) (parts s)

  -- where nothing is shown, the command was answered want of memory
  wants : course_of shards command ≢ Cuts → ((s : ℕ) → (behind s).visible ≡ (parts s).visible) →
      Does command false (joined shards parts) want_of_memory (joined shards behind)
  wants ne stays =
      runs_does shards command false (joined shards parts) want_of_memory (joined shards behind) ne (joined_stays shards parts behind stays, inl refl)

  -- or means to change nothing
  leaves : (reply : Reply) → course_of shards command ≢ Cuts → ((s : ℕ) → (behind s).visible ≡ (parts s).visible) →
      meaning command (joined shards parts) ≡ (reply, joined shards behind) →
      Does command false (joined shards parts) reply (joined shards behind)
  leaves reply ne stays meant =
      let same = joined_stays shards parts behind stays in
      runs_does shards command false (joined shards parts) reply (joined shards behind) ne (same, inr (meant ∙ ap (λ K. (reply, K)) same))

  -- one hop on shard s
  elsewhere : (s : ℕ) → ((t : ℕ) → t ≢ s → own t ≡ []) → (t : ℕ) → t ≢ s → (behind t).visible ≡ (parts t).visible
  elsewhere s there t ne = ap (λ steps. (after_steps n steps (parts t)).visible) (there t ne)

  ran_does : (s : ℕ) (reply : Reply) → course_of shards command ≡ Alone s →
      own s ≡ first_step i (Run command) (Ran reply) ∷ [] → ((t : ℕ) → t ≢ s → own t ≡ []) →
      ((s : ℕ) → AllTold shards s n (own s) (parts s)) →
      Does command true (joined shards parts) reply (joined shards behind)
  ran_does s reply e is there told =
      runs_does shards command true (joined shards parts) reply (joined shards behind) (λ c. cc) (
      alone_means shards s n command parts behind pos (ap (λ steps. (after_steps n steps (parts s)).visible) is) (elsewhere s there) e
      ∙ ap (λ r. (r, joined shards behind))
      (sym (told_reply shards s (parts s).visible command reply (subst (λ steps. AllTold shards s n steps (parts s)) is (told s)).0)))

  run_stays : (s : ℕ) → own s ≡ first_step i (Run command) NoMemory ∷ [] → ((t : ℕ) → t ≢ s → own t ≡ []) → (t : ℕ) →
      (behind t).visible ≡ (parts t).visible
  run_stays s is there t = one_shard (λ steps. (after_steps n steps (parts t)).visible ≡ (parts t).visible) own s _ is there refl refl t

  spread_does : (K : Keyspace) → course_of shards command ≡ Spread → ((s : ℕ) → Shows shards i s command K (own s)) →
      ((s : ℕ) → AllTold shards s n (own s) (parts s)) →
      meaning command (joined shards parts) ≡ ((meaning command K).0, joined shards behind)
  spread_does K e shows told = let a = spread_access shards command e in spread_means shards i n command K a.0 a.1 own parts pos shows told

  not_cuts : course_of shards command ≡ Spread → course_of shards command ≢ Cuts
  not_cuts e c = cc

  done_here : (kept : Bool) (reply : Reply) → Done shards i command own kept reply →
      ((s : ℕ) → AllTold shards s n (own s) (parts s)) →
      Does command kept (joined shards parts) reply (joined shards behind)
  done_here kept reply (done.nowhere e none) told =
      let stays : (s : ℕ) → (behind s).visible ≡ (parts s).visible = λ s. ap (λ steps. (after_steps n steps (parts s)).visible) (none s) in
      leaves (meaning command no_keys).0 (λ c. cc) stays
      (nowhere_means shards command e (joined shards parts)
      ∙ ap (λ K. ((meaning command no_keys).0, K)) (sym (joined_stays shards parts behind stays)))
  done_here kept reply (done.nowhere_wanted e none) told = wants (λ c. cc) (λ s. ap (λ steps. (after_steps n steps (parts s)).visible) (none s))
  done_here kept reply (done.ran s r e is there) told = ran_does s r e is there told
  done_here kept reply (done.run_wanted s e is there) told = wants (λ c. cc) (run_stays s is there)
  done_here kept reply (done.changed K e shows some) told =
      runs_does shards command true (joined shards parts) (meaning command K).0 (joined shards behind) (not_cuts e) (spread_does K e shows told)
  done_here kept reply (done.looked K e shows none) told =
      leaves (meaning command K).0 (not_cuts e)
      (λ s. shows_stays shards i n command K s (own s) (parts s) (shows s) (none s)) (spread_does K e shows told)
  done_here kept reply (done.stopped e stops) told = wants (not_cuts e) (λ s. stops_stays shards i n command s (own s) (parts s) (stops s))
  done_here kept reply (done.undone K e undoes some) told = wants (not_cuts e) (λ s. undoes_stays shards i n command K s (own s) (parts s) (undoes s))
  done_here kept reply (done.names pattern names is each) told = names_does shards i n command own parts told pattern names is each
  done_here kept reply (done.counts numbers is each) told = counts_does shards i n command own parts told numbers is each
  done_here kept reply (done.names_wanted pattern answers is each) told = names_wanted_does shards i n command own parts pattern answers is each
  done_here kept reply (done.counts_wanted answers is each some) told = counts_wanted_does shards i n command own parts answers is each
  done_here kept reply (done.cuts pairs r is each may) told = cuts_does shards i n command own parts pairs r is each may
  done_here kept reply (done.cleared is each) told = cleared_does shards i n command own parts pos is each
  done_here kept reply (done.kept_all answers is each some) told = kept_all_does shards i n command own parts answers is each

-- the steps of a command, each told what it gives, do what the command does on the keyspace of all shards
pub done_does : (shards i n : ℕ) (command : Command) (own : ℕ → List Step) (kept : Bool) (reply : Reply) (parts : ℕ → Part) →
    0 < shards → Done shards i command own kept reply → ((s : ℕ) → AllTold shards s n (own s) (parts s)) →
    Does command kept (joined shards parts) reply (joined shards (λ s. after_steps n (own s) (parts s)))
done_does shards i n command own kept reply parts pos d told = done_here shards i n command own parts pos kept reply d told
