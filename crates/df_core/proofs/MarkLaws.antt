-- Which commands of a call were kept can be read off its steps.
use Rattle.std.proofs.Common.{◌≡◌, ◌≢◌, ℕ, suc, ◌+◌, ◌*◌, ◌<◌, ◌≤◌, Bool, true, false, List, [], ◌∷◌, ◌++◌, refl, sym, ap, ◌∙◌, arith}
use Rattle.std.specs.Prelude.{◌==◌, ◌&&◌, ◌||◌, map}
use Rattle.std.proofs.lemmas.Bool.{eq-eqb, ne_eqb, and_left, or_from, or_left, or_right}
use Rattle.std.proofs.Math.Bool.{or-false, or_assoc}
use Rattle.df_model.specs.Keyspace.{Keyspace, held}
use Rattle.df_model.specs.Meaning.{meaning}
use Rattle.df_model.specs.declared.command.Command.{Command}
use Rattle.df_model.specs.declared.reply.Reply.{Reply}
use Rattle.df_log.specs.Acts.{Act, Run, Read, Stage, Apply, Begin, Walk, Count, Clear, Told, Ran, Values, Number, Cut, NoMemory}
use Rattle.df_log.specs.Acts as acts
use Rattle.df_log.specs.Parts.{did}
use Rattle.df_core.specs.Altered.{altered}
use Rattle.df_core.specs.Courses.{keys_on, changes_on}
use Rattle.df_core.specs.Steps.{Step}
use Rattle.df_core.specs.Due.{some}
use Rattle.df_core.specs.Done.{Shows, Stops, Undoes, OnEach, Done, DoneAll, first_step, stage_step, apply_step, unstage_step, is_run, keeps, keeps_in, marks_from}
use Rattle.df_core.specs.Done as done
use Rattle.df_core.proofs.CourseLaws.{alone_within}
use Rattle.df_core.proofs.HopLaws.{none_passes, one_passes, each_shard, one_shard, Of, From, done_of, all_from}

-- ---- one step

-- a step at another hop keeps nothing of the command
keeps_not : (i : ℕ) (x : Step) → x.hop ≢ 4 * i → x.hop ≢ 4 * i + 2 → keeps i x ≡ false
keeps_not i x a b = or_from _ _ (and_left _ _ (ne_eqb x.hop (4 * i) a)) (ne_eqb x.hop (4 * i + 2) b)

keeps_first : (i : ℕ) (act : Act) (told : Told) (b : Bool) → (is_run act && did told) ≡ b → keeps i (first_step i act told) ≡ b
keeps_first i act told b e =
    ap (λ c. (c && (is_run act && did told)) || (4 * i == 4 * i + 2)) (eq-eqb (4 * i) (4 * i) refl)
    ∙ ap (λ c. (is_run act && did told) || c) (ne_eqb (4 * i) (4 * i + 2) (λ h. omega (arith, h)))
    ∙ or-false (is_run act && did told)
    ∙ e

keeps_stage : (i : ℕ) (act : Act) (told : Told) → keeps i (stage_step i act told) ≡ false
keeps_stage i act told = keeps_not i (stage_step i act told) (λ h. omega (arith, h)) (λ h. omega (arith, h))

keeps_apply : (i : ℕ) (act : Act) → keeps i (apply_step i act) ≡ true
keeps_apply i act = or_right _ _ (eq-eqb (4 * i + 2) (4 * i + 2) refl)

keeps_unstage : (i : ℕ) → keeps i (unstage_step i) ≡ false
keeps_unstage i = keeps_not i (unstage_step i) (λ h. omega (arith, h)) (λ h. omega (arith, h))

-- ---- which steps keep a command

keeps_append : (i : ℕ) (own rest : List Step) → keeps_in i (own ++ rest) ≡ (keeps_in i own || keeps_in i rest)
keeps_append i [] rest = refl
keeps_append i (x ∷ own) rest = ap (λ b. keeps i x || b) (keeps_append i own rest) ∙ sym (or_assoc (keeps i x) (keeps_in i own) (keeps_in i rest))

-- steps of another command keep nothing of it
of_keeps : (i j : ℕ) (steps : List Step) → i ≢ j → Of i steps → keeps_in j steps ≡ false
of_keeps i j [] ne of = refl
of_keeps i j (x ∷ steps) ne of =
    or_from _ _ (keeps_not j x (λ h. ne (omega (arith, h, of.0))) (λ h. ne (omega (arith, h, of.0)))) (of_keeps i j steps ne of.1)

-- nor do those of commands behind it
from_keeps : (i j : ℕ) (steps : List Step) → j < i → From i steps → keeps_in j steps ≡ false
from_keeps i j [] lt from = refl
from_keeps i j (x ∷ steps) lt from =
    or_from _ _ (keeps_not j x (λ h. omega (arith, h, from.0)) (λ h. omega (arith, h, from.0))) (from_keeps i j steps lt from.1)

-- ---- the mark of one command

module _ (shards i : ℕ) (command : Command) where
  shows_kept : (K : Keyspace) (s : ℕ) (steps : List Step) → Shows shards i s command K steps →
      changes_on shards s command K ≢ [] → keeps_in i steps ≡ true
  shows_kept K s steps (done.unnamed none) ne = absurd (ne (ap (altered K (meaning command K).1) none))
  shows_kept K s steps (done.looked some same) ne = absurd (ne same)
  shows_kept K s steps (done.applied some) ne = or_right _ _ (or_right _ _ (or_left _ _ (keeps_apply i Apply)))

  -- reads keep nothing
  keeps_read : (s : ℕ) (told : Told) (steps : List Step) → keeps_in i steps ≡ false →
      keeps_in i (first_step i (Read (keys_on shards s command)) told ∷ steps) ≡ false
  keeps_read s told steps more = or_from _ _ (keeps_first i (Read (keys_on shards s command)) told false refl) more

  abbrev values : ℕ → Keyspace → Told
  values s K = Values (map (held K) (keys_on shards s command))

  shows_none : (K : Keyspace) (s : ℕ) (steps : List Step) → Shows shards i s command K steps →
      changes_on shards s command K ≡ [] → keeps_in i steps ≡ false
  shows_none K s steps (done.unnamed none) e = refl
  shows_none K s steps (done.looked some same) e = keeps_read s (values s K) [] refl
  shows_none K s steps (done.applied some) e = absurd (some e)

  stops_none : (s : ℕ) (steps : List Step) → Stops shards i s command steps → keeps_in i steps ≡ false
  stops_none s steps (done.unnamed none) = refl
  stops_none s steps (done.read some told) = keeps_read s told [] refl

  undoes_none : (K : Keyspace) (s : ℕ) (steps : List Step) → Undoes shards i s command K steps → keeps_in i steps ≡ false
  undoes_none K s steps (done.unnamed none) = refl
  undoes_none K s steps (done.looked some same) = keeps_read s (values s K) [] refl
  undoes_none K s steps (done.undone some told) =
      keeps_read s (values s K) (stage_step i (Stage (changes_on shards s command K)) told ∷ unstage_step i ∷ [])
      (or_from _ _ (keeps_stage i (Stage (changes_on shards s command K)) told) (or_from _ _ (keeps_unstage i) refl))

  first_none : (own : ℕ → List Step) (act : Act) (told : ℕ → Told) → is_run act ≡ false →
      OnEach shards own (λ s. first_step i act (told s) ∷ []) → some (λ s. keeps_in i (own s)) shards ≡ false
  first_none own act told not each =
      none_passes (λ s. keeps_in i (own s)) shards (each_shard (λ steps. keeps_in i steps ≡ false) shards own _ each refl
      (λ s. or_from _ _ (keeps_first i act (told s) false (and_left (is_run act) (did (told s)) not)) refl))

  -- one shard keeps it, where it was kept
  kept_told : (own : ℕ → List Step) (kept : Bool) (reply : Reply) → 0 < shards →
      Done shards i command own kept reply → some (λ s. keeps_in i (own s)) shards ≡ kept
  kept_told own kept reply pos (done.nowhere e none) = none_passes _ shards (λ s. ap (keeps_in i) (none s))
  kept_told own kept reply pos (done.nowhere_wanted e none) = none_passes _ shards (λ s. ap (keeps_in i) (none s))
  kept_told own kept reply pos (done.ran s r e is there) =
      one_passes _ shards s (alone_within shards s command pos e) (ap (keeps_in i) is ∙ or_left _ _ (keeps_first i (Run command) (Ran r) true refl))
  kept_told own kept reply pos (done.run_wanted s e is there) =
      none_passes _ shards (one_shard (λ steps. keeps_in i steps ≡ false) own s _ is there refl
      (or_from _ _ (keeps_first i (Run command) NoMemory false refl) refl))
  kept_told own kept reply pos (done.changed K e shows some) =
      one_passes _ shards some.0 some.1 (shows_kept K some.0 (own some.0) (shows some.0) some.2)
  kept_told own kept reply pos (done.looked K e shows none) = none_passes _ shards (λ s. shows_none K s (own s) (shows s) (none s))
  kept_told own kept reply pos (done.stopped e stops) = none_passes _ shards (λ s. stops_none s (own s) (stops s))
  kept_told own kept reply pos (done.undone K e undoes some) = none_passes _ shards (λ s. undoes_none K s (own s) (undoes s))
  kept_told own kept reply pos (done.names pattern names is each) = first_none own Walk (λ s. acts.Names (names s)) refl each
  kept_told own kept reply pos (done.counts numbers is each) = first_none own Count (λ s. Number (numbers s)) refl each
  kept_told own kept reply pos (done.names_wanted pattern answers is each) = first_none own Walk answers refl each
  kept_told own kept reply pos (done.counts_wanted answers is each some) = first_none own Count answers refl each
  kept_told own kept reply pos (done.cuts pairs r is each may) = first_none own Begin (λ s. Cut (pairs s)) refl each
  kept_told own kept reply pos (done.cleared is each) =
      one_passes _ shards 0 pos (ap (keeps_in i) (each.within 0 pos) ∙ or_right _ _ (or_left _ _ (keeps_apply i Clear)))
  kept_told own kept reply pos (done.kept_all answers is each some) =
      none_passes _ shards (each_shard (λ steps. keeps_in i steps ≡ false) shards own _ each refl
      (λ s. or_from _ _ (keeps_stage i (Stage []) (answers s)) (or_from _ _ (keeps_unstage i) refl)))

-- ---- the marks of a list of commands

marks_same : (shards i : ℕ) (commands : List Command) (steps rest : ℕ → List Step) →
    ((j : ℕ) → i ≤ j → (s : ℕ) → keeps_in j (steps s) ≡ keeps_in j (rest s)) →
    marks_from shards i commands steps ≡ marks_from shards i commands rest
marks_same shards i [] steps rest same = refl
marks_same shards i (command ∷ commands) steps rest same =
    let more = marks_same shards (suc i) commands steps rest (λ j le s. same j (omega (arith, le)) s) in
    λ k. some (λ s. same i (omega arith) s k) shards ∷ more k

-- the marks that the logs tell are those of the commands
pub marks_told : (shards i : ℕ) (commands : List Command) (steps : ℕ → List Step) (marks : List Bool) (replies : List Reply) →
    0 < shards → DoneAll shards i commands steps marks replies → marks_from shards i commands steps ≡ marks
marks_told shards i [] steps [] [] pos d = refl
marks_told shards i [] steps [] (reply ∷ replies) pos d = absurd d
marks_told shards i [] steps (kept ∷ marks) replies pos d = absurd d
marks_told shards i (command ∷ commands) steps [] replies pos d = absurd d
marks_told shards i (command ∷ commands) steps (kept ∷ marks) [] pos d = absurd d
marks_told shards i (command ∷ commands) steps (kept ∷ marks) (reply ∷ replies) pos d =
    λ k. (first k) ∷ ((marks_same shards (suc i) commands steps d.1 behind ∙ marks_told shards (suc i) commands d.1 marks replies pos d.4) k)
  where
    parts : (j s : ℕ) → keeps_in j (steps s) ≡ (keeps_in j (d.0 s) || keeps_in j (d.1 s))
    parts j s = ap (keeps_in j) (d.2 s) ∙ keeps_append j (d.0 s) (d.1 s)

    own_alone : (s : ℕ) → keeps_in i (steps s) ≡ keeps_in i (d.0 s)
    own_alone s = parts i s
        ∙ ap (λ b. keeps_in i (d.0 s) || b) (from_keeps (suc i) i (d.1 s) (omega arith) (all_from shards (suc i) commands d.1 marks replies d.4 s))
        ∙ or-false (keeps_in i (d.0 s))

    first : some (λ s. keeps_in i (steps s)) shards ≡ kept
    first = (λ k. some (λ s. own_alone s k) shards) ∙ kept_told shards i command d.0 kept reply pos d.3

    behind : (j : ℕ) → suc i ≤ j → (s : ℕ) → keeps_in j (steps s) ≡ keeps_in j (d.1 s)
    behind j le s =
        parts j s
        ∙ ap (λ b. b || keeps_in j (d.1 s)) (of_keeps i j (d.0 s) (λ e. omega (arith, le, e)) (done_of shards i command d.0 kept reply d.3 s))
