-- What was read is what the keys hold, so that a command that has done all its hops may end there.
use Rattle.std.proofs.Common.{◌≡◌, ◌⊎◌, inl, inr, ℕ, zero, suc, ◌<◌, ◌≤◌, Bool, true, false, cond, not, ◌&&◌, ◌||◌, nat_lt, length, map, List, [], ◌∷◌, refl, sym, ap, ◌∙◌, arith}
use Rattle.std.specs.Prelude.{Some, ◌==◌}
use Rattle.std.proofs.lemmas.Bool.{and_from, and_parts, or_left, or_right, eq-eqb, ne_eqb, eqb-true}
use Rattle.std.proofs.lemmas.Bool.Decides.{eqb_tells}
use Rattle.df_model.specs.Values.{Bytes}
use Rattle.df_model.specs.Keyspace.{Keyspace, held, with_held}
use Rattle.df_model.specs.Access.{Access, names, among, taken_over}
use Rattle.df_model.specs.Meaning.{meaning}
use Rattle.df_model.specs.Hash.{shard_of}
use Rattle.df_model.proofs.LocalityLaws.{held_taken_over, same_left}
use Rattle.df_model.specs.declared.command.Command.{Command}
use Rattle.df_model.specs.declared.reply.Reply.{Reply}
use Rattle.df_footprints.specs.Footprints.{access_of}
use Rattle.df_model.proofs.WholeLaws.{Alike}
use Rattle.df_footprints.proofs.ModesLaws.{keys_of_one, means}
use Rattle.df_core.specs.Altered.{altered}
use Rattle.df_core.specs.Courses.{Spread, Clears, course_of, keys_on, changes_on}
use Rattle.df_core.specs.Due.{every, is_nil, values_of, with_values, read_on, values_read, all_read, may_end_by}
use Rattle.df_core.specs.Steps.{Step}
use Rattle.df_core.specs.Done.{Shows, Stops, Undoes, OnEach, Done}
use Rattle.df_core.proofs.CourseLaws.{spread_access}
use Rattle.df_core.proofs.HopLaws.{all_pass}
use Rattle.df_core.proofs.KeysLaws.{map_alike, altered_alike}

-- ---- what a command changes depends on the keys that it names

-- then the command changes the same on each shard
pub changes_alike : (shards s : ℕ) (command : Command) (a : Access) (K L : Keyspace) → access_of command ≡ Some a →
    Alike (names a) K L → changes_on shards s command K ≡ changes_on shards s command L
changes_alike shards s command a K L e alike =
    altered_alike K (meaning command K).1 L (meaning command L).1 (keys_on shards s command)
    (λ k h. alike k (named k h))
    (λ k h. ap (λ m. held m.1 k) (means command a K e) ∙ same_left a K L alike k (named k h) ∙ sym (ap (λ m. held m.1 k) (means command a L e)))
  where
    named : (k : Bytes) → among (keys_on shards s command) k ≡ true → among (names a) k ≡ true
    named k h = (and_parts (among (names a) k) (shard_of k shards == s) (sym (keys_of_one shards s command a k e) ∙ h)).0

-- ---- what was read

with_values_taken : (keys : List Bytes) (K L : Keyspace) → with_values keys (map (held K) keys) L ≡ taken_over L keys K
with_values_taken [] K L = refl
with_values_taken (key ∷ keys) K L = ap (λ M. with_held M key (held K key)) (with_values_taken keys K L)

-- the shard has no key of the command, or the first step there was told what they hold
abbrev pub HasRead : ℕ → Command → Keyspace → ℕ → List Step → Type 0
HasRead shards command K t steps = (keys_on shards t command ≡ []) ⊎ (values_of steps ≡ map (held K) (keys_on shards t command))

-- where each shard told what its own keys hold, the command's keys hold that in all that was read
module _ (shards : ℕ) (command : Command) (a : Access) (e : access_of command ≡ Some a) (steps : ℕ → List Step) (K : ℕ → Keyspace)
    (has_read : (t : ℕ) → t < shards → HasRead shards command (K t) t (steps t)) (key : Bytes) (is_named : among (names a) key ≡ true) where
  read_step_held : (t : ℕ) → t < shards →
      held (read_on shards command steps (suc t)) key ≡ cond (shard_of key shards == t) (held (K t) key) (held (read_on shards command steps t) key)
  read_step_held t lt =
      taken t lt ∙ ap (λ b. cond b (held (K t) key) (held (read_on shards command steps t) key))
      (keys_of_one shards t command a key e ∙ ap (λ b. b && (shard_of key shards == t)) is_named)
    where
      taken : (u : ℕ) → u < shards →
          held (read_on shards command steps (suc u)) key ≡ cond (among (keys_on shards u command) key) (held (K u) key)
          (held (read_on shards command steps u) key)
      taken u l = elim (has_read u l) [
        | inl none ↦ ap (λ ks. held (with_values ks (values_of (steps u)) (read_on shards command steps u)) key) none
            ∙ sym (ap (λ ks. cond (among ks key) (held (K u) key) (held (read_on shards command steps u) key)) none)
        | inr some ↦ ap (λ vs. held (with_values (keys_on shards u command) vs (read_on shards command steps u)) key) some
            ∙ ap (λ M. held M key) (with_values_taken (keys_on shards u command) (K u) (read_on shards command steps u))
            ∙ held_taken_over (read_on shards command steps u) (keys_on shards u command) (K u) key
      ]

  read_held : (n : ℕ) → n ≤ shards → shard_of key shards < n →
      held (read_on shards command steps n) key ≡ held (K (shard_of key shards)) key
  read_held zero le lt = absurd (omega arith)
  read_held (suc t) le lt = elim (eqb_tells (shard_of key shards) t) [
    | inl i ↦ read_step_held t (omega arith)
        ∙ ap (λ b. cond b (held (K t) key) (held (read_on shards command steps t) key)) (eq-eqb (shard_of key shards) t i.1)
        ∙ ap (λ u. held (K u) key) (sym i.1)
    | inr n ↦ read_step_held t (omega arith)
        ∙ ap (λ b. cond b (held (K t) key) (held (read_on shards command steps t) key)) (ne_eqb (shard_of key shards) t n.1)
        ∙ read_held t (omega arith) (omega (arith, n.1))
  ]

  values_held : 0 < shards → held (values_read shards command steps) key ≡ held (K (shard_of key shards)) key
  values_held pos = read_held shards (omega arith) (omega (arith, pos))

-- what changes by what was read is what changes by what the keys hold
pub changes_read : (shards : ℕ) (command : Command) (steps : ℕ → List Step) (K : Keyspace) → 0 < shards →
    course_of shards command ≡ Spread → ((t : ℕ) → t < shards → HasRead shards command K t (steps t)) → (s : ℕ) →
    changes_on shards s command (values_read shards command steps) ≡ changes_on shards s command K
changes_read shards command steps K pos e has_read s =
    let a = spread_access shards command e in
    changes_alike shards s command a.0 (values_read shards command steps) K a.1
    (λ key h. values_held shards command a.0 a.1 steps (λ t. K) has_read key h pos)

-- what a shard told of its keys is what they hold in all that was read
pub values_back : (shards : ℕ) (command : Command) (steps : ℕ → List Step) (K : ℕ → Keyspace) → 0 < shards →
    course_of shards command ≡ Spread → ((t : ℕ) → t < shards → HasRead shards command (K t) t (steps t)) → (s : ℕ) →
    map (held (values_read shards command steps)) (keys_on shards s command) ≡ map (held (K s)) (keys_on shards s command)
values_back shards command steps K pos e has_read s =
    let a = spread_access shards command e in
    map_alike (held (values_read shards command steps)) (held (K s)) (keys_on shards s command) (λ k h.
    let n = and_parts (among (names a.0) k) (shard_of k shards == s) (sym (keys_of_one shards s command a.0 k a.1) ∙ h) in
    values_held shards command a.0 a.1 steps K has_read k n.0 pos ∙ ap (λ u. held (K u) k) (eqb-true (shard_of k shards) s n.1))

-- ---- a command whose hops all ran may end there

cons_some : {X : Type 0} (x : X) (xs ys : List X) → ys ≡ x ∷ xs → not (is_nil ys) ≡ true
cons_some x xs ys e = ap (λ l. not (is_nil l)) e

-- that a shard has no key of the command, or has read
abbrev Looked : ℕ → Command → ℕ → List Step → Type 0
Looked shards command t steps = (is_nil (keys_on shards t command) || not (is_nil steps)) ≡ true

module _ (shards i s : ℕ) (command : Command) where
  nil_looked : (steps : List Step) → keys_on shards s command ≡ [] → Looked shards command s steps
  nil_looked steps e = or_left (is_nil (keys_on shards s command)) (not (is_nil steps)) (ap is_nil e)

  -- each shard with a key of the command has read, and has no more to do
  pub shows_read : (K : Keyspace) (steps : List Step) → Shows shards i s command K steps → HasRead shards command K s steps
  shows_read K _ (Shows.unnamed e) = inl e
  shows_read K _ (Shows.looked e f) = inr refl
  shows_read K _ (Shows.applied e) = inr refl

  shows_looked : (K : Keyspace) (steps : List Step) → Shows shards i s command K steps → Looked shards command s steps
  shows_looked K _ (Shows.unnamed e) = nil_looked [] e
  shows_looked K _ (Shows.looked e f) = or_right (is_nil (keys_on shards s command)) true refl
  shows_looked K _ (Shows.applied e) = or_right (is_nil (keys_on shards s command)) true refl

  none_changes : (K : Keyspace) (b : Bool) → keys_on shards s command ≡ [] → (is_nil (changes_on shards s command K) || b) ≡ true
  none_changes K b e = or_left (is_nil (changes_on shards s command K)) b (ap (λ ks. is_nil (altered K (meaning command K).1 ks)) e)

  shows_settled : (K : Keyspace) (steps : List Step) → Shows shards i s command K steps →
      (is_nil (changes_on shards s command K) || (length steps == 3)) ≡ true
  shows_settled K _ (Shows.unnamed e) = none_changes K false e
  shows_settled K _ (Shows.looked e f) = or_left (is_nil (changes_on shards s command K)) false (ap is_nil f)
  shows_settled K _ (Shows.applied e) = or_right (is_nil (changes_on shards s command K)) true refl

  pub undoes_read : (K : Keyspace) (steps : List Step) → Undoes shards i s command K steps → HasRead shards command K s steps
  undoes_read K _ (Undoes.unnamed e) = inl e
  undoes_read K _ (Undoes.looked e f) = inr refl
  undoes_read K _ (Undoes.undone e told) = inr refl

  undoes_looked : (K : Keyspace) (steps : List Step) → Undoes shards i s command K steps → Looked shards command s steps
  undoes_looked K _ (Undoes.unnamed e) = nil_looked [] e
  undoes_looked K _ (Undoes.looked e f) = or_right (is_nil (keys_on shards s command)) true refl
  undoes_looked K _ (Undoes.undone e told) = or_right (is_nil (keys_on shards s command)) true refl

  undoes_settled : (K : Keyspace) (steps : List Step) → Undoes shards i s command K steps →
      (is_nil (changes_on shards s command K) || (length steps == 3)) ≡ true
  undoes_settled K _ (Undoes.unnamed e) = none_changes K false e
  undoes_settled K _ (Undoes.looked e f) = or_left (is_nil (changes_on shards s command K)) false (ap is_nil f)
  undoes_settled K _ (Undoes.undone e told) = or_right (is_nil (changes_on shards s command K)) true refl

  stops_looked : (steps : List Step) → Stops shards i s command steps → Looked shards command s steps
  stops_looked _ (Stops.unnamed e) = nil_looked [] e
  stops_looked _ (Stops.read e told) = or_right (is_nil (keys_on shards s command)) true refl

  stops_short : (steps : List Step) → Stops shards i s command steps → nat_lt (length steps) 2 ≡ true
  stops_short _ (Stops.unnamed e) = refl
  stops_short _ (Stops.read e told) = refl

module _ (shards i : ℕ) (pos : 0 < shards) (command : Command) (own : ℕ → List Step) where
  settled_ends : (K : Keyspace) → course_of shards command ≡ Spread → ((t : ℕ) → HasRead shards command K t (own t)) →
      ((t : ℕ) → Looked shards command t (own t)) →
      ((t : ℕ) → (is_nil (changes_on shards t command K) || (length (own t) == 3)) ≡ true) →
      may_end_by shards command (course_of shards command) own ≡ true
  settled_ends K e has_read looked settled =
      ap (λ c. may_end_by shards command c own) e
      ∙ and_from (all_read shards command own) _
      (all_pass (λ t. is_nil (keys_on shards t command) || not (is_nil (own t))) shards (λ t lt. looked t))
      (or_right (every (λ t. nat_lt (length (own t)) 2) shards) _
      (all_pass (λ t. is_nil (changes_on shards t command (values_read shards command own)) || (length (own t) == 3)) shards
      (λ t lt. ap (λ c. is_nil c || (length (own t) == 3)) (changes_read shards command own K pos e (λ u l. has_read u) t) ∙ settled t)))

  stopped_ends : course_of shards command ≡ Spread → ((t : ℕ) → Looked shards command t (own t)) →
      ((t : ℕ) → nat_lt (length (own t)) 2 ≡ true) → may_end_by shards command (course_of shards command) own ≡ true
  stopped_ends e looked short =
      ap (λ c. may_end_by shards command c own) e
      ∙ and_from (all_read shards command own) _
      (all_pass (λ t. is_nil (keys_on shards t command) || not (is_nil (own t))) shards (λ t lt. looked t))
      (or_left (every (λ t. nat_lt (length (own t)) 2) shards) _ (all_pass (λ t. nat_lt (length (own t)) 2) shards (λ t lt. short t)))

  each_ends : (these : ℕ → List Step) → OnEach shards own these → ((t : ℕ) → not (is_nil (these t)) ≡ true) →
      every (λ t. not (is_nil (own t))) shards ≡ true
  each_ends these on some = all_pass (λ t. not (is_nil (own t))) shards (λ t lt. ap (λ l. not (is_nil l)) (on.within t lt) ∙ some t)

  two_end : (these : ℕ → List Step) → OnEach shards own these → course_of shards command ≡ Clears →
      ((t : ℕ) → (length (these t) == 2) ≡ true) → may_end_by shards command (course_of shards command) own ≡ true
  two_end these on e two =
      ap (λ c. may_end_by shards command c own) e
      ∙ all_pass (λ t. length (own t) == 2) shards (λ t lt. ap (λ l. length l == 2) (on.within t lt) ∙ two t)

  -- so that the next command of its call may begin
  pub done_may_end : (kept : Bool) (reply : Reply) → Done shards i command own kept reply →
      may_end_by shards command (course_of shards command) own ≡ true
  done_may_end _ _ (Done.nowhere e n) = ap (λ c. may_end_by shards command c own) e
  done_may_end _ _ (Done.nowhere_wanted e n) = ap (λ c. may_end_by shards command c own) e
  done_may_end _ _ (Done.ran s reply e x n) = ap (λ c. may_end_by shards command c own) e ∙ cons_some _ [] (own s) x
  done_may_end _ _ (Done.run_wanted s e x n) = ap (λ c. may_end_by shards command c own) e ∙ cons_some _ [] (own s) x
  done_may_end _ _ (Done.changed K e shows some) =
      settled_ends K e (λ t. shows_read shards i t command K (own t) (shows t))
      (λ t. shows_looked shards i t command K (own t) (shows t)) (λ t. shows_settled shards i t command K (own t) (shows t))
  done_may_end _ _ (Done.looked K e shows none) =
      settled_ends K e (λ t. shows_read shards i t command K (own t) (shows t))
      (λ t. shows_looked shards i t command K (own t) (shows t)) (λ t. shows_settled shards i t command K (own t) (shows t))
  done_may_end _ _ (Done.stopped e stops) =
      stopped_ends e (λ t. stops_looked shards i t command (own t) (stops t)) (λ t. stops_short shards i t command (own t) (stops t))
  done_may_end _ _ (Done.undone K e undoes some) =
      settled_ends K e (λ t. undoes_read shards i t command K (own t) (undoes t))
      (λ t. undoes_looked shards i t command K (own t) (undoes t)) (λ t. undoes_settled shards i t command K (own t) (undoes t))
  done_may_end _ _ (Done.names pattern names e on) = ap (λ c. may_end_by shards command (course_of shards c) own) e ∙ each_ends _ on (λ t. refl)
  done_may_end _ _ (Done.counts numbers e on) = ap (λ c. may_end_by shards command (course_of shards c) own) e ∙ each_ends _ on (λ t. refl)
  done_may_end _ _ (Done.names_wanted pattern told e on) =
      ap (λ c. may_end_by shards command (course_of shards c) own) e ∙ each_ends _ on (λ t. refl)
  done_may_end _ _ (Done.counts_wanted told e on w) = ap (λ c. may_end_by shards command (course_of shards c) own) e ∙ each_ends _ on (λ t. refl)
  done_may_end _ _ (Done.cuts pairs reply e on w) = ap (λ c. may_end_by shards command (course_of shards c) own) e ∙ each_ends _ on (λ t. refl)
  done_may_end _ _ (Done.cleared e on) = two_end _ on e (λ t. refl)
  done_may_end _ _ (Done.kept_all told e on w) = two_end _ on e (λ t. refl)
