-- What is due belongs to its call, stands on a shard of it, and lies behind the hops that were taken.
use Rattle.std.proofs.Common.{◌≡◌, ◌≢◌, ◌⊎◌, inl, inr, ℕ, zero, suc, ◌/◌, ◌%◌, ◌<◌, ◌≤◌, Bool, true, false, cond, not, ◌&&◌, nat_lt, length, List, [], ◌∷◌, refl, sym, ap, ◌∙◌, subst}
use Rattle.std.specs.Prelude.{Option, Some, None, ◌==◌}
use Rattle.std.proofs.lemmas.Bool.{and_parts, ltb-true, le-ltb, eqb-true}
use Rattle.std.proofs.lemmas.Option.{none-some, cond_some}
use Rattle.df_model.specs.Keyspace.{Keyspace}
use Rattle.df_model.specs.Meaning.{meaning}
use Rattle.df_model.specs.declared.command.Command.{Command}
use Rattle.df_model.specs.declared.command.Call.{Call}
use Rattle.df_footprints.specs.Footprints.{commands_of, footprint_of, footprint_of_commands}
use Rattle.df_order.specs.Lists.{Has}
use Rattle.df_log.specs.Acts.{Act, Run, Read, Stage, Apply, Unstage, Begin, Walk, Count, Clear}
use Rattle.df_log.specs.declared.entry.Entry.{Entry}
use Rattle.df_core.specs.Altered.{altered}
use Rattle.df_core.specs.Belongs.{MayDo, Belongs}
use Rattle.df_core.specs.Courses.{Course, Nowhere, Alone, Spread, Counts, Cuts, Clears, course_of, keys_on, changes_on, are_quick, is_quick, has_hop}
use Rattle.df_core.specs.Courses as courses
use Rattle.df_core.specs.Due.{every, is_nil, first_due, spread_due, clear_due, due_by, may_end_by, of_command, all_below, none_behind, due_from, due, IsNext, values_read, all_read, all_staged, some, first_wanted, second_wanted}
use Rattle.df_core.specs.Steps.{Step, steps_of}
use Rattle.df_core.proofs.CourseLaws.{is_whole}
use Rattle.df_core.proofs.AsksLaws.{footprint_within}
use Rattle.df_core.proofs.StandLaws.{not_nil, On, on_asks, on_keys, on_alone, whole_on}

-- what is found under a test
pub cond_found : {A : Type 0} (b : Bool) (x : Option A) (a : A) → cond b x None ≡ Some a → (b ≡ true) × (x ≡ Some a)
cond_found true x a e = (refl, e)
cond_found false x a e = absurd (none-some a e)

-- a command of one hop has it as its first
pub first_due_is : (act found : Act) (steps : List Step) (j : ℕ) → first_due act steps j ≡ Some found →
    (j ≡ 0) × (is_nil steps ≡ true) × (act ≡ found)
first_due_is act found steps zero e = let p = cond_some (is_nil steps) act found e in (refl, p.0, p.1)
first_due_is act found steps (suc j) e = absurd (none-some found e)

-- the command may do this on the shard, and stands there
pub record Stands (shards s : ℕ) (command : Command) (act : Act) : Type 0 where
  pub may : MayDo shards s command act
  pub on : On shards s command

module _ (shards s : ℕ) (command : Command) where
  changes_keys : (K : Keyspace) → changes_on shards s command K ≢ [] → keys_on shards s command ≢ []
  changes_keys K h = λ e. h (ap (altered K (meaning command K).1) e)

  spread_stands : (K : Keyspace) (read staged wanted : Bool) (steps : List Step) (j : ℕ) (act : Act) →
      course_of shards command ≡ Spread →
      spread_due (keys_on shards s command) (changes_on shards s command K) read staged wanted steps j ≡ Some act →
      Stands shards s command act
  spread_stands K read staged wanted steps zero act e h =
      let p = cond_some (not (is_nil (keys_on shards s command)) && is_nil steps) (Read (keys_on shards s command)) act h in
      let q = and_parts (not (is_nil (keys_on shards s command))) (is_nil steps) p.0 in
      record {
        may = subst (MayDo shards s command) p.1 (MayDo.reads e);
        on = on_keys shards s command (not_nil (keys_on shards s command) q.0);
      }
  spread_stands K read staged wanted steps (suc zero) act e h =
      let p = cond_some (read && (not (is_nil (changes_on shards s command K)) && (length steps == 1)))
      (Stage (changes_on shards s command K)) act h in
      let q = and_parts (not (is_nil (changes_on shards s command K))) (length steps == 1) (and_parts read _ p.0).1 in
      record {
        may = subst (MayDo shards s command) p.1 (MayDo.stages K e);
        on = on_keys shards s command (changes_keys K (not_nil (changes_on shards s command K) q.0));
      }
  spread_stands K read staged wanted steps (suc (suc zero)) act e h =
      let p = cond_some (read && (staged && (not wanted && (not (is_nil (changes_on shards s command K)) && (length steps == 2))))) Apply act h in
      let q = and_parts (not (is_nil (changes_on shards s command K))) (length steps == 2)
      (and_parts (not wanted) _ (and_parts staged _ (and_parts read _ p.0).1).1).1 in
      record {
        may = subst (MayDo shards s command) p.1 (MayDo.applies e);
        on = on_keys shards s command (changes_keys K (not_nil (changes_on shards s command K) q.0));
      }
  spread_stands K read staged wanted steps (suc (suc (suc j))) act e h =
      let p = cond_some (read && (staged && (wanted && (not (is_nil (changes_on shards s command K)) && (length steps == 2))))) Unstage act h in
      let q = and_parts (not (is_nil (changes_on shards s command K))) (length steps == 2)
      (and_parts wanted _ (and_parts staged _ (and_parts read _ p.0).1).1).1 in
      record {
        may = subst (MayDo shards s command) p.1 (MayDo.unstages e);
        on = on_keys shards s command (changes_keys K (not_nil (changes_on shards s command K) q.0));
      }

  clear_may : (staged wanted : Bool) (steps : List Step) (j : ℕ) (act : Act) → course_of shards command ≡ Clears →
      clear_due staged wanted steps j ≡ Some act → MayDo shards s command act
  clear_may staged wanted steps zero act e h = absurd (none-some act h)
  clear_may staged wanted steps (suc zero) act e h =
      subst (MayDo shards s command) (cond_some (is_nil steps) (Stage []) act h).1 (MayDo.stages_none e)
  clear_may staged wanted steps (suc (suc zero)) act e h =
      subst (MayDo shards s command) (cond_some (staged && (not wanted && (length steps == 1))) Clear act h).1 (MayDo.clears e)
  clear_may staged wanted steps (suc (suc (suc j))) act e h =
      subst (MayDo shards s command) (cond_some (staged && (wanted && (length steps == 1))) Unstage act h).1 (MayDo.unstages_none e)

  -- what a command has to do on a shard it may do there
  pub by_stands : (course : Course) → course_of shards command ≡ course → (own : ℕ → List Step) (j : ℕ) (act : Act) →
      due_by shards command course own s j ≡ Some act → Stands shards s command act
  by_stands Nowhere e own j act h = absurd (none-some act h)
  by_stands (Alone t) e own j act h =
      let p = cond_found (t == s) (first_due (Run command) (own s) j) act h in
      let here : course_of shards command ≡ Alone s = e ∙ ap Alone (eqb-true t s p.0) in
      record {
        may = subst (MayDo shards s command) (first_due_is (Run command) act (own s) j p.1).2 (MayDo.runs here);
        on = on_alone shards s command here;
      }
  by_stands Spread e own j act h =
      spread_stands (values_read shards command own)
      (all_read shards command own && not (some (λ t. first_wanted (own t)) shards)) (all_staged shards command own)
      (some (λ t. second_wanted (own t)) shards) (own s) j act e h
  by_stands courses.Names e own j act h =
      record {
        may = subst (MayDo shards s command) (first_due_is Walk act (own s) j h).2 (MayDo.walks e);
        on = inl (whole_on shards command (ap is_whole e));
      }
  by_stands Counts e own j act h =
      record {
        may = subst (MayDo shards s command) (first_due_is Count act (own s) j h).2 (MayDo.counts e);
        on = inl (whole_on shards command (ap is_whole e));
      }
  by_stands Cuts e own j act h =
      record {
        may = subst (MayDo shards s command) (first_due_is Begin act (own s) j h).2 (MayDo.begins e);
        on = inl (whole_on shards command (ap is_whole e));
      }
  by_stands Clears e own j act h =
      record {
        may = clear_may (every (λ t. not (is_nil (own t))) shards) (some (λ t. first_wanted (own t)) shards) (own s) j act e h;
        on = inl (whole_on shards command (ap is_whole e));
      }

-- the hop is this command's, or one of those behind it that may begin
pub either_some : {A : Type 0} (b c : Bool) (x y : Option A) (a : A) → cond b x (cond c y None) ≡ Some a →
    ((b ≡ true) × (x ≡ Some a)) ⊎ ((c ≡ true) × (y ≡ Some a))
either_some true c x y a e = inl (refl, e)
either_some false c x y a e = inr (cond_found c y a e)

from_stands : (shards i : ℕ) (commands : List Command) (steps : ℕ → List Step) (s hop : ℕ) (act : Act) →
    due_from shards i commands steps s hop ≡ Some act →
    (command : Command) × Has commands command × Stands shards s command act
from_stands shards i [] steps s hop act h = absurd (none-some act h)
from_stands shards i (command ∷ commands) steps s hop act h =
    let own : ℕ → List Step = λ t. of_command i (steps t) in
    elim (either_some (hop / 4 == i) (may_end_by shards command (course_of shards command) own)
    (due_by shards command (course_of shards command) own s (hop % 4)) (due_from shards (suc i) commands steps s hop) act h) [
      | inl e ↦ (command, inl refl, by_stands shards s command (course_of shards command) refl own (hop % 4) act e.1)
      | inr e ↦ (let v = from_stands shards (suc i) commands steps s hop act e.1 in (v.0, inr v.1, v.2))
    ]

module _ (shards : ℕ) (call : Call) (steps : ℕ → List Step) (s hop : ℕ) (act : Act) (h : due shards call steps s hop ≡ Some act) where
  parts : (nat_lt s shards && (all_below hop (steps s) && every (λ t. none_behind (hop / 4) (steps t)) shards) ≡ true)
      × (due_from shards 0 (commands_of call) steps s hop ≡ Some act)
  parts =
      cond_found (nat_lt s shards && (all_below hop (steps s) && every (λ t. none_behind (hop / 4) (steps t)) shards))
      (due_from shards 0 (commands_of call) steps s hop) act h

  -- a hop that is due is on a shard that there is
  pub due_within : s < shards
  due_within = ltb-true s shards (and_parts (nat_lt s shards) _ parts.0).0

  due_above : all_below hop (steps s) ≡ true
  due_above = (and_parts (all_below hop (steps s)) _ (and_parts (nat_lt s shards) _ parts.0).1).0

  pub due_of_commands : due_from shards 0 (commands_of call) steps s hop ≡ Some act
  due_of_commands = parts.1

  -- a hop that is due is one that the call may do there
  pub due_belongs : Belongs shards s call act
  due_belongs =
      let v = from_stands shards 0 (commands_of call) steps s hop act parts.1 in
      record { within = due_within; command = v.0; among = v.1; may = v.2.may }

  -- and stands on a shard of the call
  pub next_named : footprint_of shards call s ≢ None
  next_named =
      let v = from_stands shards 0 (commands_of call) steps s hop act parts.1 in
      subst (λ o. o ≢ None) (sym (footprint_within shards s call due_within)) (on_asks shards s (commands_of call) v.0 v.1 v.2.on)

below_all : (hop : ℕ) (es : List Entry) (f : Entry) → all_below hop (steps_of es) ≡ true → Has es f → f.hop < hop
below_all hop [] f e h = absurd h
below_all hop (x ∷ es) f e (inl i) =
    ltb-true f.hop hop (sym (ap (λ y. nat_lt y.hop hop) i) ∙ (and_parts (nat_lt x.hop hop) (all_below hop (steps_of es)) e).0)
below_all hop (x ∷ es) f e (inr h) = below_all hop es f (and_parts (nat_lt x.hop hop) (all_below hop (steps_of es)) e).1 h

-- a next hop is above those that the shard has
pub next_rises : (shards : ℕ) (call : Call) (es : ℕ → List Entry) (s : ℕ) (e f : Entry) → IsNext shards call es s e →
    Has (es s) f → f.hop < e.hop
next_rises shards call es s e f h m = below_all e.hop (es s) f (due_above shards call (λ t. steps_of (es t)) s e.hop e.act h) m

-- no call stands past the last shard
pub within : (shards : ℕ) (call : Call) (s : ℕ) → shards ≤ s → footprint_of shards call s ≡ None
within shards call s h = ap (λ b. cond b (footprint_of_commands shards s (commands_of call)) None) (le-ltb s shards h)
