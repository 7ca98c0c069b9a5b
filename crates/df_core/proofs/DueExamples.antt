-- The hops of some calls, worked out: with four shards a stands on 0 and b on 1.
use Rattle.std.proofs.Common.{◌≡◌, inl, inr, ℕ, zero, suc, ◌<◌, cond, length, map, List, [], ◌∷◌, refl, sym, ap, ◌∙◌, arith, codes}
use Rattle.std.specs.Prelude.{Some, None}
use Rattle.std.specs.Ordering.{nat_cmp}
use Rattle.std.specs.Cmp.Lexicographic.{slice_cmp, nat_list_cmp_total}
use Rattle.std.specs.FinMap.{entries-insert, get-empty, get-insert, len-empty, len-entries}
use Rattle.std.specs.FinMap as fin
use Rattle.std.specs.FinMap.Entries.{put}
use Rattle.df_model.specs.Values.{Bytes, Value}
use Rattle.df_model.specs.Keyspace.{Keyspace, held, no_keys}
use Rattle.df_model.specs.Access.{part}
use Rattle.df_model.specs.Meaning.{meaning}
use Rattle.df_model.specs.Spared.{all_of}
use Rattle.df_model.proofs.LocalityLaws.{held_taken_over}
use Rattle.df_model.specs.declared.command.OneOp.TheVariants.{Get}
use Rattle.df_model.specs.declared.command.ManyOp.TheVariants.{Mset}
use Rattle.df_model.specs.declared.command.Command.{Command}
use Rattle.df_model.specs.declared.command.Command.TheVariants.{One, Many}
use Rattle.df_model.specs.declared.command.Call.{Call}
use Rattle.df_model.specs.declared.command.Call.TheVariants.{Single, Exec}
use Rattle.df_model.specs.declared.reply.Reply.TheVariants.{Array, NullBulk}
use Rattle.df_model.specs.declared.keys.Mode.{Mode}
use Rattle.df_log.specs.Acts.{Changes, Run, Read, Stage, Apply, Unstage, Told, Ran, Values, Staged, NoMemory}
use Rattle.df_core.specs.Altered.{altered, same_held}
use Rattle.df_core.specs.Courses.{keys_on, changes_on}
use Rattle.df_core.specs.Due.{due, values_of, values_read, of_command}
use Rattle.df_core.specs.Steps.{Step}
use Rattle.df_core.specs.Done.{Gives}
use Rattle.df_core.proofs.StepLaws.{either_way}
use Rattle.df_core.proofs.ReadLaws.{HasRead, changes_read}

-- ---- GET of one key, on one shard of one

abbrev get_a : Call
get_a = Single (One (codes "a") Get)

get_is_due : due 1 get_a (λ t. []) 0 0 ≡ Some (Run (One (codes "a") Get))
get_is_due = refl

get_is_due_where_it_stands : due 4 get_a (λ t. []) 1 0 ≡ None
get_is_due_where_it_stands = refl

get_ran : due 1 get_a (λ t. record { hop = 0; act = Run (One (codes "a") Get); told = Ran NullBulk } ∷ []) 0 0 ≡ None
get_ran = refl

-- ---- EXEC of no commands

abbrev nothing : Call
nothing = Exec (all_of [])

nothing_is_due : (s hop : ℕ) → due 4 nothing (λ t. []) s hop ≡ None
nothing_is_due s hop = either_way _ None

nothing_is_done : Gives 4 nothing (λ t. []) (Array (all_of []))
nothing_is_done = ([], [], refl, λ s. refl)

-- ---- MSET of two keys, on two shards of four

abbrev mset_ab : Command
mset_ab = Many (Mset (all_of ((codes "a", codes "1") ∷ (codes "b", codes "2") ∷ [])))

no_entries : (es : List (Bytes × Mode)) → length es ≡ 0 → es ≡ []
no_entries [] e = refl
no_entries (x ∷ es) e = absurd (omega (arith, e))

empty_entries : fin.entries (fin.empty {K = Bytes} {X = Mode} {R = slice_cmp nat_cmp}) ≡ []
empty_entries = no_entries _ (sym (len-entries fin.empty) ∙ len-empty (slice_cmp nat_cmp) Mode)

one_entry : (key : Bytes) (mode : Mode) → fin.entries (fin.insert (fin.empty {R = slice_cmp nat_cmp}) key mode) ≡ (key, mode) ∷ []
one_entry key mode = entries-insert nat_list_cmp_total fin.empty key mode ∙ ap (put (slice_cmp nat_cmp) key mode) empty_entries

keys_0 : keys_on 4 0 mset_ab ≡ codes "a" ∷ []
keys_0 = ap (map (λ e. e.0)) (one_entry (codes "a") _)

keys_1 : keys_on 4 1 mset_ab ≡ codes "b" ∷ []
keys_1 = ap (map (λ e. e.0)) (one_entry (codes "b") _)

keys_2 : keys_on 4 2 mset_ab ≡ []
keys_2 = ap (map (λ e. e.0)) empty_entries

keys_3 : keys_on 4 3 mset_ab ≡ []
keys_3 = ap (map (λ e. e.0)) empty_entries

first_hop_on_0 : due 4 (Single mset_ab) (λ t. []) 0 0 ≡ Some (Read (codes "a" ∷ []))
first_hop_on_0 = rw keys_0 refl

first_hop_on_1 : due 4 (Single mset_ab) (λ t. []) 1 0 ≡ Some (Read (codes "b" ∷ []))
first_hop_on_1 = rw keys_1 refl

first_hop_on_2 : due 4 (Single mset_ab) (λ t. []) 2 0 ≡ None
first_hop_on_2 = rw keys_2 refl

-- ---- behind both reads, which found no values

abbrev read_by : Bytes → Step
read_by key = record { hop = 0; act = Read (key ∷ []); told = Values (None ∷ []) }

abbrev both_read : ℕ → List Step
both_read zero = read_by (codes "a") ∷ []
both_read (suc zero) = read_by (codes "b") ∷ []
both_read (suc (suc t)) = []

missing : (key : Bytes) → held no_keys key ≡ None
missing key = get-empty (slice_cmp nat_cmp) key

abbrev names_ab : List Bytes
names_ab = codes "a" ∷ codes "b" ∷ []

abbrev with_a : Keyspace
with_a = fin.insert (part no_keys names_ab) (codes "a") (Value.Str (codes "1"))

left_at_a : held (meaning mset_ab no_keys).1 (codes "a") ≡ Some (Value.Str (codes "1"))
left_at_a =
    held_taken_over no_keys names_ab (fin.insert with_a (codes "b") (Value.Str (codes "2"))) (codes "a")
    ∙ get-insert nat_list_cmp_total with_a (codes "b") (Value.Str (codes "2")) (codes "a")
    ∙ get-insert nat_list_cmp_total (part no_keys names_ab) (codes "a") (Value.Str (codes "1")) (codes "a")

left_at_b : held (meaning mset_ab no_keys).1 (codes "b") ≡ Some (Value.Str (codes "2"))
left_at_b =
    held_taken_over no_keys names_ab (fin.insert with_a (codes "b") (Value.Str (codes "2"))) (codes "b")
    ∙ get-insert nat_list_cmp_total with_a (codes "b") (Value.Str (codes "2")) (codes "b")

abbrev puts : Bytes → Bytes → Changes
puts key text = (key, Some (Value.Str text)) ∷ []

-- of a key that held nothing, and then a text
one_changed : (key text : Bytes) (K L : Keyspace) → held K key ≡ None → held L key ≡ Some (Value.Str text) →
    altered K L (key ∷ []) ≡ puts key text
one_changed key text K L e f = λ j. cond (same_held (e j) (f j)) [] ((key, f j) ∷ [])

-- on the first two shards it was read, and on the others no key stands
module _ (own : ℕ → List Step) (on_0 on_1 : List Step) (at_0 : own 0 ≡ read_by (codes "a") ∷ on_0) (at_1 : own 1 ≡ read_by (codes "b") ∷ on_1) where
  has_read : (t : ℕ) → t < 4 → HasRead 4 mset_ab no_keys t (own t)
  has_read zero lt = inr (ap values_of at_0 ∙ ap (λ v. v ∷ []) (sym (missing (codes "a"))) ∙ sym (ap (map (held no_keys)) keys_0))
  has_read (suc zero) lt = inr (ap values_of at_1 ∙ ap (λ v. v ∷ []) (sym (missing (codes "b"))) ∙ sym (ap (map (held no_keys)) keys_1))
  has_read (suc (suc zero)) lt = inl keys_2
  has_read (suc (suc (suc zero))) lt = inl keys_3
  has_read (suc (suc (suc (suc t)))) lt = absurd (omega (arith, lt))

  changes_0 : changes_on 4 0 mset_ab (values_read 4 mset_ab own) ≡ puts (codes "a") (codes "1")
  changes_0 =
      changes_read 4 mset_ab own no_keys (omega arith) refl has_read 0
      ∙ ap (altered no_keys (meaning mset_ab no_keys).1) keys_0
      ∙ one_changed (codes "a") (codes "1") no_keys (meaning mset_ab no_keys).1 (missing (codes "a")) left_at_a

  changes_1 : changes_on 4 1 mset_ab (values_read 4 mset_ab own) ≡ puts (codes "b") (codes "2")
  changes_1 =
      changes_read 4 mset_ab own no_keys (omega arith) refl has_read 1
      ∙ ap (altered no_keys (meaning mset_ab no_keys).1) keys_1
      ∙ one_changed (codes "b") (codes "2") no_keys (meaning mset_ab no_keys).1 (missing (codes "b")) left_at_b

  changes_2 : changes_on 4 2 mset_ab (values_read 4 mset_ab own) ≡ []
  changes_2 = ap (altered (values_read 4 mset_ab own) (meaning mset_ab (values_read 4 mset_ab own)).1) keys_2

abbrev mset_after : (ℕ → List Step) → ℕ → List Step
mset_after steps t = of_command 0 (steps t)

read_0 : changes_on 4 0 mset_ab (values_read 4 mset_ab (mset_after both_read)) ≡ puts (codes "a") (codes "1")
read_0 = changes_0 (mset_after both_read) [] [] refl refl

read_1 : changes_on 4 1 mset_ab (values_read 4 mset_ab (mset_after both_read)) ≡ puts (codes "b") (codes "2")
read_1 = changes_1 (mset_after both_read) [] [] refl refl

read_2 : changes_on 4 2 mset_ab (values_read 4 mset_ab (mset_after both_read)) ≡ []
read_2 = changes_2 (mset_after both_read) [] [] refl refl

second_hop_on_0 : due 4 (Single mset_ab) both_read 0 1 ≡ Some (Stage (puts (codes "a") (codes "1")))
second_hop_on_0 = rw (read_0, keys_0, keys_1, keys_2) refl

second_hop_on_1 : due 4 (Single mset_ab) both_read 1 1 ≡ Some (Stage (puts (codes "b") (codes "2")))
second_hop_on_1 = rw (read_1, keys_0, keys_1, keys_2) refl

no_second_hop_on_2 : due 4 (Single mset_ab) both_read 2 1 ≡ None
no_second_hop_on_2 = rw (read_2, keys_0, keys_1, keys_2) refl

-- nobody reads twice, and nothing is applied that isn't staged
no_hop_again : due 4 (Single mset_ab) both_read 0 0 ≡ None
no_hop_again = refl

not_yet_applied : due 4 (Single mset_ab) both_read 0 2 ≡ None
not_yet_applied = rw (read_0, read_1, read_2, keys_0, keys_1, keys_2) refl

-- ---- behind both stages

abbrev stage_of : Bytes → Bytes → Told → Step
stage_of key text told = record { hop = 1; act = Stage (puts key text); told = told }

-- what the second shard answered
abbrev both_staged : Told → ℕ → List Step
both_staged told zero = read_by (codes "a") ∷ stage_of (codes "a") (codes "1") Staged ∷ []
both_staged told (suc zero) = read_by (codes "b") ∷ stage_of (codes "b") (codes "2") told ∷ []
both_staged told (suc (suc t)) = []

abbrev after_stages : Told → ℕ → List Step
after_stages told = mset_after (both_staged told)

module _ (told : Told) where
  staged_0 : changes_on 4 0 mset_ab (values_read 4 mset_ab (after_stages told)) ≡ puts (codes "a") (codes "1")
  staged_0 = changes_0 (after_stages told) _ _ refl refl

  staged_1 : changes_on 4 1 mset_ab (values_read 4 mset_ab (after_stages told)) ≡ puts (codes "b") (codes "2")
  staged_1 = changes_1 (after_stages told) _ _ refl refl

  staged_2 : changes_on 4 2 mset_ab (values_read 4 mset_ab (after_stages told)) ≡ []
  staged_2 = changes_2 (after_stages told) _ _ refl refl

third_hop_on_0 : due 4 (Single mset_ab) (both_staged Staged) 0 2 ≡ Some Apply
third_hop_on_0 = rw (staged_0 Staged, staged_1 Staged, staged_2 Staged, keys_0, keys_1, keys_2) refl

third_hop_on_1 : due 4 (Single mset_ab) (both_staged Staged) 1 2 ≡ Some Apply
third_hop_on_1 = rw (staged_0 Staged, staged_1 Staged, staged_2 Staged, keys_0, keys_1, keys_2) refl

not_taken_back : due 4 (Single mset_ab) (both_staged Staged) 0 3 ≡ None
not_taken_back = rw (staged_0 Staged, staged_1 Staged, staged_2 Staged, keys_0, keys_1, keys_2) refl

-- where the second shard found no memory both take back what they staged
taken_back_on_0 : due 4 (Single mset_ab) (both_staged NoMemory) 0 3 ≡ Some Unstage
taken_back_on_0 = rw (staged_0 NoMemory, staged_1 NoMemory, staged_2 NoMemory, keys_0, keys_1, keys_2) refl

not_applied : due 4 (Single mset_ab) (both_staged NoMemory) 0 2 ≡ None
not_applied = rw (staged_0 NoMemory, staged_1 NoMemory, staged_2 NoMemory, keys_0, keys_1, keys_2) refl
