-- Which command a Quick's hop is of: no SAVE, and one that the call has.
use Rattle.std.proofs.Common.{◌≡◌, ℕ, ◌<◌, zero, suc, [], ◌∷◌, List, Bool, true, false, length, refl, sym, ap, subst, arith}
use Rattle.std.specs.Prelude.{Some, slice_get}
use Rattle.std.proofs.lemmas.Bool.{false≢true}
use Rattle.df_model.specs.Reads.{IsLinked}
use Rattle.df_model.specs.declared.command.WholeOp.TheVariants as wholes
use Rattle.df_model.specs.declared.command.Command.{Command}
use Rattle.df_model.specs.declared.command.Command.TheVariants.{Plain, One, Many, Whole, Wrong}
use Rattle.df_model.specs.declared.command.Call.{Call}
use Rattle.df_log.specs.Acts.{Act, Run, Read, Stage, Apply, Unstage, Begin, Walk, Count, Clear, Passed, Pull, Saved}
use Rattle.df_core.specs.Belongs.{Belongs, MayDo, runs, reads, stages, applies, unstages, walks, counts, begins, stages_none, clears, unstages_none}
use Rattle.df_core.specs.Courses.{Course, Nowhere, Alone, Spread, Names, Counts, Cuts, Clears, course_of}
use Rattle.df_core.proofs.DueLaws.{due_belongs}
use Rattle.df_hops.specs.Parts.{command_at}
use Rattle.df_shard.specs.Holds.{View, call_act, call_command}
use Rattle.df_shard.specs.Came.{Brought}
use Rattle.df_shard.specs.Served.{IsLinkedAct}
use Rattle.df_shard.proofs.Bare.{some-same, none-some}

-- ---- no SAVE

abbrev command_in : Command → Act → Command
command_in d (Run c) = c
command_in d (Read keys) = d
command_in d (Stage changes) = d
command_in d Apply = d
command_in d Unstage = d
command_in d Begin = d
command_in d Walk = d
command_in d Count = d
command_in d Clear = d
command_in d Passed = d
command_in d Pull = d
command_in d Saved = d

abbrev is_run : Act → Bool
is_run (Run c) = true
is_run (Read keys) = false
is_run (Stage changes) = false
is_run Apply = false
is_run Unstage = false
is_run Begin = false
is_run Walk = false
is_run Count = false
is_run Clear = false
is_run Passed = false
is_run Pull = false
is_run Saved = false

abbrev is_cut : Course → Bool
is_cut Nowhere = false
is_cut (Alone t) = false
is_cut Spread = false
is_cut Names = false
is_cut Counts = false
is_cut Cuts = true
is_cut Clears = false

alone-linked : (shards s : ℕ) (c : Command) → course_of shards c ≡ Alone s → IsLinked c
alone-linked shards s (Plain op) e = refl
alone-linked shards s (One key op) e = refl
alone-linked shards s (Many op) e = refl
alone-linked shards s (Whole wholes.Dbsize) e = refl
alone-linked shards s (Whole (wholes.Keys pattern)) e = refl
alone-linked shards s (Whole wholes.Flushall) e = refl
alone-linked shards s (Whole wholes.Flushdb) e = refl
alone-linked shards s (Whole wholes.Save) e = absurd (false≢true (sym (ap is_cut e)))
alone-linked shards s (Wrong error) e = refl

linked : (shards s : ℕ) (command : Command) (act : Act) → MayDo shards s command act → (c : Command) → act ≡ Run c → IsLinked c
linked shards s command act (runs e) c is = alone-linked shards s c (subst (λ d. course_of shards d ≡ Alone s) (ap (command_in c) is) e)
linked shards s command act (reads e) c is = absurd (false≢true (ap is_run is))
linked shards s command act (stages K e) c is = absurd (false≢true (ap is_run is))
linked shards s command act (applies e) c is = absurd (false≢true (ap is_run is))
linked shards s command act (unstages e) c is = absurd (false≢true (ap is_run is))
linked shards s command act (walks e) c is = absurd (false≢true (ap is_run is))
linked shards s command act (counts e) c is = absurd (false≢true (ap is_run is))
linked shards s command act (begins e) c is = absurd (false≢true (ap is_run is))
linked shards s command act (stages_none e) c is = absurd (false≢true (ap is_run is))
linked shards s command act (clears e) c is = absurd (false≢true (ap is_run is))
linked shards s command act (unstages_none e) c is = absurd (false≢true (ap is_run is))

-- what a call may do is none that a shard doesn't run
pub linked-act : (shards s : ℕ) (call : Call) (act : Act) → Belongs shards s call act → IsLinkedAct act
linked-act shards s call act b = go act b.may
  where
    go : (act : Act) → MayDo shards s b.command act → IsLinkedAct act
    go act (runs e) = alone-linked shards s b.command e
    go act (reads e) = tt
    go act (stages K e) = tt
    go act (applies e) = tt
    go act (unstages e) = tt
    go act (walks e) = tt
    go act (counts e) = tt
    go act (begins e) = tt
    go act (stages_none e) = tt
    go act (clears e) = tt
    go act (unstages_none e) = tt

pub brought-linked : (x : View) (n hop : ℕ) (call : Call) → Brought x n hop call → IsLinked (call_command call hop)
brought-linked x n hop call b =
    let d = due_belongs x.shards call (λ i. []) x.index hop (call_act call hop) b.is_due in
    linked x.shards x.index d.command (call_act call hop) d.may (call_command call hop) refl

-- ---- one that the call has

-- past the last command stands a SAVE
pub linked-inside : (commands : List Command) (i : ℕ) → IsLinked (command_at commands i) → i < length commands
linked-inside [] i l = absurd (false≢true (sym l))
linked-inside (c ∷ commands) zero l = omega arith
linked-inside (c ∷ commands) (suc i) l = omega (arith, linked-inside commands i l)

pub command-got : (commands : List Command) (i : ℕ) (c : Command) → slice_get commands i ≡ Some c → command_at commands i ≡ c
command-got [] i c e = absurd (none-some c e)
command-got (d ∷ commands) zero c e = some-same d c e
command-got (d ∷ commands) (suc i) c e = command-got commands i c e

pub command-alone : (c : Command) (i : ℕ) → IsLinked (command_at (c ∷ []) i) → command_at (c ∷ []) i ≡ c
command-alone c zero l = refl
command-alone c (suc i) l = absurd (false≢true (sym l))
