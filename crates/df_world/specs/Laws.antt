-- The laws of a world, each of any commands.
use Rattle.std.specs.Prelude.{ℕ, Bool, List}
use Rattle.df_order.specs.Model.{Model, Laws}
use Rattle.df_order.specs.Histories.{Legal, Rising}
use Rattle.df_world.specs.World.{World, Unstaged, first}
use Rattle.df_world.specs.Events.{Event, Happens, after, Runs}
use Rattle.df_world.specs.TheList.{Finds, the_list}
use Rattle.df_world.specs.Sound.{Sound}
use Rattle.df_world.specs.Seen.{Seen}
use Rattle.df_world.specs.Invariant.{Invariant}

-- ---- what events keep

abbrev pub FirstIsSound : Model → Type 0
FirstIsSound M =
    (idle : M.Call) (start : ℕ → M.State) → ((s : ℕ) → Unstaged M s (start s)) → Sound M start (first M idle start)

abbrev pub EventsKeepSound : Model → Type 0
EventsKeepSound M =
    Laws M → (start : ℕ → M.State) (w : World M) (e : Event M) → Sound M start w → Happens M w e →
    Sound M start (after M w e)

-- and so the scheduler invariant, where nothing was staged at first
abbrev pub EventsKeepInvariant : Model → Type 0
EventsKeepInvariant M =
    Laws M → (start : ℕ → M.State) → ((s : ℕ) → Unstaged M s (start s)) → (w : World M) (e : Event M) →
    Sound M start w → Happens M w e → (s : ℕ) → Invariant M (after M w e) start s

-- it holds at each world of a run
abbrev pub RunsKeepInvariant : Model → Type 0
RunsKeepInvariant M =
    Laws M → (idle : M.Call) (start : ℕ → M.State) (events : List (Event M)) (w : World M) →
    ((s : ℕ) → Unstaged M s (start s)) → Runs M (first M idle start) events w → (s : ℕ) → Invariant M w start s

-- ---- the serial order law

-- whatever happened in whatever order, the finished calls are those of one thread that takes them in the order of their
-- numbers; a call that isn't finished is as if it never came
abbrev pub RunsAreLegal : Model → Type 0
RunsAreLegal M =
    Laws M → (idle : M.Call) (start : ℕ → M.State) (events : List (Event M)) (w : World M) →
    ((s : ℕ) → Unstaged M s (start s)) → Runs M (first M idle start) events w → (finished : ℕ → Bool) (replies : ℕ → M.Reply) → Finds M w finished replies →
    Legal M (M.joined start) (the_list M w finished replies)

-- the numbers of that list rise
abbrev pub ListsRise : Model → Type 0
ListsRise M = (w : World M) (finished : ℕ → Bool) (replies : ℕ → M.Reply) → Rising M (the_list M w finished replies)

-- each number is above all that its caller had seen, and so above its caller's earlier ones
abbrev pub RunsAreSeen : Model → Type 0
RunsAreSeen M =
    Laws M → (idle : M.Call) (start : ℕ → M.State) (events : List (Event M)) (w : World M) →
    ((s : ℕ) → Unstaged M s (start s)) → Runs M (first M idle start) events w → Seen M w
