-- A disk with one chosen file: what each call that answered so did, a row an answer.
use Rattle.std.specs.Prelude.{◌≡◌, ℕ, ◌<◌, ◌≤◌, ◌+◌, Bool, true, false, List, Option, Some, None, [], ◌∷◌, ◌++◌, length, take, drop}
use Rattle.df_outside.specs.Faults.{Rose}
use Rattle.df_outside.specs.declared.disks.Done.{Done}
use Rattle.df_outside.specs.declared.disks.Done.TheVariants as done
use Rattle.df_outside.specs.declared.disks.Had.{Had}
use Rattle.df_outside.specs.declared.disks.Had.TheVariants as had

-- the content under the chosen name, or none; the bytes that were appended since `begin`, and whether they are
-- synced; and all contents that were put in place by `replace`, the oldest first
pub record Stored : Type 0 where
  pub file : Option (List ℕ)
  pub fresh : List ℕ
  pub synced : Bool
  pub puts : List (List ℕ)

-- what is told of a disk changes so; a disk that tells nothing goes on telling nothing
abbrev pub Told : Option Stored → Option Stored → (Stored → Stored → Type 0) → Type 0
Told None None P = Unit {0}
Told None (Some new) P = ⊥
Told (Some old) None P = ⊥
Told (Some old) (Some new) P = P old new

-- the file and the contents that were put in place are as before
pub record KeepsFile (old new : Stored) : Type 0 where
  pub file : new.file ≡ old.file
  pub puts : new.puts ≡ old.puts

-- what is appended may be replaced by this, with this mark
pub record Freshens (fresh : List ℕ) (synced : Bool) (old new : Stored) : Type 0 where
  pub keeps : KeepsFile old new
  pub fresh_is : new.fresh ≡ fresh
  pub synced_is : new.synced ≡ synced

-- a call that failed leaves the file; what was appended isn't used before the next `begin`
abbrev pub Fails : Option Stored → Option Stored → ℕ → ℕ → Type 0
Fails old new before now = Told old new KeepsFile × Rose before now

abbrev pub RefusesMemory : Option Stored → Option Stored → ℕ → ℕ → Type 0
RefusesMemory old new before now = Told old new KeepsFile × (before ≤ now)

-- `choose` and `read` leave all
abbrev pub Chooses : Done → Option Stored → Option Stored → ℕ → ℕ → Type 0
Chooses done.Ok old new before now = Told old new (λ a b. b ≡ a) × (before ≤ now)
Chooses done.Failed old new before now = Told old new (λ a b. b ≡ a) × Rose before now
Chooses done.NoMemory old new before now = Told old new (λ a b. b ≡ a) × (before ≤ now)

-- the bytes of the file from this place on stand in front of the buffer
abbrev pub Holds : Option (List ℕ) → ℕ → List ℕ → Type 0
Holds None at front = ⊥
Holds (Some file) at front = (at + length front ≤ length file) × (front ≡ take (length front) (drop at file))

abbrev pub IsPast : Option (List ℕ) → ℕ → Type 0
IsPast None at = ⊥
IsPast (Some file) at = length file ≤ at

abbrev pub HasRead : Had → ℕ → List ℕ → Option Stored → Option Stored → ℕ → ℕ → Type 0
HasRead (had.Took n) at buf old new before now =
    (0 < n) × (n ≤ length buf) × Told old new (λ a b. (b ≡ a) × Holds a.file at (take n buf)) × (before ≤ now)
HasRead had.End at buf old new before now = Told old new (λ a b. (b ≡ a) × IsPast a.file at) × (before ≤ now)
HasRead had.Missing at buf old new before now = Told old new (λ a b. (b ≡ a) × (a.file ≡ None)) × (before ≤ now)
HasRead had.Failed at buf old new before now = Told old new (λ a b. b ≡ a) × Rose before now
HasRead had.NoMemory at buf old new before now = Told old new (λ a b. b ≡ a) × (before ≤ now)

abbrev pub Begins : Done → Option Stored → Option Stored → ℕ → ℕ → Type 0
Begins done.Ok old new before now = Told old new (Freshens [] false) × (before ≤ now)
Begins done.Failed old new before now = Fails old new before now
Begins done.NoMemory old new before now = RefusesMemory old new before now

abbrev pub HasAppended : Done → List ℕ → Option Stored → Option Stored → ℕ → ℕ → Type 0
HasAppended done.Ok piece old new before now = Told old new (λ a b. Freshens (a.fresh ++ piece) false a b) × (before ≤ now)
HasAppended done.Failed piece old new before now = Fails old new before now
HasAppended done.NoMemory piece old new before now = RefusesMemory old new before now

abbrev pub Syncs : Done → Option Stored → Option Stored → ℕ → ℕ → Type 0
Syncs done.Ok old new before now = Told old new (λ a b. Freshens a.fresh true a b) × (before ≤ now)
Syncs done.Failed old new before now = Fails old new before now
Syncs done.NoMemory old new before now = RefusesMemory old new before now

-- what was appended is the file's content now
pub record Replaced (old new : Stored) : Type 0 where
  pub file : new.file ≡ Some old.fresh
  pub puts : new.puts ≡ old.puts ++ old.fresh ∷ []

abbrev pub Replaces : Done → Option Stored → Option Stored → ℕ → ℕ → Type 0
Replaces done.Ok old new before now = Told old new Replaced × (before ≤ now)
Replaces done.Failed old new before now = Fails old new before now
Replaces done.NoMemory old new before now = RefusesMemory old new before now

-- what was appended is synced, where the disk tells it
abbrev pub IsSynced : Option Stored → Type 0
IsSynced None = Unit {0}
IsSynced (Some stored) = stored.synced ≡ true
