-- What each step tells who takes it.
use Rattle.std.specs.Prelude.{◌≡◌, ℕ, suc, ◌^◌, ◌<◌, ◌≤◌, length}
use mathlib.Core.Option.{some, none, Option}
use Rattle.atomic_table.specs.Table.{Me, Step}
use Rattle.df_model.specs.declared.command.Call.{Call}
use Rattle.df_log.specs.declared.entry.Entry.{Entry}
use Rattle.df_book.specs.Weights.{count, Each}
use Rattle.df_book.specs.Logs.{Within, AllBelow}
use Rattle.df_book.specs.Draws.{Numbered, Agreed, OwnAgreed, Bounded}
use Rattle.df_book.specs.Closed.{Settled}
use Rattle.df_book.specs.Shown.{closed_of}
use Rattle.df_book.specs.Views.{noting, drawn, entered, learned}
use Rattle.df_book.specs.declared.draw.Draw.{Draw}
use Rattle.df_book.specs.declared.view.Said.{Said}
use Rattle.df_book.specs.declared.view.Said.TheVariants as said
use Rattle.df_book.specs.declared.view.Note.{Note}
use Rattle.df_book.specs.declared.view.Note.TheVariants as note
use Rattle.df_book.specs.declared.view.View.{View}

abbrev pub Sat : Type 0
Sat = Me Said View

-- ---- notes: what the next step is to do

abbrev pub NotedCut : Step Said → Sat → ℕ → Sat → Type 0
NotedCut s m found m' = m' ≡ (noting m.0 (note.Cut s.first), m.1)

abbrev pub note_said : Option Said → Note
note_said (some (said.Call x)) = note.Draw x.value
note_said (some (said.Entry x)) = note.Enter x.value
note_said none = note.Nothing

abbrev pub NotedSaid : Step Said → Sat → ℕ → Sat → Type 0
NotedSaid s m found m' = m' ≡ (noting m.0 (note_said s.said), m.1)

-- ---- what was noted is done

-- the number is above all that the seat has seen and drawn
abbrev pub Drew : Step Said → Sat → ℕ → Sat → Type 0
Drew s m found m' = (c : Call) → m.0.note ≡ note.Draw c → (m' ≡ (drawn m.0 c found, m.1)) × AllBelow found m.0.seen × Each (λ (d : Draw). d.number < found) m.0.own × (0 < found) × (found < 2 ^ 63) × (count found m.0.made ≡ 0)

abbrev pub Entered : Step Said → Sat → ℕ → Sat → Type 0
Entered s m found m' = (e : Entry) → m.0.note ≡ note.Enter e → m' ≡ (entered m.0 e, m.1)

-- ---- after two seats have become one

-- no log is owned twice
abbrev pub OwnsOnce : View → Type 0
OwnsOnce v = (s : ℕ) → count s v.owns ≤ 1

abbrev pub Learned : Step Said → Sat → ℕ → Sat → Type 0
Learned s m found m' = (m' ≡ (learned m.0, m.1)) × (Within m.0.left m.0.seen × Within m.0.right m.0.seen) × Agreed m.0.known × Bounded m.0.own m.0.made m.0.seen × OwnsOnce m.0 × OwnAgreed m.0.own m.0.known × (m.0.budget < 2 ^ 63)

-- ---- once every pass was joined into the first

abbrev pub EachJoined : View → Type 0
EachJoined v = (v.first ≡ 1) × ((i : ℕ) → i < v.splits → 0 < count i v.sessions)

abbrev pub Counted : Step Said → Sat → ℕ → Sat → Type 0
Counted s m found m' = (m' ≡ m) × (0 < found) × (EachJoined m.0 → Numbered m.0.own × (found ≡ suc (length m.0.own)))

-- no pass that was split off is there twice
abbrev pub SessionsOnce : View → Type 0
SessionsOnce v = (i : ℕ) → count i v.sessions ≤ 1

abbrev pub Settles : Step Said → Sat → ℕ → Sat → Type 0
Settles s m found m' = (m' ≡ m) × (EachJoined m.0 → Settled (closed_of m.0)) × SessionsOnce m.0
