-- The door since the start, link by link.
use Rattle.std.proofs.Common.{◌≡◌, ℕ, ◌+◌, ◌≤◌, Bool, true, sym, subst, arith}
use Rattle.std.specs.Prelude.{Option, Some, None}
use Rattle.df_outside.specs.Doors.{Hall, OneMore, IsTold, Shuts, StaysOpen}
use Rattle.df_sessions.specs.AllSessions.{AllSessions}
use Rattle.df_sessions.specs.Entries.{GaveSince, EntryFor, Since}
use Rattle.df_sessions.specs.declared.rounds.Entry.{Entry}
use Rattle.df_sessions.specs.declared.rounds.Entry.TheVariants as entries

pub gave_none : (first : Option ℕ) → GaveSince first first 0
gave_none None = tt
gave_none (Some n) = omega arith

gave_more : (first old new : Option ℕ) (n : ℕ) → GaveSince first old n → OneMore old new → GaveSince first new (n + 1)
gave_more None None None n g more = tt
gave_more (Some a) (Some b) (Some c) n g more = omega (arith, g, more)
gave_more None (Some b) new n g more = absurd g
gave_more (Some a) None new n g more = absurd g
gave_more None None (Some c) n g more = absurd more
gave_more (Some a) (Some b) None n g more = absurd more

-- a link came
pub since_entered : (first old new : Hall) (before now : ℕ) → Since first old before entries.Open → OneMore old.given new.given → old.faults ≤ new.faults → now ≡ before + 1 → Since first new now entries.Open
since_entered first old new before now s more le is = record {
  given = subst (GaveSince first.given new.given) (sym is) (gave_more first.given old.given new.given before s.given more);
  faults = omega (arith, s.faults, le);
  entry_is = tt;
}

stays_entry : (entry : Entry) (first old new : Hall) → StaysOpen old new → EntryFor entry first old → EntryFor entry first new
stays_entry entries.Open first old new s e = tt
stays_entry entries.Closed first old new s e = subst (IsTold true) (sym s.shut) e
stays_entry entries.Failed first old new s e = omega (arith, e, s.faults)

-- nothing came
pub since_stays : (entry : Entry) (first old new : Hall) (before now : ℕ) → Since first old before entry → StaysOpen old new → now ≡ before → Since first new now entry
since_stays entry first old new before now s stays is = record {
  given = subst (GaveSince first.given new.given) (sym is) (subst (λ g. GaveSince first.given g before) (sym stays.given) s.given);
  faults = omega (arith, s.faults, stays.faults);
  entry_is = stays_entry entry first old new stays s.entry_is;
}

-- the same door, sessions and entry by other names
pub since_at : (first h h' : Hall) (s s' : AllSessions) (e e' : Entry) → h ≡ h' → s ≡ s' → e ≡ e' → Since first h' s'.count e' → Since first h s.count e
since_at first h h' s s' e e' door sessions entry since =
    subst (λ x. Since first h s.count x) (sym entry)
    (subst (λ (x : AllSessions). Since first h x.count e') (sym sessions) (subst (λ x. Since first x s'.count e') (sym door) since))

pub shut_told : (before now : Option Bool) → Shuts before now → IsTold true now
shut_told None None s = tt
shut_told (Some a) (Some b) s = s
shut_told None (Some b) s = absurd s
shut_told (Some a) None s = absurd s
