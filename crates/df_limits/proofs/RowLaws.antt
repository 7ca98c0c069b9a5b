-- A row that keeps the limits on the keyspace of its keys keeps them on the whole keyspace.
use Rattle.std.proofs.Common.{◌≡◌, ℕ, ◌<◌, Bool, true, false, cond, refl, sym, ◌∙◌, arith}
use Rattle.std.proofs.lemmas.Bool.{eqb-false}
use Rattle.std.specs.Prelude.{Option, Some, None, ◌==◌, if◌then◌else◌}
use Rattle.df_model.specs.Values.{Bytes, Value}
use Rattle.df_model.specs.Keyspace.{Keyspace, held, with_held}
use Rattle.df_model.specs.Framing.{IsWord}
use Rattle.df_model.specs.Outcomes.{KeyRow, Change, Outcome, settled}
use Rattle.df_model.specs.Access.{Access, Meaning, names, among, part, does, on_key, with_change}
use Rattle.df_model.proofs.LocalityLaws.{held_taken_over}
use Rattle.df_limits.specs.Limits.{IsWithin, KeepsLimits}
use Rattle.df_limits.proofs.EachLaws.{each_insert, each_remove, each_retained}

abbrev pub KeyIsWithin : Bytes → Value → Type 0
KeyIsWithin key value = IsWord key × IsWithin value

-- ---- what a key holds

abbrev pub HeldWithin : Option Value → Type 0
HeldWithin None = Unit {0}
HeldWithin (Some value) = IsWithin value

pub held_within : (K : Keyspace) (key : Bytes) → KeepsLimits K → HeldWithin (held K key)
held_within K key keeps = by (held K key) refl
  where
    by : (v : Option Value) → held K key ≡ v → HeldWithin v
    by None e = tt
    by (Some value) e = (keeps key value e).1

pub with_held_keeps : (K : Keyspace) (key : Bytes) (v : Option Value) → IsWord key → HeldWithin v → KeepsLimits K → KeepsLimits (with_held K key v)
with_held_keeps K key None word within keeps = each_remove KeyIsWithin K key keeps
with_held_keeps K key (Some value) word within keeps = each_insert KeyIsWithin K key value (word, within) keeps

-- ---- what becomes of a key

abbrev pub ChangeWithin : Change → Type 0
ChangeWithin Change.Keep = Unit {0}
ChangeWithin (Change.Put value) = IsWithin value
ChangeWithin Change.Delete = Unit {0}

settled_within : (change : Change) (v : Option Value) → ChangeWithin change → HeldWithin v → HeldWithin (settled change v)
settled_within Change.Keep v c h = h
settled_within (Change.Put value) v c h = c
settled_within Change.Delete v c h = tt

pub change_keeps : (key : Bytes) (change : Change) (K : Keyspace) → IsWord key → ChangeWithin change → KeepsLimits K → KeepsLimits (with_change key change K)
change_keeps key change K word within keeps =
    with_held_keeps K key (settled change (held K key)) word (settled_within change (held K key) within (held_within K key keeps)) keeps

-- one of two outcomes, by a test
pub chosen_within : (b : Bool) (one other : Outcome) → (b ≡ true → ChangeWithin one.1) → (b ≡ false → ChangeWithin other.1) → ChangeWithin (if b then one else other).1
chosen_within true one other p q = p refl
chosen_within false one other p q = q refl

-- what would be empty is removed
pub unless_empty : (n : ℕ) (value : Value) → (0 < n → IsWithin value) → ChangeWithin (if n == 0 then Change.Delete else Change.Put value)
unless_empty n value h = by (n == 0) refl
  where
    by : (b : Bool) → (n == 0) ≡ b → ChangeWithin (if b then Change.Delete else Change.Put value)
    by true e = tt
    by false e = h (omega (arith, eqb-false n 0 e))

-- ---- rows

-- a row of one key puts what is within the limits, where the key holds such a value
abbrev pub RowWithin : KeyRow → Type 0
RowWithin (KeyRow.Looks row) = Unit {0}
RowWithin (KeyRow.Changes row) = (v : Option Value) → HeldWithin v → ChangeWithin (row v).1

abbrev pub RowKeeps : (Keyspace → Meaning) → Type 0
RowKeeps row = (K : Keyspace) → KeepsLimits K → KeepsLimits (row K).1

pub does_keeps : (a : Access) → RowKeeps a.row → RowKeeps (does a)
does_keeps a row K keeps key value e =
    let L : Keyspace = part K (names a) in
    let left : KeepsLimits (a.row L).1 = row L (each_retained KeyIsWithin K (among (names a)) keeps) in
    by (among a.writes key) (held (a.row L).1 key) (held K key) (sym (held_taken_over K a.writes (a.row L).1 key) ∙ e) (left key value) (keeps key value)
  where
    by : (b : Bool) (v w : Option Value) → cond b v w ≡ Some value → (v ≡ Some value → KeyIsWithin key value) → (w ≡ Some value → KeyIsWithin key value) → KeyIsWithin key value
    by true v w e p q = p e
    by false v w e p q = q e

pub on_key_keeps : (key : Bytes) (row : KeyRow) → IsWord key → RowWithin row → RowKeeps (on_key key row).row
on_key_keeps key (KeyRow.Looks row) word within K keeps = keeps
on_key_keeps key (KeyRow.Changes row) word within K keeps = change_keeps key (row (held K key)).1 K word (within (held K key) (held_within K key keeps)) keeps
