-- A command that ran on what was told changes on each shard what it changes on all shards together.
use Rattle.std.proofs.Common.{◌≡◌, ℕ, zero, suc, ◌+◌, ◌<◌, ◌≤◌, Bool, true, false, cond, List, [], ◌∷◌, ◌++◌, map, length, inl, inr, refl, sym, ap, subst, ◌∙◌, arith}
use Rattle.std.specs.Prelude.{Option, Some, None, ◌||◌, ◌&&◌, T}
use Rattle.std.proofs.lemmas.Bool.{false≢true, or_left, or_right, or_cases, false_from_ne_true}
use Rattle.std.proofs.lemmas.List.{length-map}
use Rattle.std.specs.Ordering.{nat_cmp, is_lt, is_eq}
use Rattle.std.specs.declared.cmp.Ordering.{Ordering}
use Rattle.std.specs.declared.cmp.Ordering.TheVariants.{Less, Equal, Greater}
use Rattle.std.specs.Cmp.Lexicographic.{slice_cmp}
use Rattle.std.specs.FinMap.{entries_sorted, is_sorted}
use Rattle.std.specs.FinMap.Entries.{below_all}
use Rattle.std.specs.FinMap as fin
use Rattle.df_model.specs.Values.{Bytes}
use Rattle.df_model.specs.Words.{same}
use Rattle.df_model.specs.Hash.{shard_of}
use Rattle.df_model.specs.Spared.{Spared}
use Rattle.df_model.specs.Keyspace.{Keyspace, held, no_keys}
use Rattle.df_model.specs.Access.{Access, among}
use Rattle.df_model.specs.Meaning.{meaning}
use Rattle.df_model.specs.Replies.{encoding_of}
use Rattle.df_model.specs.declared.command.Command.{Command}
use Rattle.df_model.specs.declared.keys.Mode.{Mode}
use Rattle.df_model.specs.declared.keys.Mode.TheVariants.{Shared, Exclusive}
use Rattle.df_model.proofs.LocalityLaws.{others, same_itself}
use Rattle.df_model.proofs.WholeLaws.{neither, tied_is_same}
use Rattle.df_order.specs.Lists.{Has}
use Rattle.df_order.proofs.Lists.{has_left}
use Rattle.df_footprints.specs.Asks.{asks_for, writes, is_exclusive}
use Rattle.df_footprints.specs.Footprints.{access_of, named, keys_of, keys_of_all, modes_on}
use Rattle.df_footprints.proofs.ModesLaws.{same_key, exclusive_in, named_there, means, written_there}
use Rattle.df_values.specs.declared.value.Value.{Value}
use Rattle.df_log.specs.Acts.{Changes, Told}
use Rattle.df_core.specs.Altered.{same_held, altered}
use Rattle.df_core.specs.Courses.{changes_on}
use Rattle.df_core.proofs.AlteredLaws.{held_itself}
use Rattle.df_table.specs.Responses.{Gives}
use Rattle.df_rounds.specs.Standing.{values_told}
use Rattle.df_spread.specs.Spread.{modes_at, changes_seen, changes_at, KeysStand, ValuesStand, TellsAll, RunsOver}
use Rattle.df_spread.specs.Gathered.{keys_in, gathered}
use Rattle.df_spread.specs.Written.{to_write, held_by, changed, keys_of_changes, IsEachOnce, among_all, AreApart}
use Rattle.df_spread.proofs.GatherLaws.{gathered_all}
use Rattle.df_spread.proofs.WrittenLaws.{keys-held}

-- ---- the keys of a shard stand there once

both_so : (a b : Bool) → T (a && b) → T a × T b
both_so true b h = (tt, h)
both_so false b h = absurd h

below_first : (o : Ordering) (b : Bool) → T (is_lt o && b) → (is_eq o ≡ false) × T b
below_first Less b h = (refl, h)
below_first Equal b h = absurd h
below_first Greater b h = absurd h

below-among : (key : Bytes) (modes : List (Bytes × Mode)) → T (below_all (slice_cmp nat_cmp) key modes) → among (keys_in modes) key ≡ false
below-among key [] h = refl
below-among key (m ∷ modes) h =
    let first = below_first (slice_cmp nat_cmp key m.0) (below_all (slice_cmp nat_cmp) key modes) h in
    ap (λ b. b || among (keys_in modes) key) (sym (tied_is_same key m.0) ∙ first.0) ∙ below-among key modes first.1

sorted_once : (modes : List (Bytes × Mode)) → T (is_sorted (slice_cmp nat_cmp) modes) → IsEachOnce (keys_in modes)
sorted_once [] h = tt
sorted_once (m ∷ modes) h =
    let parts = both_so (below_all (slice_cmp nat_cmp) m.0 modes) (is_sorted (slice_cmp nat_cmp) modes) h in
    (below-among m.0 modes parts.0, sorted_once modes parts.1)

-- so do those that may be written
written-among : (modes : List (Bytes × Mode)) (key : Bytes) → among (keys_in modes) key ≡ false → among (to_write modes) key ≡ false
written-among [] key e = refl
written-among (m ∷ modes) key e =
    let apart = neither (same m.0 key) (among (keys_in modes) key) e in
    go (is_exclusive m.1) apart.0 (written-among modes key apart.1)
  where
    go : (b : Bool) → same m.0 key ≡ false → among (to_write modes) key ≡ false → among (cond b (m.0 ∷ to_write modes) (to_write modes)) key ≡ false
    go true here rest = ap (λ b. b || among (to_write modes) key) here ∙ rest
    go false here rest = rest

written_once : (modes : List (Bytes × Mode)) → IsEachOnce (keys_in modes) → IsEachOnce (to_write modes)
written_once [] h = tt
written_once (m ∷ modes) h = go (is_exclusive m.1) (written-among modes m.0 h.0) (written_once modes h.1)
  where
    go : (b : Bool) → among (to_write modes) m.0 ≡ false → IsEachOnce (to_write modes) → IsEachOnce (cond b (m.0 ∷ to_write modes) (to_write modes))
    go true here rest = (here, rest)
    go false here rest = rest

-- ---- and on no other shard

module _ (shards : ℕ) (command : Command) (K : Keyspace) where
  abbrev written : List (Spared (Bytes × Mode)) → List Changes
  written keys = map (λ modes. held_by K (to_write modes.items)) keys

  abbrev StandFrom : ℕ → List (Spared (Bytes × Mode)) → Type 0
  StandFrom t keys = (s : ℕ) → s < length keys → modes_at keys s ≡ fin.entries (modes_on shards (t + s) (command ∷ []))

  behind : (t : ℕ) (modes : Spared (Bytes × Mode)) (keys : List (Spared (Bytes × Mode))) → StandFrom t (modes ∷ keys) → StandFrom (suc t) keys
  behind t modes keys stand s lt =
      let next : t + suc s ≡ suc t + s = omega arith in
      stand (suc s) (omega arith) ∙ ap (λ u. fin.entries (modes_on shards u (command ∷ []))) next

  first : (t : ℕ) (modes : Spared (Bytes × Mode)) (keys : List (Spared (Bytes × Mode))) → StandFrom t (modes ∷ keys) →
      modes.items ≡ fin.entries (modes_on shards t (command ∷ []))
  first t modes keys stand =
      let same : t + 0 ≡ t = omega arith in
      stand zero (omega arith) ∙ ap (λ u. fin.entries (modes_on shards u (command ∷ []))) same

  on_shard : (t : ℕ) (modes : List (Bytes × Mode)) (key : Bytes) → modes ≡ fin.entries (modes_on shards t (command ∷ [])) →
      among (keys_of_changes (held_by K (to_write modes))) key ≡ true → shard_of key shards ≡ t
  on_shard t modes key is h =
      (named_there shards t (command ∷ []) key (
      ap (λ l. among (keys_in l) key) (sym is) ∙ there (among (keys_in modes) key) refl)).0
    where
      there : (b : Bool) → among (keys_in modes) key ≡ b → among (keys_in modes) key ≡ true
      there true e = e
      there false e =
          absurd (false≢true (sym (written-among modes key e) ∙ sym (ap (λ l. among l key) (keys-held K (to_write modes))) ∙ h))

  not_before : (t : ℕ) (keys : List (Spared (Bytes × Mode))) → StandFrom t keys → (key : Bytes) →
      among_all (written keys) key ≡ true → t ≤ shard_of key shards
  not_before t [] stand key h = absurd (false≢true h)
  not_before t (modes ∷ keys) stand key h =
      elim (or_cases (among (keys_of_changes (held_by K (to_write modes.items))) key) (among_all (written keys) key) h) [
        | inl here ↦ let e : shard_of key shards ≡ t = on_shard t modes.items key (first t modes keys stand) here in omega arith
        | inr there ↦ let le : suc t ≤ shard_of key shards = not_before (suc t) keys (behind t modes keys stand) key there in omega arith
      ]

  apart_from : (t : ℕ) (keys : List (Spared (Bytes × Mode))) → StandFrom t keys → AreApart (written keys)
  apart_from t [] stand = tt
  apart_from t (modes ∷ keys) stand = (once, elsewhere, apart_from (suc t) keys (behind t modes keys stand))
    where
      once : IsEachOnce (keys_of_changes (held_by K (to_write modes.items)))
      once = subst IsEachOnce (sym (keys-held K (to_write modes.items))) (
          written_once modes.items (subst (λ l. IsEachOnce (keys_in l)) (sym (first t modes keys stand))
          (sorted_once (fin.entries (modes_on shards t (command ∷ []))) (entries_sorted (modes_on shards t (command ∷ []))))))

      elsewhere : (key : Bytes) → among (keys_of_changes (held_by K (to_write modes.items))) key ≡ true → among_all (written keys) key ≡ false
      elsewhere key here = false_from_ne_true (among_all (written keys) key) (λ there.
          let e : shard_of key shards ≡ t = on_shard t modes.items key (first t modes keys stand) here in
          let le : suc t ≤ shard_of key shards = not_before (suc t) keys (behind t modes keys stand) key there in
          absurd (omega arith))

  -- no key that may be written stands twice
  pub all_apart : (keys : List (Spared (Bytes × Mode))) → KeysStand shards command keys → AreApart (written keys)
  all_apart keys stand =
      let count : length keys ≡ shards = stand.count in
      apart_from zero keys (λ s lt.
      let next : s ≡ zero + s = omega arith in
      stand.each s (omega arith) ∙ ap (λ u. fin.entries (modes_on shards u (command ∷ []))) next)

-- ---- a key that is only read holds the same after the command

never : (b : Bool) → ((b && false) || false) ≡ false
never true = refl
never false = refl

unnamed-writes : (modes : List (Bytes × Mode)) (key : Bytes) → among (keys_in modes) key ≡ false → writes (asks_for modes) key ≡ false
unnamed-writes [] key e = refl
unnamed-writes (m ∷ modes) key e =
    let apart = neither (same m.0 key) (among (keys_in modes) key) e in
    ap (λ b. (is_exclusive m.1 && b) || writes (asks_for modes) key) apart.0
    ∙ ap (λ b. (is_exclusive m.1 && false) || b) (unnamed-writes modes key apart.1)
    ∙ never (is_exclusive m.1)

named_so : (modes : List (Bytes × Mode)) (key : Bytes) (mode : Mode) → Has modes (key, mode) → among (keys_in modes) key ≡ true
named_so [] key mode h = absurd h
named_so (m ∷ modes) key mode (inl e) = or_left (same m.0 key) (among (keys_in modes) key) (ap (λ n. same n.0 key) e ∙ same_itself key)
named_so (m ∷ modes) key mode (inr h) = or_right (same m.0 key) (among (keys_in modes) key) (named_so modes key mode h)

read-writes : (modes : List (Bytes × Mode)) (key : Bytes) → IsEachOnce (keys_in modes) → Has modes (key, Shared) → writes (asks_for modes) key ≡ false
read-writes [] key once h = absurd h
read-writes (m ∷ modes) key once (inl e) =
    ap (λ n. (is_exclusive n.1 && same n.0 key) || writes (asks_for modes) key) e
    ∙ unnamed-writes modes key (sym (ap (λ n. among (keys_in modes) n.0) e) ∙ once.0)
read-writes (m ∷ modes) key once (inr h) =
    let apart : same m.0 key ≡ false =
    false_from_ne_true (same m.0 key)
    (λ e. false≢true (sym once.0 ∙ ap (among (keys_in modes)) (same_key m.0 key e) ∙ named_so modes key Shared h)) in
    ap (λ b. (is_exclusive m.1 && b) || writes (asks_for modes) key) apart
    ∙ ap (λ b. (is_exclusive m.1 && false) || b) (read-writes modes key once.1 h)
    ∙ never (is_exclusive m.1)

module _ (shards s : ℕ) (command : Command) (K : Keyspace) where
  abbrev modes_here : List (Bytes × Mode)
  modes_here = fin.entries (modes_on shards s (command ∷ []))

  read_stays : (key : Bytes) → Has modes_here (key, Shared) → held K key ≡ held (meaning command K).1 key
  read_stays key h = go (access_of command) refl
    where
      here : (shard_of key shards ≡ s) × ((mode : Mode) × Has (keys_of_all (command ∷ [])) (key, mode))
      here = named_there shards s (command ∷ []) key (named_so modes_here key Shared h)

      go : (o : Option Access) → access_of command ≡ o → held K key ≡ held (meaning command K).1 key
      go None e = absurd (subst (λ o. Has (named o ++ []) (key, here.1.0)) e here.1.1)
      go (Some a) e = sym (ap (λ m. held m.1 key) (means command a K e) ∙ others a K key unwritten)
        where
          unwritten : among a.writes key ≡ false
          unwritten = false_from_ne_true (among a.writes key) (λ w.
              false≢true (sym (read-writes modes_here key (sorted_once modes_here (entries_sorted (modes_on shards s (command ∷ [])))) h)
              ∙ written_there shards s (command ∷ []) key
              (has_left (keys_of command) [] (key, Exclusive) (subst (λ o. Has (named o) (key, Exclusive)) (sym e) (exclusive_in a key w)))
              here.0))

-- ---- what changed is what the command changes

changed_written : (old new : Keyspace) (modes : List (Bytes × Mode)) →
    ((key : Bytes) → Has modes (key, Shared) → held old key ≡ held new key) →
    changed new (held_by old (to_write modes)) ≡ altered old new (keys_in modes)
changed_written old new [] stays = refl
changed_written old new (m ∷ modes) stays = go m.1 refl (changed_written old new modes (λ key h. stays key (inr h)))
  where
    go : (mode : Mode) → m.1 ≡ mode → changed new (held_by old (to_write modes)) ≡ altered old new (keys_in modes) →
        changed new (held_by old (cond (is_exclusive mode) (m.0 ∷ to_write modes) (to_write modes))) ≡ altered old new (m.0 ∷ keys_in modes)
    go Exclusive e rest = ap (λ l. cond (same_held (held old m.0) (held new m.0)) l ((m.0, held new m.0) ∷ l)) rest
    go Shared e rest =
        let same : same_held (held old m.0) (held new m.0) ≡ true =
        ap (same_held (held old m.0)) (sym (stays m.0 (inl (ap (λ mode. (m.0, mode)) e)))) ∙ held_itself (held old m.0) in
        rest ∙ sym (ap (λ b. cond b (altered old new (keys_in modes)) ((m.0, held new m.0) ∷ altered old new (keys_in modes))) same)

-- ---- shard by shard

abbrev entry_at : List Changes → ℕ → Changes
entry_at [] s = []
entry_at (changes ∷ more) zero = changes
entry_at (changes ∷ more) (suc s) = entry_at more s

module _ where
  seen_at : (made : List (Spared (Bytes × Option Value))) (s : ℕ) →
      changes_seen (changes_at made s) ≡ entry_at (map (λ c. changes_seen c.items) made) s
  seen_at [] s = refl
  seen_at (c ∷ made) zero = refl
  seen_at (c ∷ made) (suc s) = seen_at made s

  made_at : (F : List (Bytes × Mode) → Changes) → F [] ≡ [] → (keys : List (Spared (Bytes × Mode))) (s : ℕ) →
      entry_at (map (λ modes. F modes.items) keys) s ≡ F (modes_at keys s)
  made_at F none [] s = sym none
  made_at F none (modes ∷ keys) zero = refl
  made_at F none (modes ∷ keys) (suc s) = made_at F none keys s

fused : (F : Changes → Changes) (G : List (Bytes × Mode) → Changes) (keys : List (Spared (Bytes × Mode))) →
    map F (map (λ modes. G modes.items) keys) ≡ map (λ modes. F (G modes.items)) keys
fused F G [] = refl
fused F G (modes ∷ keys) = ap (λ l. F (G modes.items) ∷ l) (fused F G keys)

-- the whole: what was told is gathered, copies of what may be written are taken, the command runs, and what changed is taken
pub runs_over : (shards : ℕ) (command : Command) (keys : List (Spared (Bytes × Mode))) (values : List (Spared (Option Value)))
    (told : ℕ → Told) (before after : Keyspace) (copies made : List (Spared (Bytes × Option Value))) (bytes : Bytes) →
    KeysStand shards command keys → ValuesStand keys values → TellsAll told values → before ≡ gathered keys values no_keys →
    map (λ w. changes_seen w.items) copies ≡ map (λ modes. held_by before (to_write modes.items)) keys →
    Gives (meaning command before) after bytes →
    map (λ c. changes_seen c.items) made ≡ map (changed after) (map (λ w. changes_seen w.items) copies) →
    RunsOver shards command told made bytes
runs_over shards command keys values told before after copies made bytes stand as_long tells gather copied gives took = record {
  reply = gives.says ∙ ap (λ K. encoding_of (meaning command K).0) is;
  count = sym (length-map made (λ c. changes_seen c.items)) ∙ ap length all ∙ length-map keys (λ modes. changed after (held_by before (to_write modes.items))) ∙ stand.count;
  changes = λ s lt.
      seen_at made s
      ∙ ap (λ l. entry_at l s) all
      ∙ made_at (λ modes. changed after (held_by before (to_write modes))) refl keys s
      ∙ ap (λ modes. changed after (held_by before (to_write modes))) (stand.each s lt)
      ∙ ap (λ K. changed K (held_by before (to_write (modes_here shards s command before)))) gives.leaves
      ∙ changed_written before (meaning command before).1 (modes_here shards s command before) (read_stays shards s command before)
      ∙ ap (λ K. changes_on shards s command K) is;
}
  where
    is : before ≡ values_told shards command told
    is = gather ∙ gathered_all shards command told keys values stand as_long tells

    all : map (λ c. changes_seen c.items) made ≡ map (λ modes. changed after (held_by before (to_write modes.items))) keys
    all = took ∙ ap (map (changed after)) copied ∙ fused (changed after) (λ modes. held_by before (to_write modes)) keys
