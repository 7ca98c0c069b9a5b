-- What calls do on a shard leaves it its own keys, and no others: a command runs where all its keys stand, and what is
-- staged for one is of its keys there.
use Rattle.std.proofs.Common.{◌≡◌, ℕ, ◌<◌, Bool, true, false, cond, List, [], ◌∷◌, inl, inr, refl, sym, ap, ◌∙◌}
use Rattle.std.specs.Prelude.{Option, None, ◌==◌}
use Rattle.std.proofs.lemmas.Bool.{false≢true, false_from_ne_true, eq-eqb}
use Rattle.std.specs.Ordering.{nat_cmp}
use Rattle.std.specs.Cmp.Lexicographic.{slice_cmp}
use Rattle.std.specs.FinMap.{get-empty}
use Rattle.df_model.specs.Values.{Bytes, Value}
use Rattle.df_model.specs.Words.{same}
use Rattle.df_model.specs.Hash.{shard_of}
use Rattle.df_model.specs.Keyspace.{Keyspace, held, with_held, no_keys}
use Rattle.df_model.specs.Access.{Access, names, among}
use Rattle.df_model.specs.Meaning.{meaning}
use Rattle.df_model.specs.declared.command.Command.{Command}
use Rattle.df_model.specs.declared.command.Call.{Call}
use Rattle.df_model.proofs.LocalityLaws.{others}
use Rattle.df_model.proofs.WholeLaws.{same_map_by, first_among, later_among, held_other}
use Rattle.df_footprints.proofs.ModesLaws.{same_key, named_there, means}
use Rattle.df_order.proofs.Puts.{put_case}
use Rattle.df_log.specs.Acts.{Changes, Act, Told}
use Rattle.df_log.specs.Changes.{with_changes}
use Rattle.df_log.specs.Parts.{Part, own_keys, did, shown, left_staged, shown_after, staged_after, effect}
use Rattle.df_log.specs.declared.entry.Entry.{Entry}
use Rattle.df_book.specs.Weights.{Each}
use Rattle.df_core.specs.Altered.{altered, same_held}
use Rattle.df_core.specs.Courses.{Alone, course_of, keys_on, changes_on}
use Rattle.df_core.specs.Belongs.{MayDo, runs, reads, stages, applies, unstages, walks, counts, begins, stages_none, clears, unstages_none, Tells}
use Rattle.df_core.proofs.CourseLaws.{OnOne, unwritten, flush_means, alone_either}
use Rattle.df_core.proofs.JoinedLaws.{held_own}
use Rattle.df_end.specs.Shards.{loaded}
use Rattle.df_shard.specs.Owns.{OwnPart}

module _ (shards s : ℕ) where
  abbrev Own : Keyspace → Type 0
  Own K = own_keys shards s K ≡ K

  abbrev OwnChanges : Changes → Type 0
  OwnChanges changes = Each (λ (c : Bytes × Option Value). shard_of c.0 shards ≡ s) changes

  -- ---- keyspaces of own keys

  -- they hold nothing at a key of another shard
  none_off : (K : Keyspace) → Own K → (key : Bytes) → (shard_of key shards == s) ≡ false → held K key ≡ None
  none_off K own key off = sym (ap (λ M. held M key) own) ∙ held_own shards s K key ∙ ap (λ b. cond b (held K key) None) off

  -- and which hold nothing there are of own keys
  own_by : (K : Keyspace) → ((key : Bytes) → (shard_of key shards == s) ≡ false → held K key ≡ None) → Own K
  own_by K none = same_map_by (own_keys shards s K) K (λ key. held_own shards s K key ∙ go key (shard_of key shards == s) refl)
    where
      go : (key : Bytes) (b : Bool) → (shard_of key shards == s) ≡ b → cond b (held K key) None ≡ held K key
      go key true here = refl
      go key false off = sym (none key off)

  pub own_no_keys : own_keys shards s no_keys ≡ no_keys
  own_no_keys = own_by no_keys (λ key off. get-empty (slice_cmp nat_cmp) key)

  -- a change of an own key
  pub own_held : (K : Keyspace) (key : Bytes) (v : Option Value) → shard_of key shards ≡ s → own_keys shards s K ≡ K →
      own_keys shards s (with_held K key v) ≡ with_held K key v
  own_held K key v here own = own_by (with_held K key v) (λ q off. held_other K key q v (apart q off) ∙ none_off K own q off)
    where
      apart : (q : Bytes) → (shard_of q shards == s) ≡ false → same key q ≡ false
      apart q off = false_from_ne_true (same key q)
          (λ e. false≢true (sym off ∙ eq-eqb (shard_of q shards) s (ap (λ k. shard_of k shards) (sym (same_key key q e)) ∙ here)))

  own_changed : (changes : Changes) (K : Keyspace) → OwnChanges changes → Own K → Own (with_changes changes K)
  own_changed [] K each own = own
  own_changed (c ∷ changes) K each own = own_held (with_changes changes K) c.0 c.1 each.0 (own_changed changes K each.1 own)

  -- ---- what a command does on a shard

  -- between two keyspaces no keys are changed but those of the list
  own_altered : (old new : Keyspace) (keys : List Bytes) → ((key : Bytes) → among keys key ≡ true → shard_of key shards ≡ s) →
      OwnChanges (altered old new keys)
  own_altered old new [] on = tt
  own_altered old new (key ∷ keys) on =
      go (same_held (held old key) (held new key)) (own_altered old new keys (λ q n. on q (later_among key q keys n)))
    where
      go : (b : Bool) → OwnChanges (altered old new keys) →
          OwnChanges (cond b (altered old new keys) ((key, held new key) ∷ altered old new keys))
      go true each = each
      go false each = (on key (first_among key keys), each)

  own_staged : (command : Command) (K : Keyspace) → OwnChanges (changes_on shards s command K)
  own_staged command K =
      own_altered K (meaning command K).1 (keys_on shards s command) (λ key n. (named_there shards s (command ∷ []) key n).0)

  -- a command all whose keys stand here changes no others
  own_one : (command : Command) (a : Access) → OnOne shards s command a → (K : Keyspace) → Own K → Own (meaning command K).1
  own_one command a one K own =
      own_by (meaning command K).1
      (λ key off. ap (λ m. held m.1 key) (means command a K one.is)
      ∙ others a K key (unwritten a key (unnamed key off))
      ∙ none_off K own key off)
    where
      unnamed : (key : Bytes) → (shard_of key shards == s) ≡ false → among (names a) key ≡ false
      unnamed key off = false_from_ne_true (among (names a) key) (λ n. false≢true (sym off ∙ eq-eqb (shard_of key shards) s (one.on key n)))

  own_ran : (command : Command) → course_of shards command ≡ Alone s → (K : Keyspace) → Own K → Own (meaning command K).1
  own_ran command e K own = elim (alone_either shards s command e) [
    | inl one ↦ own_one command one.0 one.1 K own
    | inr all ↦ ap (λ m. own_keys shards s m.1) (flush_means command all.flush K)
        ∙ own_no_keys
        ∙ sym (ap (λ m. m.1) (flush_means command all.flush K))
  ]

  -- ---- what an act leaves

  module _ (command : Command) where
    own_shown : (act : Act) → MayDo shards s command act → (changes : Changes) (K : Keyspace) → OwnChanges changes → Own K →
        Own (shown act changes K)
    own_shown act (runs e) changes K each own = own_ran command e K own
    own_shown act (reads e) changes K each own = own
    own_shown act (stages L e) changes K each own = own
    own_shown act (applies e) changes K each own = own_changed changes K each own
    own_shown act (unstages e) changes K each own = own
    own_shown act (walks e) changes K each own = own
    own_shown act (counts e) changes K each own = own
    own_shown act (begins e) changes K each own = own
    own_shown act (stages_none e) changes K each own = own
    own_shown act (clears e) changes K each own = own_no_keys
    own_shown act (unstages_none e) changes K each own = own

    own_left : (act : Act) → MayDo shards s command act → (changes : Changes) → OwnChanges changes →
        OwnChanges (left_staged act changes)
    own_left act (runs e) changes each = each
    own_left act (reads e) changes each = each
    own_left act (stages L e) changes each = own_staged command L
    own_left act (applies e) changes each = tt
    own_left act (unstages e) changes each = tt
    own_left act (walks e) changes each = each
    own_left act (counts e) changes each = each
    own_left act (begins e) changes each = each
    own_left act (stages_none e) changes each = tt
    own_left act (clears e) changes each = tt
    own_left act (unstages_none e) changes each = tt

    -- want of memory leaves all as it was
    own_shown_after : (act : Act) (told : Told) → MayDo shards s command act → (changes : Changes) (K : Keyspace) →
        OwnChanges changes → Own K → Own (shown_after act told changes K)
    own_shown_after act told may changes K each own = go (did told)
      where
        go : (b : Bool) → Own (cond b (shown act changes K) K)
        go true = own_shown act may changes K each own
        go false = own

    own_staged_after : (act : Act) (told : Told) → MayDo shards s command act → (changes : Changes) → OwnChanges changes →
        OwnChanges (staged_after act told changes)
    own_staged_after act told may changes each = go (did told)
      where
        go : (b : Bool) → OwnChanges (cond b (left_staged act changes) changes)
        go true = own_left act may changes each
        go false = each

-- ---- the laws of a shard

-- what a call does on a shard leaves it its own keys alone
pub own_stays : (shards s : ℕ) (call : Call) (e : Entry) (x : Part) → 0 < shards → Tells shards s call e x →
    OwnPart shards s x → OwnPart shards s (effect e x)
own_stays shards s call e x some tells own = record {
  visible = own_shown_after shards s tells.0.command e.act e.told tells.0.may (x.staged e.number) x.visible (own.staged e.number) own.visible;
  staged = λ n. put_case (λ (changes : Changes). Each (λ (c : Bytes × Option Value). shard_of c.0 shards ≡ s) changes)
      e.number n (staged_after e.act e.told (x.staged e.number)) x.staged
      (λ _. own_staged_after shards s tells.0.command e.act e.told tells.0.may (x.staged e.number) (own.staged e.number))
      (λ _. own.staged n);
}

-- where nothing ran yet, what was loaded is all that the shard has
pub own_loaded : (shards s : ℕ) (K : Keyspace) → own_keys shards s K ≡ K → OwnPart shards s (loaded K)
own_loaded shards s K own = record { visible = own; staged = λ n. tt }
