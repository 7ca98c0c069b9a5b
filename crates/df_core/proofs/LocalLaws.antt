-- What an act of a call looks at and changes on a shard is what the call asks for there; and acts that keep off each
-- other's keys change places.
use Rattle.std.proofs.Common.{◌≡◌, ◌≢◌, inl, inr, ℕ, ◌<◌, Bool, true, false, cond, List, [], ◌∷◌, refl, sym, ap, subst, ◌∙◌, append-nil}
use Rattle.std.specs.Prelude.{Some}
use Rattle.std.proofs.lemmas.Bool.{false≢true}
use Rattle.df_model.specs.Values.{Bytes}
use Rattle.df_model.specs.Hash.{shard_of}
use Rattle.df_model.specs.Keyspace.{Keyspace, held}
use Rattle.df_model.specs.Access.{Access, names, among, does}
use Rattle.df_model.specs.Meaning.{meaning, one}
use Rattle.df_model.specs.declared.command.Command.{Command}
use Rattle.df_model.specs.declared.command.Call.{Call}
use Rattle.df_model.specs.declared.keys.Mode.{Mode}
use Rattle.df_model.specs.declared.keys.Mode.TheVariants.{Exclusive}
use Rattle.df_model.proofs.LocalityLaws.{same_reply, same_left, others, within}
use Rattle.df_model.proofs.WholeLaws.{same_map_by}
use Rattle.df_order.specs.Lists.{Has}
use Rattle.df_order.specs.Puts.{put}
use Rattle.df_order.proofs.Puts.{put_other, put_swap}
use Rattle.df_footprints.specs.Asks.{Ask, touches, writes}
use Rattle.df_footprints.specs.Footprints.{access_of, named, keys_of, keys_of_all, all_of_op, whole_mode, commands_of}
use Rattle.df_footprints.proofs.ModesLaws.{named_in_mode, exclusive_in, named_there, means}
use Rattle.df_footprints.proofs.ConflictLaws.{writes-touches}
use Rattle.df_log.specs.Acts.{Changes, Act, Run, Read, Stage, Apply, Unstage, Begin, Walk, Count, Clear, Told, Ran, Values}
use Rattle.df_log.specs.Changes.{change_of}
use Rattle.df_log.specs.Parts.{Part, did, shown, shown_after, staged_after, after_act, IsTold, ran, read, staged, applied, unstaged, wanted}
use Rattle.df_core.specs.Courses.{course_of, keys_on, changes_on}
use Rattle.df_core.specs.Belongs.{MayDo, runs, reads, stages, applies, unstages, walks, counts, begins, stages_none, clears, unstages_none, Belongs, asks_on, Inside}
use Rattle.df_core.proofs.CourseLaws.{unwritten, OnOne, OfAll, alone_either, is_whole, whole_of, flushes, flush_writes}
use Rattle.df_core.proofs.KeysLaws.{map_alike}
use Rattle.df_core.proofs.AlteredLaws.{changed_to, held_changed}
use Rattle.df_core.proofs.AsksLaws.{touches_named, writes_named, touches_all, writes_all}

-- ---- what an act looks at, and what it changes

-- two keyspaces agree at the keys that are asked for
abbrev pub Agree : List Ask → Keyspace → Keyspace → Type 0
Agree allowed K L = (key : Bytes) → touches allowed key ≡ true → held K key ≡ held L key

-- An act on a shard changes no key but those that it is allowed to write; and what it leaves and what it is told at the
-- keys that it is allowed to look at hangs on these keys alone.
pub record Local (shards s : ℕ) (allowed : List Ask) (act : Act) : Type 0 where
  pub leaves : (told : Told) (changes : Changes) (K : Keyspace) → Inside allowed changes → (key : Bytes) →
      writes allowed key ≡ false → held (shown_after act told changes K) key ≡ held K key
  pub sees : (told : Told) (changes : Changes) (K L : Keyspace) → Agree allowed K L →
      Agree allowed (shown_after act told changes K) (shown_after act told changes L)
  pub tells : (K L : Keyspace) (told : Told) → Agree allowed K L → IsTold shards s K act told → IsTold shards s L act told

-- the act of the call with this number fits on what the shard holds, and is allowed this
pub record FitsLocal (shards s : ℕ) (allowed : List Ask) (number : ℕ) (act : Act) (told : Told) (x : Part) : Type 0 where
  pub local : Local shards s allowed act
  pub inside : Inside allowed (x.staged number)
  pub told_so : IsTold shards s x.visible act told

-- ---- acts change places

unless : (a b : Bool) → (a ≡ true → b ≡ false) → b ≡ true → a ≡ false
unless true b f h = absurd (false≢true (sym (f refl) ∙ h))
unless false b f h = refl

-- of two tests that follow
pub unless_true : (a b : Bool) → (a ≡ true → b ≡ true) → b ≡ false → a ≡ false
unless_true true b f h = absurd (false≢true (sym h ∙ f refl))
unless_true false b f h = refl

module _ (shards s : ℕ) (mine yours : List Ask) (a b : Act) (i j : Told) (n m : ℕ) (x : Part) where
  -- the second first, and then the first
  pub record Traded : Type 0 where
    pub first : FitsLocal shards s yours m b j x
    pub second : FitsLocal shards s mine n a i (after_act m b j x)
    pub same : after_act m b j (after_act n a i x) ≡ after_act n a i (after_act m b j x)

  -- the acts of two numbers change places where each keeps off the keys that the other may write
  pub trade : ((key : Bytes) → writes mine key ≡ true → touches yours key ≡ false) →
      ((key : Bytes) → writes yours key ≡ true → touches mine key ≡ false) → n ≢ m → FitsLocal shards s mine n a i x →
      FitsLocal shards s yours m b j (after_act n a i x) → Traded
  trade mine_off yours_off ne p q = record {
    first = record { local = q.local; inside = inside_m; told_so = q.local.tells a_map x.visible j a_agrees q.told_so };
    second = record {
      local = p.local;
      inside = λ key h. ap (λ c. change_of c key) other_n ∙ p.inside key h;
      told_so = p.local.tells x.visible b_map i (λ key h. sym (b_agrees key h)) p.told_so;
    };
    same = λ d. record {
      visible = same_map_by (after_act m b j (after_act n a i x)).visible
          (after_act n a i (after_act m b j x)).visible visible d;
      staged = λ k. stages k d;
    };
  }
    where
      other_m : (after_act n a i x).staged m ≡ x.staged m
      other_m = put_other n m (staged_after a i (x.staged n)) x.staged (λ e. ne (sym e))

      other_n : (after_act m b j x).staged n ≡ x.staged n
      other_n = put_other m n (staged_after b j (x.staged m)) x.staged ne

      inside_m : Inside yours (x.staged m)
      inside_m key h = sym (ap (λ c. change_of c key) other_m) ∙ q.inside key h

      a_map : Keyspace
      a_map = shown_after a i (x.staged n) x.visible

      b_map : Keyspace
      b_map = shown_after b j (x.staged m) x.visible

      a_agrees : Agree yours a_map x.visible
      a_agrees key h = p.local.leaves i (x.staged n) x.visible p.inside key (unless (writes mine key) (touches yours key) (mine_off key) h)

      b_agrees : Agree mine b_map x.visible
      b_agrees key h = q.local.leaves j (x.staged m) x.visible inside_m key (unless (writes yours key) (touches mine key) (yours_off key) h)

      visible_at : (key : Bytes) (c d : Bool) → writes yours key ≡ c → writes mine key ≡ d →
          held (shown_after b j (x.staged m) a_map) key ≡ held (shown_after a i (x.staged n) b_map) key
      visible_at key true d v w =
          q.local.sees j (x.staged m) a_map x.visible a_agrees key (writes-touches yours key v)
          ∙ sym (p.local.leaves i (x.staged n) b_map p.inside key
          (unless_true (writes mine key) (touches mine key) (writes-touches mine key) (yours_off key v)))
      visible_at key false true v w =
          q.local.leaves j (x.staged m) a_map inside_m key v
          ∙ sym (p.local.sees i (x.staged n) b_map x.visible b_agrees key (writes-touches mine key w))
      visible_at key false false v w =
          q.local.leaves j (x.staged m) a_map inside_m key v
          ∙ p.local.leaves i (x.staged n) x.visible p.inside key w
          ∙ sym (q.local.leaves j (x.staged m) x.visible inside_m key v)
          ∙ sym (p.local.leaves i (x.staged n) b_map p.inside key w)

      visible : (key : Bytes) →
          held (after_act m b j (after_act n a i x)).visible key ≡ held (after_act n a i (after_act m b j x)).visible key
      visible key =
          ap (λ c. held (shown_after b j c a_map) key) other_m
          ∙ visible_at key (writes yours key) (writes mine key) refl refl
          ∙ sym (ap (λ c. held (shown_after a i c b_map) key) other_n)

      stages : (k : ℕ) → (after_act m b j (after_act n a i x)).staged k ≡ (after_act n a i (after_act m b j x)).staged k
      stages k =
          ap (λ c. put m (staged_after b j c) (put n (staged_after a i (x.staged n)) x.staged) k) other_m
          ∙ put_swap n m (staged_after a i (x.staged n)) (staged_after b j (x.staged m)) x.staged k ne
          ∙ sym (ap (λ c. put n (staged_after a i c) (put m (staged_after b j (x.staged m)) x.staged) k) other_n)

-- ---- each act is local

-- what is shown hangs on the answer only so far as want of memory shows nothing
module _ (act : Act) (allowed : List Ask) where
  leaves_told : ((changes : Changes) (K : Keyspace) → Inside allowed changes → (key : Bytes)
      → writes allowed key ≡ false → held (shown act changes K) key ≡ held K key) →
      (told : Told) (changes : Changes) (K : Keyspace) → Inside allowed changes → (key : Bytes) →
      writes allowed key ≡ false → held (shown_after act told changes K) key ≡ held K key
  leaves_told leaves told changes K inside key w = go (did told)
    where
      go : (b : Bool) → held (cond b (shown act changes K) K) key ≡ held K key
      go true = leaves changes K inside key w
      go false = refl

  sees_told : ((changes : Changes) (K L : Keyspace) → Agree allowed K L → Agree allowed (shown act changes K) (shown act changes L)) →
      (told : Told) (changes : Changes) (K L : Keyspace) → Agree allowed K L →
      Agree allowed (shown_after act told changes K) (shown_after act told changes L)
  sees_told sees told changes K L agree key t = go (did told)
    where
      go : (b : Bool) → held (cond b (shown act changes K) K) key ≡ held (cond b (shown act changes L) L) key
      go true = sees changes K L agree key t
      go false = agree key t

module _ (shards s : ℕ) (allowed : List Ask) where
  -- an act that shows nothing
  quiet : (act : Act) → ((changes : Changes) (K : Keyspace) → shown act changes K ≡ K) →
      ((K L : Keyspace) (told : Told) → Agree allowed K L → IsTold shards s K act told → IsTold shards s L act told) →
      Local shards s allowed act
  quiet act stays tells = record {
    leaves = leaves_told act allowed (λ changes K inside key w. ap (λ M. held M key) (stays changes K));
    sees = sees_told act allowed
        (λ changes K L agree key t. ap (λ M. held M key) (stays changes K) ∙ agree key t ∙ sym (ap (λ M. held M key) (stays changes L)));
    tells = tells;
  }

  staging : (changes : Changes) → Local shards s allowed (Stage changes)
  staging changes = quiet (Stage changes) (λ c K. refl) (tells changes)
    where
      tells : (changes : Changes) (K L : Keyspace) (told : Told) → Agree allowed K L →
          IsTold shards s K (Stage changes) told → IsTold shards s L (Stage changes) told
      tells changes K L told agree (staged c) = staged c
      tells changes K L told agree (wanted act e) = wanted act e

  unstaging : Local shards s allowed Unstage
  unstaging = quiet Unstage (λ c K. refl) tells
    where
      tells : (K L : Keyspace) (told : Told) → Agree allowed K L → IsTold shards s K Unstage told → IsTold shards s L Unstage told
      tells K L told agree unstaged = unstaged
      tells K L told agree (wanted act e) = wanted act e

  applying : Local shards s allowed Apply
  applying = record {
    leaves = leaves_told Apply allowed (λ changes K inside key w. held_changed changes K key ∙ ap (λ c. changed_to c (held K key)) (inside key w));
    sees = sees_told Apply allowed
        (λ changes K L agree key t. held_changed changes K key ∙ ap (changed_to (change_of changes key)) (agree key t)
        ∙ sym (held_changed changes L key));
    tells = tells;
  }
    where
      tells : (K L : Keyspace) (told : Told) → Agree allowed K L → IsTold shards s K Apply told → IsTold shards s L Apply told
      tells K L told agree applied = applied
      tells K L told agree (wanted act e) = wanted act e

  reading : (keys : List Bytes) → ((key : Bytes) → among keys key ≡ true → touches allowed key ≡ true) →
      Local shards s allowed (Read keys)
  reading keys asked = quiet (Read keys) (λ c K. refl) (tells keys asked)
    where
      tells : (keys : List Bytes) → ((key : Bytes) → among keys key ≡ true → touches allowed key ≡ true) →
          (K L : Keyspace) (told : Told) → Agree allowed K L → IsTold shards s K (Read keys) told →
          IsTold shards s L (Read keys) told
      tells keys asked K L told agree (read k) =
          subst (λ v. IsTold shards s L (Read k) (Values v)) (sym (map_alike (held K) (held L) k (λ key n. agree key (asked key n)))) (read k)
      tells keys asked K L told agree (wanted act e) = wanted act e

  -- acts on all keys of the shard
  module _ (all : (key : Bytes) → touches allowed key ≡ true) where
    one_keyspace : (K L : Keyspace) → Agree allowed K L → K ≡ L
    one_keyspace K L agree = same_map_by K L (λ key. agree key (all key))

    tells_all : (act : Act) (K L : Keyspace) (told : Told) → Agree allowed K L → IsTold shards s K act told →
        IsTold shards s L act told
    tells_all act K L told agree is = subst (λ M. IsTold shards s M act told) (one_keyspace K L agree) is

    looking_all : (act : Act) → ((changes : Changes) (K : Keyspace) → shown act changes K ≡ K) → Local shards s allowed act
    looking_all act stays = quiet act stays (tells_all act)

    writing_all : (act : Act) → ((key : Bytes) → writes allowed key ≡ true) → Local shards s allowed act
    writing_all act written = record {
      leaves = λ told changes K inside key w. absurd (false≢true (sym w ∙ written key));
      sees = λ told changes K L agree key t. ap (λ M. held (shown_after act told changes M) key) (one_keyspace K L agree);
      tells = tells_all act;
    }

  running : (command : Command) (a : Access) → access_of command ≡ Some a →
      ((key : Bytes) → among (names a) key ≡ true → touches allowed key ≡ true) →
      ((key : Bytes) → among a.writes key ≡ true → writes allowed key ≡ true) → Local shards s allowed (Run command)
  running command a is asked written = record {
    leaves = leaves_told (Run command) allowed
        (λ changes K inside key w. ap (λ m. held m.1 key) (means command a K is)
        ∙ others a K key (unless_true (among a.writes key) (writes allowed key) (written key) w));
    sees = sees_told (Run command) allowed
        (λ changes K L agree key t. ap (λ m. held m.1 key) (means command a K is)
        ∙ left K L agree key t (among (names a) key) refl ∙ sym (ap (λ m. held m.1 key) (means command a L is)));
    tells = tells;
  }
    where
      left : (K L : Keyspace) → Agree allowed K L → (key : Bytes) → touches allowed key ≡ true → (b : Bool) →
          among (names a) key ≡ b → held (does a K).1 key ≡ held (does a L).1 key
      left K L agree key t true n = same_left a K L (λ k m. agree k (asked k m)) key n
      left K L agree key t false n =
          others a K key (unwritten a key n) ∙ agree key t ∙ sym (others a L key (unwritten a key n))

      reply : (K L : Keyspace) → Agree allowed K L → (meaning command K).0 ≡ (meaning command L).0
      reply K L agree =
          ap (λ m. m.0) (means command a K is) ∙ same_reply a K L (λ k m. agree k (asked k m)) ∙ sym (ap (λ m. m.0) (means command a L is))

      tells : (K L : Keyspace) (told : Told) → Agree allowed K L → IsTold shards s K (Run command) told →
          IsTold shards s L (Run command) told
      tells K L told agree (ran c) = subst (λ r. IsTold shards s L (Run command) (Ran r)) (sym (reply K L agree)) (ran command)
      tells K L told agree (wanted act e) = wanted act e

-- ---- each act of a call is local to what the call asks for

module _ (shards s : ℕ) (call : Call) (command : Command) (within_shards : s < shards) (among_commands : Has (commands_of call) command) where
  -- the keys that the command names on the shard are asked for
  pub asked_on : (key : Bytes) → among (keys_on shards s command) key ≡ true → touches (asks_on shards call s) key ≡ true
  asked_on key n =
      let there : (shard_of key shards ≡ s)
      × ((mode : Mode) × Has (keys_of_all (command ∷ [])) (key, mode)) = named_there shards s (command ∷ []) key n in
      touches_named shards s call command within_shards among_commands key there.1.0
      (subst (λ ms. Has ms (key, there.1.0)) (append-nil (keys_of command)) there.1.1) there.0

  -- a key of the shard that the command may write is asked for to be written
  pub written_on : (a : Access) (key : Bytes) → access_of command ≡ Some a → shard_of key shards ≡ s →
      among a.writes key ≡ true → writes (asks_on shards call s) key ≡ true
  written_on a key is e w =
      writes_named shards s call command within_shards among_commands key
      (subst (λ o. Has (named o) (key, Exclusive)) (sym is) (exclusive_in a key w)) e

  all_asked : is_whole (course_of shards command) ≡ true → (key : Bytes) → touches (asks_on shards call s) key ≡ true
  all_asked e key =
      let w = whole_of shards command e in
      touches_all shards s call command within_shards among_commands (all_of_op w.0) (ap whole_mode w.1) key

  run_one : (a : Access) → OnOne shards s command a → Local shards s (asks_on shards call s) (Run command)
  run_one a one = running shards s (asks_on shards call s) command a one.is asked written
    where
      asked : (key : Bytes) → among (names a) key ≡ true → touches (asks_on shards call s) key ≡ true
      asked key n =
          let m : (mode : Mode) × Has (named (Some a)) (key, mode) = named_in_mode a key n in
          touches_named shards s call command within_shards among_commands key m.0
          (subst (λ o. Has (named o) (key, m.0)) (sym one.is) m.1) (one.on key n)

      written : (key : Bytes) → among a.writes key ≡ true → writes (asks_on shards call s) key ≡ true
      written key w = written_on a key one.is (one.on key (within a key w)) w

  -- a flush where there is one shard
  run_all : OfAll shards s command → Local shards s (asks_on shards call s) (Run command)
  run_all all =
      let mode = flush_writes command all.flush in
      writing_all shards s (asks_on shards call s) (touches_all shards s call command within_shards among_commands Exclusive mode)
      (Run command) (writes_all shards s call command within_shards among_commands mode)

  may_do : (act : Act) → MayDo shards s command act → Local shards s (asks_on shards call s) act
  may_do act (runs e) = elim (alone_either shards s command e) [ inl one ↦ run_one one.0 one.1 | inr all ↦ run_all all ]
  may_do act (reads e) = reading shards s (asks_on shards call s) (keys_on shards s command) asked_on
  may_do act (stages K e) = staging shards s (asks_on shards call s) (changes_on shards s command K)
  may_do act (applies e) = applying shards s (asks_on shards call s)
  may_do act (unstages e) = unstaging shards s (asks_on shards call s)
  may_do act (walks e) = looking_all shards s (asks_on shards call s) (all_asked (ap is_whole e)) Walk (λ changes K. refl)
  may_do act (counts e) = looking_all shards s (asks_on shards call s) (all_asked (ap is_whole e)) Count (λ changes K. refl)
  may_do act (begins e) = looking_all shards s (asks_on shards call s) (all_asked (ap is_whole e)) Begin (λ changes K. refl)
  may_do act (stages_none e) = staging shards s (asks_on shards call s) []
  may_do act (clears e) =
      writing_all shards s (asks_on shards call s) (all_asked (ap is_whole e)) Clear
      (writes_all shards s call command within_shards among_commands (flush_writes command (flushes shards command e)))
  may_do act (unstages_none e) = unstaging shards s (asks_on shards call s)

-- what a call may do on a shard is local to what it asks for there
pub acts_are_local : (shards s : ℕ) (call : Call) (act : Act) → Belongs shards s call act →
    Local shards s (asks_on shards call s) act
acts_are_local shards s call act b = may_do shards s call b.command b.within b.among act b.may
