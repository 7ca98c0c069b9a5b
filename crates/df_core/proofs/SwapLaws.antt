-- Entries of calls that do not conflict on a shard change places there; and what is staged for a number hangs on its own
-- entries, and is its call's to write.
use Rattle.std.proofs.Common.{◌≡◌, ◌≢◌, ℕ, ◌<◌, Bool, true, false, cond, [], ◌∷◌, refl, sym, ap, ◌∙◌}
use Rattle.std.specs.Prelude.{Option, Some, None}
use Rattle.std.proofs.lemmas.Bool.{false≢true}
use Rattle.df_model.specs.Values.{Bytes}
use Rattle.df_model.specs.Hash.{shard_of}
use Rattle.df_model.specs.Keyspace.{Keyspace, held}
use Rattle.df_model.specs.Access.{Access, among}
use Rattle.df_model.specs.Meaning.{meaning}
use Rattle.df_model.specs.declared.command.Command.{Command}
use Rattle.df_model.specs.declared.command.Call.{Call}
use Rattle.df_model.specs.declared.keys.Keys.{Keys}
use Rattle.df_model.proofs.LocalityLaws.{others}
use Rattle.df_footprints.specs.Asks.{touches, writes}
use Rattle.df_footprints.specs.Footprints.{access_of, commands_of, footprint_of}
use Rattle.df_footprints.proofs.ModesLaws.{named_there, means}
use Rattle.df_footprints.proofs.ConflictLaws.{conflicts_comm, left_alone}
use Rattle.df_order.specs.Lists.{Has}
use Rattle.df_order.specs.Model.{conflict, Fits, Swapped}
use Rattle.df_order.proofs.Puts.{put_same, put_other}
use Rattle.df_log.specs.Acts.{Changes, Act, Told}
use Rattle.df_log.specs.Changes.{change_of}
use Rattle.df_log.specs.Parts.{Part, did, left_staged, staged_after, effect}
use Rattle.df_log.specs.declared.entry.Entry.{Entry}
use Rattle.df_core.specs.Altered.{same_held}
use Rattle.df_core.specs.Calls.{calls}
use Rattle.df_core.specs.Courses.{keys_on, changes_on}
use Rattle.df_core.specs.Belongs.{MayDo, runs, reads, stages, applies, unstages, walks, counts, begins, stages_none, clears, unstages_none, Tells, Good, asks_of, asks_on, Inside}
use Rattle.df_core.proofs.AlteredLaws.{held_itself, change_altered}
use Rattle.df_core.proofs.CourseLaws.{spread_access}
use Rattle.df_core.proofs.LocalLaws.{FitsLocal, Traded, trade, acts_are_local, written_on, unless_true}

-- ---- entries change places

-- a call that asks for nothing on a shard conflicts with none there
kept_off : (shards : ℕ) (mine yours : Option Keys) → conflict (calls shards) mine yours ≡ false → (key : Bytes) →
    writes (asks_of mine) key ≡ true → touches (asks_of yours) key ≡ false
kept_off shards None yours apart key w = absurd (false≢true w)
kept_off shards (Some keys) None apart key w = refl
kept_off shards (Some keys) (Some others) apart key w = left_alone keys others key apart w

apart_back : (shards : ℕ) (mine yours : Option Keys) → conflict (calls shards) mine yours ≡ false →
    conflict (calls shards) yours mine ≡ false
apart_back shards None None apart = refl
apart_back shards None (Some others) apart = refl
apart_back shards (Some keys) None apart = refl
apart_back shards (Some keys) (Some others) apart = conflicts_comm others keys ∙ apart

fits_local : (shards s : ℕ) (call : Call) (e : Entry) (x : Part) → Fits (calls shards) s call e x →
    FitsLocal shards s (asks_on shards call s) e.number e.act e.told x
fits_local shards s call e x fits = record {
  local = acts_are_local shards s call e.act fits.0.0;
  inside = fits.1;
  told_so = fits.0.1;
}

-- entries of calls that do not conflict change places
pub swap : (shards s : ℕ) (c d : Call) (e f : Entry) (x : Part) →
    conflict (calls shards) (footprint_of shards c s) (footprint_of shards d s) ≡ false → e.number ≢ f.number →
    Fits (calls shards) s c e x → Fits (calls shards) s d f (effect e x) → Swapped (calls shards) s c d e f x
swap shards s c d e f x apart ne fits behind = record {
  first = ((behind.0.0, traded.first.told_so), traded.first.inside);
  second = ((fits.0.0, traded.second.told_so), traded.second.inside);
  same = traded.same;
}
  where
    back : conflict (calls shards) (footprint_of shards d s) (footprint_of shards c s) ≡ false
    back = apart_back shards (footprint_of shards c s) (footprint_of shards d s) apart

    traded : Traded shards s (asks_on shards c s) (asks_on shards d s) e.act f.act e.told f.told e.number f.number x
    traded = trade shards s (asks_on shards c s) (asks_on shards d s) e.act f.act e.told f.told e.number f.number x
        (kept_off shards (footprint_of shards c s) (footprint_of shards d s) apart)
        (kept_off shards (footprint_of shards d s) (footprint_of shards c s) back)
        ne (fits_local shards s c e x fits) (fits_local shards s d f (effect e x) behind)

-- ---- what is staged for a number

-- an entry leaves what other numbers have staged
pub slot_other : (n : ℕ) (e : Entry) (x : Part) → e.number ≢ n → (effect e x).staged n ≡ x.staged n
slot_other n e x ne = put_other e.number n (staged_after e.act e.told (x.staged e.number)) x.staged (λ i. ne (sym i))

after_own : (n : ℕ) (e : Entry) (x : Part) → e.number ≡ n → (effect e x).staged n ≡ staged_after e.act e.told (x.staged n)
after_own n e x i =
    put_same e.number n (staged_after e.act e.told (x.staged e.number)) x.staged (sym i) ∙ ap (λ m. staged_after e.act e.told (x.staged m)) i

-- and makes of what its own number has staged the same wherever it stands
pub slot_own : (n : ℕ) (e : Entry) (x y : Part) → e.number ≡ n → x.staged n ≡ y.staged n →
    (effect e x).staged n ≡ (effect e y).staged n
slot_own n e x y i same = after_own n e x i ∙ ap (staged_after e.act e.told) same ∙ sym (after_own n e y i)

-- an entry leaves what others have staged theirs to write
pub good_other : (shards s : ℕ) (c : Call) (n : ℕ) (e : Entry) (x : Part) → e.number ≢ n → Good shards s c n x →
    Good shards s c n (effect e x)
good_other shards s c n e x ne good key w = ap (λ changes. change_of changes key) (slot_other n e x ne) ∙ good key w

-- ---- what a call stages is its own to write

-- a key that an access doesn't write holds the same before and after it
stays : (command : Command) (a : Access) (K : Keyspace) (key : Bytes) → access_of command ≡ Some a →
    among a.writes key ≡ false → held K key ≡ held (meaning command K).1 key
stays command a K key is n = sym (ap (λ m. held m.1 key) (means command a K is) ∙ others a K key n)

-- what a command with keys stages on a shard it may write there
module _ (shards s : ℕ) (call : Call) (command : Command) (within : s < shards) (has : Has (commands_of call) command) where
  staged_by : (a : Access) → access_of command ≡ Some a → (K : Keyspace) →
      Inside (asks_on shards call s) (changes_on shards s command K)
  staged_by a is K key w = change_altered K (meaning command K).1 (keys_on shards s command) key ∙ go (among (keys_on shards s command) key) refl
    where
      go : (b : Bool) → among (keys_on shards s command) key ≡ b →
          cond b (cond (same_held (held K key) (held (meaning command K).1 key)) None (Some (held (meaning command K).1 key))) None ≡ None
      go true n =
          let e : shard_of key shards ≡ s = (named_there shards s (command ∷ []) key n).0 in
          let unwritten : among a.writes key ≡ false = unless_true (among a.writes key)
          (writes (asks_on shards call s) key) (written_on shards s call command within has a key is e) w in
          ap (λ b. cond b None (Some (held (meaning command K).1 key)))
          (ap (same_held (held K key)) (sym (stays command a K key is unwritten)) ∙ held_itself (held K key))
      go false n = refl

  left_inside : (act : Act) → MayDo shards s command act → (changes : Changes) →
      Inside (asks_on shards call s) changes → Inside (asks_on shards call s) (left_staged act changes)
  left_inside act (runs e) changes inside = inside
  left_inside act (reads e) changes inside = inside
  left_inside act (stages K e) changes inside = let a = spread_access shards command e in staged_by a.0 a.1 K
  left_inside act (applies e) changes inside = λ key w. refl
  left_inside act (unstages e) changes inside = λ key w. refl
  left_inside act (walks e) changes inside = inside
  left_inside act (counts e) changes inside = inside
  left_inside act (begins e) changes inside = inside
  left_inside act (stages_none e) changes inside = λ key w. refl
  left_inside act (clears e) changes inside = λ key w. refl
  left_inside act (unstages_none e) changes inside = λ key w. refl

  staged_after_inside : (act : Act) (told : Told) → MayDo shards s command act → (changes : Changes) →
      Inside (asks_on shards call s) changes → Inside (asks_on shards call s) (staged_after act told changes)
  staged_after_inside act told may changes inside key w = go (did told)
    where
      go : (b : Bool) → change_of (cond b (left_staged act changes) changes) key ≡ None
      go true = left_inside act may changes inside key w
      go false = inside key w

-- and what its own number has staged its call's to write
pub good_own : (shards s : ℕ) (c : Call) (e : Entry) (x : Part) → Tells shards s c e x → Good shards s c e.number x →
    Good shards s c e.number (effect e x)
good_own shards s c e x tells good key w =
    ap (λ changes. change_of changes key) (after_own e.number e x refl)
    ∙ staged_after_inside shards s c tells.0.command tells.0.within tells.0.among e.act e.told tells.0.may (x.staged e.number) good key w
