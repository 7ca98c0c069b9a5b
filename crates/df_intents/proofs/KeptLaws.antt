-- Laws of what always holds of the intents of a shard, after a take and after a release.
use Rattle.std.proofs.Common.{◌≡◌, ℕ, suc, ◌+◌, ◌-◌, ◌<◌, ◌≤◌, ◌^◌, Bool, true, false, cond, List, [], ◌∷◌, ◌++◌, length, min, not, refl, sym, ap, ◌∙◌, arith, length-append}
use Rattle.std.specs.Prelude.{Option, Some, None, is_some, nat_eq, if◌then◌else◌}
use Rattle.std.proofs.Math.Bool.{or-false}
use Rattle.std.specs.Map.{lookup}
use Rattle.df_model.specs.Values.{Bytes}
use Rattle.df_model.specs.declared.keys.Mode.{Mode}
use Rattle.df_model.specs.declared.keys.Mode.TheVariants.{Exclusive}
use Rattle.df_model.specs.declared.keys.Keys.{Keys}
use Rattle.df_model.specs.declared.keys.Keys.TheVariants as kinds
use Rattle.df_footprints.specs.Asks.{Ask, asks, asks_for, clashes_with, some_clash}
use Rattle.df_intents.specs.Holders.{Holder, count_of, room_of, is_free, just, keys_of, without}
use Rattle.df_intents.specs.Counting.{counted, for_key, held}
use Rattle.df_intents.specs.Index.{Counts}
use Rattle.df_intents.specs.Kept.{Kept}
use Rattle.df_intents.specs.declared.grant.Grant.TheVariants.{Free, Waits}
use Rattle.df_intents.specs.declared.index.Index.{Index}
use Rattle.df_intents.proofs.AskLaws.{counted_any, counted-append}
use Rattle.df_intents.proofs.HolderLaws.{free_held, keys_without, length_without, once_without, size_without}
use Rattle.df_intents.proofs.IndexLaws.{retold}

-- ---- how many asks

asks_length : (ms : List (Bytes × Mode)) → length (asks_for ms) ≡ length ms
asks_length [] = refl
asks_length (m ∷ ms) = ap suc (asks_length ms)

pub count_length : (keys : Keys) → length (asks keys) ≡ count_of keys
count_length (kinds.Some modes) = asks_length modes.items
count_length (kinds.All mode) = refl

-- the index tells how many asks are held
pub all_counted : (i : Index) (bs : List Ask) → Counts i bs → i.asks.any ≡ length bs
all_counted i bs h = h.asks Exclusive ∙ counted_any bs

-- ---- a release

module _ (es fs : List (ℕ × Keys)) (i j : Index) (hs : List Holder) (number : ℕ) (keys : Keys) (kept : Kept es i hs) (at : lookup (nat_eq number) es ≡ Some keys) where
  found : keys_of number hs ≡ Some keys
  found = sym (kept.known number) ∙ at

  entered : Counts i (asks keys ++ held (without number hs))
  entered = retold i (held hs) (asks keys ++ held (without number hs)) (λ t m. size_without (counted t m) (counted-append t m) number keys hs kept.once found) kept.counted

  pub kept_released : ((q : ℕ) → lookup (nat_eq q) fs ≡ cond (nat_eq number q) None (lookup (nat_eq q) es)) → length fs + 1 ≡ length es
      → ((bs : List Ask) → Counts i (asks keys ++ bs) → Counts j bs) → Kept fs j (without number hs)
  kept_released takes fewer leaves = record {
    once = once_without number hs kept.once;
    known = λ q. takes q ∙ ap (cond (nat_eq number q) None) (kept.known q) ∙ sym (keys_without number q hs);
    many = (let less = length_without number keys hs kept.once found in let same = kept.many in omega (arith, less, same, fewer));
    counted = leaves (held (without number hs)) entered;
  }

  pub asks_released : ((bs : List Ask) → Counts i (asks keys ++ bs) → Counts j bs) → j.asks.any ≤ i.asks.any
  asks_released leaves =
      let after = all_counted j (held (without number hs)) (leaves (held (without number hs)) entered) in
      let before = all_counted i (asks keys ++ held (without number hs)) entered in
      let split = length-append (asks keys) (held (without number hs)) in
      omega (arith, after, before, split)

-- ---- a take

module _ (es : List (ℕ × Keys)) (i j : Index) (hs : List Holder) (number : ℕ) (keys : Keys) (kept : Kept es i hs) where
  pub kept_taken : (fs : List (ℕ × Keys)) → keys_of number hs ≡ None → ((q : ℕ) → lookup (nat_eq q) fs ≡ cond (nat_eq number q) (Some keys) (lookup (nat_eq q) es)) → (old : Option Keys) → old ≡ lookup (nat_eq number) es
      → length fs ≡ length es + (if is_some old then 0 else 1) → Counts j (asks keys ++ held hs) → Kept fs j (record { number = number; keys = keys } ∷ hs)
  kept_taken fs absent puts old is more counted = record {
    once = (absent, kept.once);
    known = λ q. puts q ∙ ap (cond (nat_eq number q) (Some keys)) (kept.known q);
    many = grown (is ∙ kept.known number ∙ absent) more;
    counted = counted;
  }
    where
      grown : old ≡ None → length fs ≡ length es + (if is_some old then 0 else 1) → length fs ≡ suc (length hs)
      grown none more =
          let same = kept.many in
          let by : length fs ≡ length es + 1 = more ∙ ap (λ o. length es + (if is_some o then 0 else 1)) none in
          omega (arith, by, same)

  -- the asks of the call fit with all others
  pub fits : (rest : ℕ) → room_of keys ≤ min (2 ^ 64 - 1 - i.asks.any) rest → length (held hs) + count_of keys < 2 ^ 64
  fits rest le =
      let all = all_counted i (held hs) kept.counted in
      omega (arith, all, le)

  pub spare_taken : (a b c d : ℕ) → Counts j (asks keys ++ held hs) → a ≤ c + 1 → b ≤ d + count_of keys
      → min (2 ^ 64 - 1 - i.asks.any) (min a b) ≤ min (2 ^ 64 - 1 - j.asks.any) (min c d) + room_of keys
  spare_taken a b c d counted le le_tallies =
      let before = all_counted i (held hs) kept.counted in
      let after = all_counted j (asks keys ++ held hs) counted in
      let split = length-append (asks keys) (held hs) in
      let many = count_length keys in
      omega (arith, before, after, split, many, le, le_tallies)

pub granted : (keys : Keys) (hs : List Holder) (opposed : Bool) → opposed ≡ some_clash (asks keys) (held hs) → cond opposed Waits Free ≡ (if is_free keys hs then Free else Waits)
granted keys hs opposed is = turned opposed ∙ ap (λ b. if b then Free else Waits) (ap not is ∙ sym (free_held keys hs))
  where
    turned : (b : Bool) → cond b Waits Free ≡ (if not b then Free else Waits)
    turned true = refl
    turned false = refl

pub granted_key : (key : Bytes) (mode : Mode) (hs : List Holder) (opposed : Bool) → opposed ≡ clashes_with (for_key key mode) (held hs) → cond opposed Waits Free ≡ (if is_free (just key mode) hs then Free else Waits)
granted_key key mode hs opposed is = granted (just key mode) hs opposed (is ∙ sym (or-false (clashes_with (for_key key mode) (held hs))))
