-- What shards told, gathered shard by shard, is the keyspace of all that they told.
use Rattle.std.proofs.Common.{◌≡◌, ℕ, zero, suc, ◌+◌, ◌<◌, List, [], ◌∷◌, ◌++◌, map, length, take, drop, get_or, refl, sym, ap, subst, ◌∙◌, arith}
use Rattle.std.specs.Prelude.{Option}
use Rattle.std.specs.Option.{option_map}
use Rattle.std.proofs.lemmas.List.{length-map, length-take-le, length_push, take-map, map_more, map-append}
use Rattle.df_model.specs.Values.{Bytes}
use Rattle.df_model.specs.Values as plain
use Rattle.df_model.specs.Spared.{Spared}
use Rattle.df_model.specs.Keyspace.{Keyspace, with_held, no_keys}
use Rattle.df_model.specs.declared.command.Command.{Command}
use Rattle.df_model.specs.declared.keys.Mode.{Mode}
use Rattle.df_values.specs.declared.value.Value.{Value}
use Rattle.df_values.specs.Seen.{seen}
use Rattle.df_log.specs.Acts.{Told}
use Rattle.df_core.specs.Due.{values_in, with_values}
use Rattle.df_core.specs.Courses.{keys_on}
use Rattle.df_rounds.specs.Standing.{told_below, values_told}
use Rattle.df_spread.specs.Spread.{modes_at, values_at, KeysStand, ValuesStand, TellsAll}
use Rattle.df_spread.specs.Gathered.{keys_in, gathered, AreAsMany}

-- ---- as many values as keys

many_at : (keys : List (Spared (Bytes × Mode))) (values : List (Spared (Option Value))) → length values ≡ length keys →
    ((s : ℕ) → length (values_at values s) ≡ length (modes_at keys s)) → AreAsMany keys values
many_at [] [] e each = tt
many_at [] (told ∷ values) e each = absurd (omega arith)
many_at (modes ∷ keys) [] e each = absurd (omega arith)
many_at (modes ∷ keys) (told ∷ values) e each =
    (sym (length-map told.items (option_map seen)) ∙ each zero, many_at keys values (omega arith) (λ s. each (suc s)))

pub as_many : (keys : List (Spared (Bytes × Mode))) (values : List (Spared (Option Value))) → ValuesStand keys values → AreAsMany keys values
as_many keys values stand = many_at keys values stand.count stand.each

-- where values are left, so are keys
pub some_left : (n : ℕ) (keys : List (Spared (Bytes × Mode))) (told : Spared (Option Value)) (values : List (Spared (Option Value))) →
    AreAsMany (drop n keys) (told ∷ values) → n < length keys
some_left zero [] told values h = absurd h
some_left (suc n) [] told values h = absurd h
some_left zero (modes ∷ keys) told values h = omega arith
some_left (suc n) (modes ∷ keys) told values h = let lt : n < length keys = some_left n keys told values h in omega arith

-- of a shard as many, and of those behind it
pub next_many : (keys more : List (Spared (Bytes × Mode))) (modes : Spared (Bytes × Mode)) (told : Spared (Option Value))
    (values : List (Spared (Option Value))) → keys ≡ modes ∷ more → AreAsMany keys (told ∷ values) →
    (length told.items ≡ length modes.items) × AreAsMany more values
next_many keys more modes told values split h = subst (λ l. AreAsMany l (told ∷ values)) split h

-- ---- the values of one shard, the last key first

with_values-last : (keys : List Bytes) (values : List (Option plain.Value)) (key : Bytes) (v : Option plain.Value) (K : Keyspace) →
    length values ≡ length keys → with_values (keys ++ key ∷ []) (values ++ v ∷ []) K ≡ with_values keys values (with_held K key v)
with_values-last [] [] key v K e = refl
with_values-last [] (w ∷ values) key v K e = absurd (omega arith)
with_values-last (k ∷ keys) [] key v K e = absurd (omega arith)
with_values-last (k ∷ keys) (w ∷ values) key v K e = ap (λ L. with_held L k w) (with_values-last keys values key v K (omega arith))

-- the last key that is left holds the last value, and the others come over it
pub last_put : (modes : List (Bytes × Mode)) (old new : List (Option Value)) (last : Option Value) (m : Bytes × Mode) (K : Keyspace) →
    old ≡ new ++ last ∷ [] → length new < length modes → m ≡ get_or modes (length new) m →
    with_values (take (length old) (keys_in modes)) (map (option_map seen) old) K
    ≡ with_values (take (length new) (keys_in modes)) (map (option_map seen) new) (with_held K m.0 (option_map seen last))
last_put modes old new last m K e lt is =
    let n = length new in
    let long : length (keys_in modes) ≡ length modes = length-map modes (λ m. m.0) in
    let count : length old ≡ n + 1 = ap length e ∙ length_push new last in
    let taken : take (n + 1) (keys_in modes) ≡ take n (keys_in modes) ++ m.0 ∷ [] =
    take-map (λ x. x.0) (n + 1) modes
    ∙ map_more (λ x. x.0) modes n m lt
    ∙ ap (λ x. map (λ y. y.0) (take n modes) ++ x.0 ∷ []) (sym is)
    ∙ ap (λ l. l ++ m.0 ∷ []) (sym (take-map (λ x. x.0) n modes)) in
    let told : map (option_map seen) old ≡ map (option_map seen) new ++ option_map seen last ∷ [] =
    ap (map (option_map seen)) e ∙ map-append (option_map seen) new (last ∷ []) in
    let as_long : length (map (option_map seen) new) ≡ length (take n (keys_in modes)) =
    length-map new (option_map seen) ∙ sym (length-take-le n (keys_in modes) (omega arith)) in
    ap (λ k. with_values (take k (keys_in modes)) (map (option_map seen) old) K) count
    ∙ (λ i. with_values (taken i) (told i) K)
    ∙ with_values-last (take n (keys_in modes)) (map (option_map seen) new) m.0 (option_map seen last) K as_long

-- ---- all shards

module _ (shards : ℕ) (command : Command) (told : ℕ → Told) where
  from_shard : (t n : ℕ) (keys : List (Spared (Bytes × Mode))) (values : List (Spared (Option Value))) → length values ≡ length keys →
      t + length keys ≡ n → ((s : ℕ) → s < length keys → keys_in (modes_at keys s) ≡ keys_on shards (t + s) command) →
      ((s : ℕ) → values_in (told (t + s)) ≡ values_at values s) →
      gathered keys values (told_below shards command told t) ≡ told_below shards command told n
  from_shard t n [] [] long e named tells = let is : t ≡ n = omega arith in ap (told_below shards command told) is
  from_shard t n [] (v ∷ values) long e named tells = absurd (omega arith)
  from_shard t n (modes ∷ keys) [] long e named tells = absurd (omega arith)
  from_shard t n (modes ∷ keys) (v ∷ values) long e named tells =
      let same : t + 0 ≡ t = omega arith in
      let here : keys_in modes.items ≡ keys_on shards t command = named zero (omega arith) ∙ ap (λ s. keys_on shards s command) same in
      let there : map (option_map seen) v.items ≡ values_in (told t) = sym (tells zero) ∙ ap (λ s. values_in (told s)) same in
      ap (gathered keys values) (λ i. with_values (here i) (there i) (told_below shards command told t))
      ∙ from_shard (suc t) n keys values (omega arith) (omega arith)
      (λ s lt. let next : t + suc s ≡ suc t + s = omega arith in named (suc s) (omega arith) ∙ ap (λ u. keys_on shards u command) next)
      (λ s. let next : suc t + s ≡ t + suc s = omega arith in ap (λ u. values_in (told u)) next ∙ tells (suc s))

  -- it is what the shards told of the command's keys
  pub gathered_all : (keys : List (Spared (Bytes × Mode))) (values : List (Spared (Option Value))) → KeysStand shards command keys →
      ValuesStand keys values → TellsAll told values → gathered keys values no_keys ≡ values_told shards command told
  gathered_all keys values stand as_long tells =
      let count : length keys ≡ shards = stand.count in
      from_shard zero shards keys values as_long.count (omega arith)
      (λ s lt. let next : s ≡ zero + s = omega arith in ap keys_in (stand.each s (omega arith)) ∙ ap (λ u. keys_on shards u command) next)
      (λ s. let next : zero + s ≡ s = omega arith in ap (λ u. values_in (told u)) next ∙ tells s)
