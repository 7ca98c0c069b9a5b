-- Keys that are put to their shards one after the other are gathered on each.
use Rattle.std.proofs.Common.{◌≡◌, ◌≢◌, ℕ, zero, suc, ◌+◌, ◌<◌, Bool, true, false, cond, List, [], ◌∷◌, ◌++◌, map, length, take, drop, get_or, set, refl, sym, ap, subst, ◌∙◌, get_or-set_other, get_or-set_same, below_more, append-nil, length-drop, arith}
use Rattle.std.proofs.lemmas.List.{map-set, length-map, length-set, get_or-map, length_push, drop_more}
use Rattle.std.proofs.lemmas.Bool.{eq-eqb, eqb-true, lt-ltb, false≢true}
use Rattle.std.specs.Prelude.{Option, Some, None, ◌==◌}
use Rattle.std.specs.Option.{option_map}
use Rattle.std.specs.Global.{Box}
use Rattle.df_model.specs.Values.{Bytes}
use Rattle.df_model.specs.Hash.{shard_of}
use Rattle.df_model.specs.Meaning.{firsts, one}
use Rattle.df_model.specs.Spared.{all_of}
use Rattle.df_model.specs.declared.command.Command.{Command}
use Rattle.df_model.specs.declared.command.Command.TheVariants.{Plain, One, Many, Wrong}
use Rattle.df_model.specs.declared.command.Call.{Call}
use Rattle.df_model.specs.declared.command.Call.TheVariants.{Single}
use Rattle.df_model.specs.declared.command.OneOp.{OneOp}
use Rattle.df_model.specs.declared.command.ManyOp.{ManyOp}
use Rattle.df_model.specs.declared.command.PlainOp.{PlainOp}
use Rattle.df_model.specs.declared.reply.ErrorText.{ErrorText}
use Rattle.df_model.specs.declared.keys.Keys.{Keys}
use Rattle.df_model.specs.declared.keys.Keys.TheVariants as kinds
use Rattle.df_model.specs.declared.keys.Mode.{Mode}
use Rattle.df_model.specs.declared.keys.Mode.TheVariants.{Exclusive}
use Rattle.df_footprints.specs.Footprints.{in_mode, on_shard, keys_of, keys_of_all, some_keys, some_whole, commands_of, footprint_of_commands}
use Rattle.df_footprints.specs.Naming.{Adds, mode_of_row}
use Rattle.df_footprints.proofs.GatherLaws.{adds_none, adds_both, adds_key, adds_pair, adds_command, gathered, no_keys, asks_alone}
use Rattle.df_keys.specs.Asked.{FootprintsStand, footprint_there}
use Rattle.df_keys.specs.Gathered.{AreEmpty, Gathers, StandAs, entries_at, entries_of}
use Rattle.df_keys.specs.declared.gather.Modes.{Modes}

-- ---- the maps of the shards, by place

module _ (maps : List Modes) where
  entries-set_same : (i : ℕ) (new : Modes) → i < length maps → entries_at i (set maps i new) ≡ (entries_of new)
  entries-set_same i new lt =
      ap (λ es. get_or es i []) (map-set entries_of maps i new)
      ∙ get_or-set_same (map entries_of maps) i (entries_of new) [] (omega (arith, length-map maps entries_of))

  entries-set_other : (i s : ℕ) (new : Modes) → s ≢ i → entries_at s (set maps i new) ≡ entries_at s maps
  entries-set_other i s new ne =
      ap (λ es. get_or es s []) (map-set entries_of maps i new)
      ∙ get_or-set_other (map entries_of maps) i s (entries_of new) [] ne

  pub entries-get : (s : ℕ) (d : Modes) → s < length maps → entries_at s maps ≡ entries_of (get_or maps s d)
  entries-get s d lt = get_or-map entries_of maps s d [] lt

-- one map more, of no keys
pub empty-push : (maps : List Modes) (new : Modes) (n : ℕ) → AreEmpty n maps → (entries_of new) ≡ [] → AreEmpty (n + 1) (maps ++ new ∷ [])
empty-push maps new n empty none = record {
  count = length_push maps new ∙ ap (λ k. k + 1) empty.count;
  each = go maps empty.each;
}
  where
    go : (maps : List Modes) → ((s : ℕ) → entries_at s maps ≡ []) → (s : ℕ) → entries_at s (maps ++ new ∷ []) ≡ []
    go [] each zero = none
    go [] each (suc s) = refl
    go (m ∷ maps) each zero = each zero
    go (m ∷ maps) each (suc s) = go maps (λ k. each (suc k)) s

-- ---- one after the other

module _ (shards : ℕ) where
  pub gathers_none : (maps : List Modes) → Gathers shards [] maps maps
  gathers_none maps = record { count = refl; each = λ s lt. adds_none (entries_at s maps) }

  pub gathers_both : (a b c : List Modes) (xs ys : List (Bytes × Mode)) → Gathers shards xs a b → Gathers shards ys b c → Gathers shards (xs ++ ys) a c
  gathers_both a b c xs ys f g = record {
    count = g.count ∙ f.count;
    each = λ s lt. adds_both shards s (entries_at s a) (entries_at s b) (entries_at s c) xs ys (f.each s lt) (g.each s lt);
  }

  -- a key goes to its shard, and the others stay
  pub gathers_one : (key : Bytes) (mode : Mode) (maps : List Modes) (i : ℕ) (was new : Modes) →
      i ≡ shard_of key shards → i < length maps → was ≡ get_or maps i was → Adds (entries_of was) ((key, mode) ∷ []) (entries_of new) →
      Gathers shards ((key, mode) ∷ []) maps (set maps i new)
  gathers_one key mode maps i was new is lt at adds = record {
    count = length-set maps i new;
    each = λ s below. go s (shard_of key shards == s) refl;
  }
    where
      go : (s : ℕ) (b : Bool) → (shard_of key shards == s) ≡ b → Adds (entries_at s maps) (cond b ((key, mode) ∷ []) []) (entries_at s (set maps i new))
      go s true e =
          let here : i ≡ s = is ∙ eqb-true (shard_of key shards) s e in
          subst (λ k. Adds (entries_at k maps) ((key, mode) ∷ []) (entries_at k (set maps i new))) here
          (subst (λ old. Adds old ((key, mode) ∷ []) (entries_at i (set maps i new))) (ap entries_of at ∙ sym (entries-get maps i was lt))
          (subst (λ es. Adds (entries_of was) ((key, mode) ∷ []) es) (sym (entries-set_same maps i new lt)) adds))
      go s false e =
          let other : s ≢ i = λ same. false≢true (sym e ∙ eq-eqb (shard_of key shards) s (sym is ∙ sym same)) in
          subst (λ es. Adds (entries_at s maps) [] es) (sym (entries-set_other maps i s new other)) (adds_none (entries_at s maps))

  -- the next of some keys, pairs and commands
  module _ (a b c : List Modes) (i : ℕ) where
    pub gathers_key : (mode : Mode) (keys : List Bytes) (d : Bytes) → i < length keys → Gathers shards (in_mode mode (take i keys)) a b →
        Gathers shards ((get_or keys i d, mode) ∷ []) b c → Gathers shards (in_mode mode (take (i + 1) keys)) a c
    gathers_key mode keys d within f g = record {
      count = g.count ∙ f.count;
      each = λ s lt. adds_key shards s mode (entries_at s a) (entries_at s b) (entries_at s c) keys i d within (f.each s lt) (g.each s lt);
    }

    pub gathers_pair : (pairs : List (Bytes × Bytes)) (d : Bytes × Bytes) → i < length pairs → Gathers shards (in_mode Exclusive (firsts (take i pairs))) a b →
        Gathers shards (((get_or pairs i d).0, Exclusive) ∷ []) b c → Gathers shards (in_mode Exclusive (firsts (take (i + 1) pairs))) a c
    gathers_pair pairs d within f g = record {
      count = g.count ∙ f.count;
      each = λ s lt. adds_pair shards s (entries_at s a) (entries_at s b) (entries_at s c) pairs i d within (f.each s lt) (g.each s lt);
    }

    pub gathers_command : (commands : List Command) (d : Command) → i < length commands → Gathers shards (keys_of_all (take i commands)) a b →
        Gathers shards (keys_of (get_or commands i d)) b c → Gathers shards (keys_of_all (take (i + 1) commands)) a c
    gathers_command commands d within f g = record {
      count = g.count ∙ f.count;
      each = λ s lt. adds_command shards s (entries_at s a) (entries_at s b) (entries_at s c) commands i d within (f.each s lt) (g.each s lt);
    }

  -- what was gathered over no keys is what the commands ask for
  pub all_gathered : (commands : List Command) (first last : List Modes) → some_whole commands ≡ false → AreEmpty shards first →
      Gathers shards (keys_of_all commands) first last → (s : ℕ) → s < shards → some_keys (entries_at s last) ≡ footprint_of_commands shards s commands
  all_gathered commands first last parts empty g s lt =
      gathered shards s commands (entries_at s last) parts (subst (λ none. Adds none (on_shard shards s (keys_of_all commands)) (entries_at s last)) (empty.each s) (g.each s lt))

-- ---- the places

-- one place more
pub put-more : (keys : List (Option (Box Keys))) (t : ℕ) (new : Option (Box Keys)) (F : ℕ → Option Keys) → t < length keys →
    ((s : ℕ) → s < t → footprint_there s keys ≡ F s) → option_map (λ k. k.value) new ≡ F t →
    (s : ℕ) → s < t + 1 → footprint_there s (set keys t new) ≡ F s
put-more keys t new F lt found is =
    below_more (λ s. footprint_there s (set keys t new) ≡ F s) t
    (λ s below. let other : s ≢ t = omega arith in ap (option_map (λ k. k.value)) (get_or-set_other keys t s new None other) ∙ found s below)
    (ap (option_map (λ k. k.value)) (get_or-set_same keys t new None lt) ∙ is)

-- what is next of a list, from a place on
pub next_of : {X : Type 0} (xs : List X) (i : ℕ) (x : X) (rest : List X) → drop i xs ≡ x ∷ rest → (i < length xs) × (x ≡ get_or xs i x) × (rest ≡ drop (i + 1) xs)
next_of xs i x rest e =
    let lt : i < length xs = omega (arith, ap length e, length-drop i xs) in
    let split : drop i xs ≡ get_or xs i x ∷ drop (i + 1) xs = drop_more xs i x lt in
    (lt, cc, cc)

-- ---- what the call asks for

-- the maps of what was gathered over no keys are what the commands ask for
pub stand_gathered : (shards : ℕ) (commands : List Command) (first last : List Modes) (keys : List (Option (Box Keys))) →
    some_whole commands ≡ false → AreEmpty shards first → Gathers shards (keys_of_all commands) first last →
    StandAs (length last) (λ s. some_keys (entries_at s last)) keys → StandAs shards (λ s. footprint_of_commands shards s commands) keys
stand_gathered shards commands first last keys parts empty g stand =
    let count : length last ≡ shards = g.count ∙ empty.count in
    record {
      count = stand.count ∙ count;
      each = λ s lt. stand.each s (omega arith) ∙ all_gathered shards commands first last parts empty g s lt;
    }

pub footprints_stand : (shards : ℕ) (call : Call) (keys : List (Option (Box Keys))) → StandAs shards (λ s. footprint_of_commands shards s (commands_of call)) keys →
    FootprintsStand shards call keys
footprints_stand shards call keys stand =
    (stand.count, λ s lt. stand.each s lt ∙ sym (ap (λ b. cond b (footprint_of_commands shards s (commands_of call)) None) (lt-ltb s shards lt)))

-- of a command of several keys
pub many_stand : (shards : ℕ) (op : ManyOp) (first last : List Modes) (keys : List (Option (Box Keys))) →
    AreEmpty shards first → Gathers shards (keys_of (Many op)) first last →
    StandAs (length last) (λ s. some_keys (entries_at s last)) keys → FootprintsStand shards (Single (Many op)) keys
many_stand shards op first last keys empty g stand =
    footprints_stand shards (Single (Many op)) keys
    (stand_gathered shards (Many op ∷ []) first last keys refl empty (subst (λ ms. Gathers shards ms first last) (sym (append-nil (keys_of (Many op)))) g) stand)

-- of one that names none
pub plain_stands : (shards : ℕ) (op : PlainOp) (keys : List (Option (Box Keys))) → StandAs shards (λ s. None) keys → FootprintsStand shards (Single (Plain op)) keys
plain_stands shards op keys stand =
    footprints_stand shards (Single (Plain op)) keys (record { count = stand.count; each = λ s lt. stand.each s lt ∙ no_keys })

pub wrong_stands : (shards : ℕ) (error : ErrorText) (keys : List (Option (Box Keys))) → StandAs shards (λ s. None) keys → FootprintsStand shards (Single (Wrong error)) keys
wrong_stands shards error keys stand =
    footprints_stand shards (Single (Wrong error)) keys (record { count = stand.count; each = λ s lt. stand.each s lt ∙ no_keys })

-- of a command of one key
pub one_stands : (shards : ℕ) (key : Bytes) (op : OneOp) (mode : Mode) (keys : List (Option (Box Keys))) → mode ≡ mode_of_row (one op) →
    StandAs shards (λ s. cond (shard_of key shards == s) (Some (kinds.Some (all_of ((key, mode) ∷ [])))) None) keys → FootprintsStand shards (Single (One key op)) keys
one_stands shards key op mode keys is stand = (stand.count, λ s lt. stand.each s lt ∙ sym (asks_alone key op mode is shards s lt))
