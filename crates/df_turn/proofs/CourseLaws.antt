-- The course of a command, by its keys one after another.
use Rattle.std.proofs.Common.{◌≡◌, ℕ, Bool, true, false, cond, List, [], ◌∷◌, ◌++◌, map, refl, sym, ◌∙◌}
use Rattle.std.specs.Prelude.{Some, ◌==◌, ◌&&◌}
use Rattle.df_model.specs.Values.{Bytes}
use Rattle.df_model.specs.Hash.{shard_of}
use Rattle.df_model.specs.Access.{Access, on_key}
use Rattle.df_model.specs.Outcomes.{KeyRow}
use Rattle.df_model.specs.declared.keys.Mode.{Mode}
use Rattle.df_model.specs.declared.keys.Mode.TheVariants.{Shared, Exclusive}
use Rattle.df_footprints.specs.Footprints.{in_mode, named}
use Rattle.df_core.specs.Courses.{Course, Nowhere, Alone, Spread, all_on, course_of_keys}
use Rattle.df_turn.specs.Courses.{with_key, with_keys, course_by}

-- the keys alone
abbrev keys : List (Bytes × Mode) → List Bytes
keys = map (λ m. m.0)

module _ (shards : ℕ) where
  stays-spread : (ks : List Bytes) → with_keys shards ks Spread ≡ Spread
  stays-spread [] = refl
  stays-spread (k ∷ ks) = stays-spread ks

  from-alone : (t : ℕ) (ms : List (Bytes × Mode)) →
      with_keys shards (keys ms) (Alone t) ≡ cond (all_on shards t ms) (Alone t) Spread
  from-alone t [] = refl
  from-alone t (m ∷ ms) = go (shard_of m.0 shards == t) (from-alone t ms)
    where
      go : (b : Bool) → with_keys shards (keys ms) (Alone t) ≡ cond (all_on shards t ms) (Alone t) Spread →
          with_keys shards (keys ms) (cond b (Alone t) Spread) ≡ cond (b && all_on shards t ms) (Alone t) Spread
      go true h = h
      go false h = stays-spread (keys ms)

  keys-course : (ms : List (Bytes × Mode)) → course_of_keys shards ms ≡ with_keys shards (keys ms) Nowhere
  keys-course [] = refl
  keys-course (m ∷ ms) = sym (from-alone (shard_of m.0 shards) ms)

  -- keys in one mode, and others behind them
  past-mode : (mode : Mode) (ks : List Bytes) (rest : List (Bytes × Mode)) (course : Course) →
      with_keys shards (keys (in_mode mode ks ++ rest)) course ≡ with_keys shards (keys rest) (with_keys shards ks course)
  past-mode mode [] rest course = refl
  past-mode mode (k ∷ ks) rest course = past-mode mode ks rest (with_key (shard_of k shards) course)

  in-mode : (mode : Mode) (ks : List Bytes) (course : Course) →
      with_keys shards (keys (in_mode mode ks)) course ≡ with_keys shards ks course
  in-mode mode [] course = refl
  in-mode mode (k ∷ ks) course = in-mode mode ks (with_key (shard_of k shards) course)

  pub access_course : (a : Access) → course_by shards a ≡ course_of_keys shards (named (Some a))
  access_course a =
      sym (keys-course (named (Some a)) ∙ past-mode Shared a.reads (in_mode Exclusive a.writes) Nowhere
      ∙ in-mode Exclusive a.writes (with_keys shards a.reads Nowhere))

  pub one_course : (key : Bytes) (row : KeyRow) → Alone (shard_of key shards) ≡ course_of_keys shards (named (Some (on_key key row)))
  one_course key (KeyRow.Looks row) = refl
  one_course key (KeyRow.Changes row) = refl
