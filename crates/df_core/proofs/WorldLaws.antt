-- From the order law of worlds, for calls that keep its laws, to the one history of a run.
use Rattle.std.proofs.Common.{◌≡◌, inl, inr, ℕ, zero, suc, pred, ◌+◌, ◌<◌, ◌≤◌, Bool, true, false, List, [], ◌∷◌, map, refl, sym, subst, arith}
use Rattle.std.specs.Prelude.{if◌then◌else◌}
use Rattle.std.specs.List.{AllByRecursion}
use Rattle.std.proofs.lemmas.Bool.{cases_lt}
use Rattle.df_model.specs.Keyspace.{Keyspace}
use Rattle.df_model.specs.History.{Item, IsLegal, RisesFrom, SeesItsOwn, IsOrdered}
use Rattle.df_model.specs.declared.reply.Reply.{Reply}
use Rattle.df_order.specs.Model.{Laws}
use Rattle.df_order.specs.Histories as order
use Rattle.df_order.proofs.Lists.{nil_none}
use Rattle.df_order.proofs.Commute.{has_own}
use Rattle.df_order.proofs.LogsAlone.{none_all, has_some, names_none_at}
use Rattle.df_world.specs.World.{World, Unstaged, first, logs}
use Rattle.df_world.specs.Events.{Event, Happens, after, Runs}
use Rattle.df_world.specs.TheList.{Finds, the_list}
use Rattle.df_world.specs.Sound.{Sound}
use Rattle.df_world.specs.Seen.{Seen, Entered}
use Rattle.df_world.specs.Invariant.{Invariant}
use Rattle.df_world.proofs.Events.{first_sound, runs_sound, event_sound}
use Rattle.df_world.proofs.Invariants.{invariant_of}
use Rattle.df_world.proofs.OneList.{the_list_legal}
use Rattle.df_world.proofs.Seen.{first_seen, runs_seen}
use Rattle.df_core.specs.Joined.{joined}
use Rattle.df_core.specs.Calls.{calls}
use Rattle.df_core.specs.History.{idle, part_of, with_draw, NamesAShard}
use Rattle.df_core.specs.Laws.{draws_of}
use Rattle.df_core.proofs.JoinedLaws.{joined_parts}
use Rattle.df_core.proofs.HistoryLaws.{is_legal}

unstaged : (shards : ℕ) (K : Keyspace) (s : ℕ) → Unstaged (calls shards) s (part_of shards K s)
unstaged shards K s = record { bare = λ n. refl; good = λ n call key w. refl }

module _ (laws : (shards : ℕ) → 0 < shards → Laws (calls shards)) (shards : ℕ) (some : 0 < shards) (K : Keyspace)
    (events : List (Event (calls shards)))
    (w : World (calls shards)) (runs : Runs (calls shards) (first (calls shards) idle (part_of shards K)) events w) where
  at_first : Sound (calls shards) (part_of shards K) (first (calls shards) idle (part_of shards K))
  at_first = first_sound (calls shards) (part_of shards K) idle (unstaged shards K)

  sound : Sound (calls shards) (part_of shards K) w
  sound = runs_sound (calls shards) (laws shards some) (part_of shards K) events (first (calls shards) idle (part_of shards K)) w at_first runs

  seen : Seen (calls shards) w
  seen =
      runs_seen (calls shards) (laws shards some) (part_of shards K) events
      (first (calls shards) idle (part_of shards K)) w at_first (first_seen (calls shards) idle (part_of shards K)) runs

  -- every event keeps the scheduler invariant
  pub invariant_kept : (e : Event (calls shards)) → Happens (calls shards) w e → (s : ℕ) →
      Invariant (calls shards) (after (calls shards) w e) (part_of shards K) s
  invariant_kept e happens s =
      invariant_of (calls shards) (laws shards some) (part_of shards K) (after (calls shards) w e)
      (event_sound (calls shards) (laws shards some) (part_of shards K) w sound e happens) s (unstaged shards K s)

  -- with who drew each number
  abbrev drawn : List (order.Item (calls shards)) → List Item
  drawn items = map (with_draw shards (draws_of shards w)) items

  module _ (finished : ℕ → Bool) (replies : ℕ → Reply) (finds : Finds (calls shards) w finished replies) where
    -- the finished calls are one thread's
    pub history_legal : IsLegal K (drawn (the_list (calls shards) w finished replies))
    history_legal =
        subst (λ J. IsLegal J (drawn (the_list (calls shards) w finished replies))) (joined_parts shards some K)
        (is_legal shards (draws_of shards w) (joined shards (part_of shards K)) _
        (the_list_legal (calls shards) (laws shards some) (part_of shards K) (unstaged shards K) w sound finished replies finds))

    none_past : (s : ℕ) → shards ≤ s → (w.shard s).log ≡ []
    none_past s ge = nil_none (w.shard s).log (λ e h. sound.named s e h ((laws shards some).within (w.call e.number) s ge))

    -- a finished call that names a shard has an entry
    entered : (n : ℕ) → finished n ≡ true → NamesAShard shards (w.call n) → Entered (calls shards) w n
    entered n f names = go (order.some_entry (calls shards) (logs (calls shards) w) n shards) refl
      where
        go : (b : Bool) → order.some_entry (calls shards) (logs (calls shards) w) n shards ≡ b → Entered (calls shards) w n
        go true i =
            let v = has_some (calls shards) (logs (calls shards) w) n shards i in
            let o = has_own (calls shards) n (logs (calls shards) w v.0) v.1 v.2 in
            (v.0, v.1, o.0, o.1)
        go false i =
            let none = (laws shards some).whole_some (w.call n) (order.entries (calls shards) (logs (calls shards) w) n)
            (replies n, finds.yes n f) (none_all (calls shards) (logs (calls shards) w) none_past n i) in
            absurd (names.1 (elim (cases_lt names.0 shards) [
              | inl lt ↦ names_none_at (calls shards) (w.call n) shards none names.0 lt
              | inr ge ↦ (laws shards some).within (w.call n) names.0 ge
            ]))

    abbrev one : ℕ → order.Item (calls shards)
    one n = order.item (calls shards) w.call (logs (calls shards) w) replies n

    abbrev from_on : ℕ → ℕ → List (order.Item (calls shards))
    from_on n count = order.items_where (calls shards) w.call (logs (calls shards) w) replies finished n count

    -- what holds of each number holds of each item
    all_items : (P : Item → Type 0) (n count : ℕ) →
        ((m : ℕ) → n ≤ m → m < n + count → P (with_draw shards (draws_of shards w) (one m))) →
        AllByRecursion P (drawn (from_on n count))
    all_items P n zero f = tt
    all_items P n (suc count) f = go (finished n) (all_items P (suc n) count (λ m le lt. f m (omega (arith, le)) (omega (arith, lt))))
      where
        go : (b : Bool) → AllByRecursion P (drawn (from_on (suc n) count)) →
            AllByRecursion P (drawn (if b then one n ∷ from_on (suc n) count else from_on (suc n) count))
        go true rest = (f n (omega arith) (omega arith), rest)
        go false rest = rest

    rises : (last n count : ℕ) → last < n → 0 < n → n + count ≤ w.counter →
        RisesFrom last (drawn (from_on n count))
    rises last n zero lt pos le = tt
    rises last n (suc count) lt pos le = go (finished n) (λ below lt'. rises below (suc n) count lt' (omega arith) (omega (arith, le)))
      where
        go : (b : Bool) →
            ((below : ℕ) → below < suc n → RisesFrom below (drawn (from_on (suc n) count))) →
            RisesFrom last (drawn (if b then one n ∷ from_on (suc n) count else from_on (suc n) count))
        go true rest = (lt, seen.floors n pos (omega (arith, le)), rest n (omega arith))
        go false rest = rest last (omega (arith, lt))

    sees : (n count : ℕ) → 0 < n → n + count ≤ w.counter →
        SeesItsOwn (NamesAShard shards) (drawn (from_on n count))
    sees n zero pos le = tt
    sees n (suc count) pos le = go (finished n) refl (sees (suc n) count (omega arith) (omega (arith, le)))
      where
        go : (b : Bool) → finished n ≡ b →
            SeesItsOwn (NamesAShard shards) (drawn (from_on (suc n) count)) →
            SeesItsOwn (NamesAShard shards) (drawn (if b then one n ∷ from_on (suc n) count else from_on (suc n) count))
        go true f rest = (
          λ names. all_items (λ i. i.session ≡ w.caller n → n ≤ i.floor) (suc n) count
              (λ m le' lt' same. seen.told n m pos (omega (arith, le')) (omega (arith, lt', le)) (sym same) (entered n f names)),
          rest,
        )
        go false f rest = rest

    -- in the order of their numbers
    pub in_order : IsOrdered (NamesAShard shards) (drawn (the_list (calls shards) w finished replies))
    in_order = record {
      rises = rises 0 1 (pred w.counter) (omega arith) (omega arith) (omega (arith, sound.counted));
      sees_its_own = sees 1 (pred w.counter) (omega arith) (omega (arith, sound.counted));
    }
