-- Floors and callers, event by event.
use Rattle.std.proofs.Common.{◌≡◌, ◌≢◌, ◌⊎◌, ℕ, zero, suc, ◌<◌, ◌≤◌, max, Bool, true, false, ◌||◌, ◌&&◌, List, [], ◌∷◌, ◌++◌, Option, Some, None, inl, inr, refl, sym, ap, ◌∙◌, subst, arith, eqb}
use Rattle.std.proofs.lemmas.Bool.{cases_lt, eq-eqb, or_right}
use Rattle.std.proofs.lemmas.Bool.Decides.{eqb_tells}
use Rattle.std.specs.Prelude.{if◌then◌else◌}
use Rattle.df_order.specs.Lists.{Has}
use Rattle.df_order.specs.Puts.{put}
use Rattle.df_order.specs.Model.{Model, Laws, own}
use Rattle.df_order.specs.Histories.{entries}
use Rattle.df_order.specs.Shards.{Shard, enqueue, leave, enter}
use Rattle.df_order.proofs.Lists.{has_left, has_last, nil_none}
use Rattle.df_order.proofs.Puts.{put_case, put_same, put_other}
use Rattle.df_order.proofs.Commute.{has_own}
use Rattle.df_order.proofs.LogsAlone.{names_none_at}
use Rattle.df_world.specs.World.{Phase, Fresh, Taken, Out, Cancelled, Done, IsTaken, World, logs, moved, first}
use Rattle.df_world.specs.Events.{Event, Draw, Schedule, Quick, Hop, Cancel, Conclude, Bucket_write, takes, offered, runs_at_once, hopped, some_of, seen_top, floor_of, after, Settled, CanDraw, CanOffer, CanHop, Happens, Runs}
use Rattle.df_world.specs.Sound.{Sound}
use Rattle.df_world.specs.Seen.{Entered, Never, Seen}
use Rattle.df_world.proofs.SoundFacts.{entry_drawn, entry_within}
use Rattle.df_world.proofs.Events.{event_sound}

-- ---- events that draw nothing

-- an entry's number is out on no shard that its call names, and it names this one
abbrev New : (M : Model) → World M → ℕ → M.Entry → Type 0
New M w s e =
    ((t : ℕ) → M.footprint (w.call (M.number e)) t ≢ None → w.phase t (M.number e) ≢ Out)
    × (M.footprint (w.call (M.number e)) s ≢ None)

-- what an event that draws nothing changes
pub record Goes (M : Model) (w w' : World M) : Type 0 where
  pub counter : w'.counter ≡ w.counter
  pub call : w'.call ≡ w.call
  pub caller : w'.caller ≡ w.caller
  pub floor : w'.floor ≡ w.floor
  pub longer : (s : ℕ) (e : M.Entry) → Has (logs M w s) e → Has (logs M w' s) e
  pub out : (s n : ℕ) → w.phase s n ≡ Out → w'.phase s n ≡ Out
  pub newer : (s : ℕ) (e : M.Entry) → Has (logs M w' s) e → Has (logs M w s) e ⊎ New M w s e

module _ (M : Model) where
  pub goes_seen : (w w' : World M) → Goes M w w' → Seen M w → Seen M w'
  goes_seen w w' g seen = record {
    floors = λ n a b. subst (λ f. f n < n) (sym g.floor) (seen.floors n a (subst (λ c. n < c) g.counter b));
    earlier = λ m n a b c d. elim (seen.earlier m n a b (subst (λ c. n < c) g.counter c) (ap (λ f. f m) (sym g.caller) ∙ d ∙ ap (λ f. f n) g.caller)) [
      | inl h ↦ inl (h.0, h.1, g.longer h.0 h.1 h.2, h.3)
      | inr v ↦ inr (never m v)
    ];
    told = λ m n a b c d h. subst (λ f. m ≤ f n) (sym g.floor)
        (seen.told m n a b (subst (λ c. n < c) g.counter c) (ap (λ f. f m) (sym g.caller) ∙ d ∙ ap (λ f. f n) g.caller)
        (old m h (seen.earlier m n a b (subst (λ c. n < c) g.counter c) (ap (λ f. f m) (sym g.caller) ∙ d ∙ ap (λ f. f n) g.caller))));
  }
    where
      never : (m : ℕ) → Never M w m → Never M w' m
      never m (inl v) = inl (v.0, subst (λ f. M.footprint (f m) v.0 ≢ None) (sym g.call) v.1, g.out v.0 m v.2)
      never m (inr v) = inr (λ s. ap (λ f. M.footprint (f m) s) g.call ∙ v s)

      old : (m : ℕ) → Entered M w' m → Entered M w m ⊎ Never M w m → Entered M w m
      old m h (inl k) = k
      old m h (inr v) = elim (g.newer h.0 h.1 h.2) [
        | inl k ↦ (h.0, h.1, k, h.3)
        | inr x ↦ absurd
            (elim v [
              | inl u ↦ x.0 u.0 (subst (λ n. M.footprint (w.call n) u.0 ≢ None) (sym h.3) u.1)
                  (ap (w.phase u.0) h.3 ∙ u.2)
              | inr u ↦ x.1 (ap (λ n. M.footprint (w.call n) h.0) h.3 ∙ u h.0)
            ])
      ]

  -- a move of one shard and one number that is not out
  pub moved_goes : (w : World M) (s n : ℕ) (p : Phase) (x : Shard M) → w.phase s n ≢ Out →
      ((e : M.Entry) → Has (logs M w s) e → Has x.log e) →
      ((e : M.Entry) → Has x.log e → Has (logs M w s) e ⊎ New M w s e) → Goes M w (moved M s n p x w)
  moved_goes w s n p x not_out longer newer = record {
    counter = refl;
    call = refl;
    caller = refl;
    floor = refl;
    longer = λ t e. put_case (λ y. Has (logs M w t) e → Has y.log e) s t x w.shard
        (λ i h. longer e (subst (λ u. Has (logs M w u) e) i h)) (λ _ h. h);
    out = λ t m h. put_case (λ f. f m ≡ Out) s t (put n p (w.phase s)) w.phase
        (λ i. put_case (λ q. q ≡ Out) n m p (w.phase s)
        (λ j. absurd (not_out (subst (λ k. w.phase s k ≡ Out) j (subst (λ u. w.phase u m ≡ Out) i h)))) (λ _. subst (λ u. w.phase u m ≡ Out) i h))
        (λ _. h);
    newer = λ t e. put_case (λ y. Has y.log e → Has (logs M w t) e ⊎ New M w t e) s t x w.shard
        (λ i h. elim (newer e h) [
          | inl k ↦ inl (subst (λ u. Has (logs M w u) e) (sym i) k)
          | inr v ↦ inr (v.0, subst (λ u. M.footprint (w.call (M.number e)) u ≢ None) (sym i) v.1)
        ])
        (λ _ h. inl h);
  }

-- ---- floors

abbrev IsOut : Phase → Type 0
IsOut Fresh = ⊥
IsOut (Taken q) = ⊥
IsOut Out = Unit {0}
IsOut Cancelled = ⊥
IsOut Done = ⊥

fresh_in : (p : Phase) → p ≡ Fresh → p ≢ Out
fresh_in p f o = subst IsOut (sym (sym f ∙ o)) tt

taken_in : (p : Phase) → IsTaken p → p ≢ Out
taken_in p t o = subst IsTaken o t

-- a log with an entry of a caller has one
seen_some : (M : Model) (caller : ℕ → ℕ) (k : ℕ) (log : List M.Entry) (e : M.Entry) → Has log e →
    caller (M.number e) ≡ k → some_of M caller k log ≡ true
seen_some M caller k [] e h i = absurd h
seen_some M caller k (f ∷ log) e (inl j) i = ap (λ b. b || some_of M caller k log)
    (eq-eqb (caller (M.number f)) k (ap (λ g. caller (M.number g)) j ∙ i))
seen_some M caller k (f ∷ log) e (inr h) i = ap (λ b. eqb (caller (M.number f)) k || b)
    (seen_some M caller k log e h i) ∙ or_right (eqb (caller (M.number f)) k) true refl

-- what a caller sees of a log covers its own entries, and no number that wasn't drawn
top_covers : (M : Model) (caller : ℕ → ℕ) (k : ℕ) (log : List M.Entry) (e : M.Entry) → Has log e →
    caller (M.number e) ≡ k → M.number e ≤ seen_top M caller k log
top_covers M caller k [] e h i = absurd h
top_covers M caller k (f ∷ log) e h i =
    subst (λ b. M.number e ≤ (if b then max (M.number f) (seen_top M caller k log) else 0))
    (sym (seen_some M caller k (f ∷ log) e h i)) (go h (λ m. top_covers M caller k log e m i))
  where
    go : Has (f ∷ log) e → (Has log e → M.number e ≤ seen_top M caller k log) →
        M.number e ≤ max (M.number f) (seen_top M caller k log)
    go (inl j) g = let l : M.number f ≡ M.number e = ap M.number j in omega arith
    go (inr m) g = omega (arith, g m)

top_below : (M : Model) (caller : ℕ → ℕ) (k b : ℕ) (log : List M.Entry) → 0 < b →
    ((e : M.Entry) → Has log e → M.number e < b) → seen_top M caller k log < b
top_below M caller k b [] z h = z
top_below M caller k b (f ∷ log) z h = go (some_of M caller k (f ∷ log))
    (top_below M caller k b log z (λ e m. h e (inr m))) (h f (inl refl))
  where
    go : (c : Bool) → seen_top M caller k log < b → M.number f < b →
        (if c then max (M.number f) (seen_top M caller k log) else 0) < b
    go true r l = omega arith
    go false r l = z

module _ (M : Model) (laws : Laws M) (start : ℕ → M.State) (w : World M) (sound : Sound M start w) where
  -- so a floor covers the caller's entries on all shards, and is below the next number
  floor_covers : (k t s : ℕ) (e : M.Entry) → s < t → Has (logs M w s) e → w.caller (M.number e) ≡ k →
      M.number e ≤ floor_of M w k t
  floor_covers k zero s e lt h i = absurd (omega (arith, lt))
  floor_covers k (suc t) s e lt h i = elim (cases_lt s t) [
    | inl l ↦ omega (arith, floor_covers k t s e l h i)
    | inr ge ↦
        (let j : s ≡ t = omega arith in omega (arith, top_covers M w.caller k (logs M w t) e (subst (λ u. Has (logs M w u) e) j h) i))
  ]

  floor_below : (k t : ℕ) → floor_of M w k t < w.counter
  floor_below k zero = sound.counted
  floor_below k (suc t) = omega
      (arith, floor_below k t, top_below M w.caller k w.counter (logs M w t) sound.counted (λ e h. (entry_drawn M start w sound t e h).1))

  -- a number has an entry on one of the first shards, or on none
  entered_or : (n t : ℕ) → Entered M w n ⊎ ((s : ℕ) → s < t → own M n (logs M w s) ≡ [])
  entered_or n zero = inr (λ s lt. absurd (omega arith))
  entered_or n (suc t) = elim (entered_or n t) [ inl h ↦ inl h | inr none ↦ go (own M n (logs M w t)) refl none ]
    where
      go : (l : List M.Entry) → own M n (logs M w t) ≡ l → ((s : ℕ) → s < t → own M n (logs M w s) ≡ []) →
          Entered M w n ⊎ ((s : ℕ) → s < suc t → own M n (logs M w s) ≡ [])
      go [] i none = inr
          (λ s lt. elim (cases_lt s t) [ inl l ↦ none s l | inr ge ↦ (let j : t ≡ s = omega arith in subst (λ u. own M n (logs M w u) ≡ []) j i) ])
      go (e ∷ l) i none =
          let h = has_own M n (logs M w t) e (subst (λ k. Has k e) (sym i) (inl refl)) in
          inl (t, e, h.0, h.1)

  -- a settled number has its entries, or never has one
  settled_is : (n : ℕ) → Settled M w n → Entered M w n ⊎ Never M w n
  settled_is n st = elim st.by [
    | inl f ↦ elim (entered_or n M.shards) [
      | inl h ↦ inl h
      | inr none ↦ inr (inr (λ s. elim (cases_lt s M.shards) [
        | inl lt ↦ names_none_at M (w.call n) M.shards (laws.whole_some (w.call n) (entries M (logs M w) n) f (λ u. nil u none)) s lt
        | inr ge ↦ laws.within (w.call n) s ge
      ]))
    ]
    | inr o ↦ inr (inl (o.0.0, o.0.1, o.0.2))
  ]
    where
      nil : (u : ℕ) → ((s : ℕ) → s < M.shards → own M n (logs M w s) ≡ []) → own M n (logs M w u) ≡ []
      nil u none = elim (cases_lt u M.shards) [
        | inl lt ↦ none u lt
        | inr ge ↦ nil_none (own M n (logs M w u))
            (λ e h. let o = has_own M n (logs M w u) e h in let lt = entry_within M start w sound laws u e o.0 in omega arith)
      ]

  -- a caller drew between two numbers, or didn't
  scan : (k m j : ℕ) → ((i : ℕ) × (m < i) × (i < j) × (w.caller i ≡ k)) ⊎ ((i : ℕ) → m < i → i < j → w.caller i ≢ k)
  scan k m zero = inr (λ i a b. absurd (omega arith))
  scan k m (suc j) = elim (scan k m j) [
    | inl h ↦ inl (h.0, h.1, omega (arith, h.2), h.3)
    | inr none ↦ elim (cases_lt m j) [
      | inl lt ↦ elim (eqb_tells (w.caller j) k) [
        | inl e ↦ inl (j, lt, omega arith, e.1)
        | inr e ↦ inr
            (λ i a b. elim (cases_lt i j) [ inl l ↦ none i a l | inr ge ↦ (let q : j ≡ i = omega arith in subst (λ u. w.caller u ≢ k) q e.1) ])
      ]
      | inr ge ↦ inr (λ i a b. absurd (omega arith))
    ]
  ]

  -- ---- each event

  draw_seen : (k : ℕ) (c : M.Call) → CanDraw M w k → Seen M w → Seen M (after M w (Draw k c))
  draw_seen k c can seen = record {
    floors = λ n a b. elim (cases_lt n w.counter) [
      | inl lt ↦ subst (λ f. f < n) (sym (put_other w.counter n (floor_of M w k M.shards) w.floor (omega arith))) (seen.floors n a lt)
      | inr ge ↦
          (let e : n ≡ w.counter = omega arith in
          subst (λ f. f < n) (sym (put_same w.counter n (floor_of M w k M.shards) w.floor e)) (omega (arith, floor_below k M.shards)))
    ];
    earlier = λ m n a b lt e. never m (omega arith) (elim (cases_lt n w.counter) [
      | inl l ↦ seen.earlier m n a b l (sym (caller_old m (omega arith)) ∙ e ∙ caller_old n l)
      | inr ge ↦ before_draw m a (omega arith) (sym (caller_old m (omega arith)) ∙ e ∙ put_same w.counter n k w.caller (omega arith))
    ]);
    told = λ m n a b lt e h. elim (cases_lt n w.counter) [
      | inl l ↦ subst (λ f. m ≤ f) (sym (put_other w.counter n (floor_of M w k M.shards) w.floor (omega arith)))
          (seen.told m n a b l (sym (caller_old m (omega arith)) ∙ e ∙ caller_old n l) h)
      | inr ge ↦ subst (λ f. m ≤ f) (sym (put_same w.counter n (floor_of M w k M.shards) w.floor (omega arith)))
          (omega (
            arith,
            h.3,
            floor_covers k M.shards h.0 h.1 (entry_within M start w sound laws h.0 h.1 h.2) h.2
                (ap w.caller h.3 ∙ sym (caller_old m (omega arith)) ∙ e ∙ put_same w.counter n k w.caller (omega arith)),
          ))
    ];
  }
    where
      caller_old : (m : ℕ) → m < w.counter → put w.counter k w.caller m ≡ w.caller m
      caller_old m lt = put_other w.counter m k w.caller (omega arith)

      never : (m : ℕ) → m < w.counter → Entered M w m ⊎ Never M w m →
          Entered M (after M w (Draw k c)) m ⊎ Never M (after M w (Draw k c)) m
      never m lt (inl h) = inl h
      never m lt (inr (inl v)) = inr
          (inl (v.0, subst (λ d. M.footprint d v.0 ≢ None) (sym (put_other w.counter m c w.call (omega arith))) v.1, v.2))
      never m lt (inr (inr v)) = inr (inr (λ s. ap (λ d. M.footprint d s) (put_other w.counter m c w.call (omega arith)) ∙ v s))

      -- all earlier numbers of the caller are settled
      before_draw : (m : ℕ) → 0 < m → m < w.counter → w.caller m ≡ k → Entered M w m ⊎ Never M w m
      before_draw m a lt e = elim (scan k m w.counter) [
        | inl i ↦ seen.earlier m i.0 a i.1 i.2 (e ∙ sym i.3)
        | inr none ↦ settled_is m (can.settled m a lt e (λ i l r. none i l r))
      ]

  -- a call comes
  offered_goes : (quick : Bool) (s n : ℕ) (memory : Bool) → CanOffer M w s n → (f : Option M.Keys) →
      Goes M w (offered M quick s n memory f w)
  offered_goes quick s n memory can None = record
      { counter = refl; call = refl; caller = refl; floor = refl; longer = λ t e h. h; out = λ t m h. h; newer = λ t e h. inl h }
  offered_goes quick s n memory can (Some k) = go (memory && takes M n k (w.shard s))
    where
      go : (b : Bool) →
          Goes M w (if b then moved M s n (Taken quick) (enqueue M n k (w.shard s)) w else moved M s n Out (w.shard s) w)
      go true = moved_goes M w s n (Taken quick) (enqueue M n k (w.shard s)) (fresh_in (w.phase s n) can.fresh)
          (λ e h. h) (λ e h. inl h)
      go false = moved_goes M w s n Out (w.shard s) (fresh_in (w.phase s n) can.fresh) (λ e h. h) (λ e h. inl h)

  -- a call that no shard is without gets an entry
  entered_goes : (s n : ℕ) (p : Phase) (e : M.Entry) (x : Shard M) → x.log ≡ logs M w s ++ e ∷ [] → M.number e ≡ n →
      M.footprint (w.call n) s ≢ None → ((t : ℕ) → M.footprint (w.call n) t ≢ None → w.phase t n ≢ Out) →
      Goes M w (moved M s n p x w)
  entered_goes s n p e x l i named none = moved_goes M w s n p x (none s named)
      (λ f h. subst (λ y. Has y f) (sym l) (has_left (logs M w s) (e ∷ []) f h))
      (λ f h. elim (has_last (logs M w s) e f (subst (λ y. Has y f) l h)) [
        | inl o ↦ inl o
        | inr j ↦
            (let q : n ≡ M.number f = sym i ∙ ap M.number j in
            inr ((λ t. subst (λ m. M.footprint (w.call m) t ≢ None → w.phase t m ≢ Out) q (none t)), subst (λ m. M.footprint (w.call m) s ≢ None) q named))
      ])

  hopped_goes : (s n : ℕ) (e : M.Entry) → CanHop M w s n e → (p : Phase) → Goes M w (hopped M s n e p w)
  hopped_goes s n e can Fresh = record
      { counter = refl; call = refl; caller = refl; floor = refl; longer = λ t e h. h; out = λ t m h. h; newer = λ t e h. inl h }
  hopped_goes s n e can (Taken true) = entered_goes s n Done e (leave M n (enter M e (w.shard s))) refl can.number
      (laws.next_named (w.call n) (entries M (logs M w) n) s e can.next)
      (λ t h. taken_in (w.phase t n) (can.taken t h))
  hopped_goes s n e can (Taken false) = entered_goes s n (Taken false) e (enter M e (w.shard s)) refl can.number
      (laws.next_named (w.call n) (entries M (logs M w) n) s e can.next)
      (λ t h. taken_in (w.phase t n) (can.taken t h))
  hopped_goes s n e can Out = record
      { counter = refl; call = refl; caller = refl; floor = refl; longer = λ t e h. h; out = λ t m h. h; newer = λ t e h. inl h }
  hopped_goes s n e can Cancelled = record
      { counter = refl; call = refl; caller = refl; floor = refl; longer = λ t e h. h; out = λ t m h. h; newer = λ t e h. inl h }
  hopped_goes s n e can Done = record
      { counter = refl; call = refl; caller = refl; floor = refl; longer = λ t e h. h; out = λ t m h. h; newer = λ t e h. inl h }

  pub event_seen : (e : Event M) → Happens M w e → Seen M w → Seen M (after M w e)
  event_seen (Draw k c) can seen = draw_seen k c can seen
  event_seen (Schedule s n memory) can seen = goes_seen M w (after M w (Schedule s n memory))
      (offered_goes false s n memory can (M.footprint (w.call n) s)) seen
  event_seen (Quick s n memory e) can seen = goes_seen M w (after M w (Quick s n memory e))
      (go (runs_at_once M n memory (M.footprint (w.call n) s) (w.shard s))) seen
    where
      go : (b : Bool) →
          Goes M w (if b then moved M s n Done (enter M e (w.shard s)) w else offered M true s n memory (M.footprint (w.call n) s) w)
      go true = entered_goes s n Done e (enter M e (w.shard s)) refl can.number can.offer.named
          (λ t h. subst (λ u. w.phase u n ≢ Out) (sym (laws.quick_one (w.call n) s t can.quick can.offer.named h)) (fresh_in (w.phase s n) can.offer.fresh))
      go false = offered_goes true s n memory can.offer (M.footprint (w.call n) s)
  event_seen (Hop s n e) can seen = goes_seen M w (after M w (Hop s n e)) (hopped_goes s n e can (w.phase s n)) seen
  event_seen (Cancel s n) can seen = goes_seen M w (after M w (Cancel s n))
      (moved_goes M w s n Cancelled (leave M n (w.shard s)) (taken_in (w.phase s n) can.taken) (λ e h. h) (λ e h. inl h))
      seen
  event_seen (Conclude s n) can seen = goes_seen M w (after M w (Conclude s n))
      (moved_goes M w s n Done (leave M n (w.shard s)) (taken_in (w.phase s n) can.taken) (λ e h. h) (λ e h. inl h))
      seen
  event_seen (Bucket_write s) can seen = seen

pub first_seen : (M : Model) (c : M.Call) (start : ℕ → M.State) → Seen M (first M c start)
first_seen M c start = record {
  floors = λ n a b. a;
  earlier = λ m n a b l. absurd (omega arith);
  told = λ m n a b l. absurd (omega arith);
}

pub runs_seen : (M : Model) (laws : Laws M) (start : ℕ → M.State) (es : List (Event M)) (w w' : World M) →
    Sound M start w → Seen M w → Runs M w es w' → Seen M w'
runs_seen M laws start [] w w' sound seen r = subst (Seen M) r seen
runs_seen M laws start (e ∷ es) w w' sound seen r = runs_seen M laws start es (after M w e) w'
    (event_sound M laws start w sound e r.0) (event_seen M laws start w sound e r.0 seen) r.1
