-- Each event keeps the world sound.
use Rattle.std.proofs.Common.{◌≡◌, ◌≢◌, ◌⊎◌, ℕ, ◌<◌, ◌≤◌, Bool, true, false, ◌||◌, ◌&&◌, not, List, [], ◌∷◌, ◌++◌, Option, Some, None, inl, inr, refl, sym, ap, ◌∙◌, subst, arith, eqb, ltb}
use Rattle.std.proofs.lemmas.Bool.{cases_lt, false≢true, eq-eqb, ne_eqb, ltb-true, ltb-false, and_parts, or_cases, not-true}
use Rattle.std.proofs.lemmas.Bool.Decides.{eqb_tells}
use Rattle.std.specs.Prelude.{if◌then◌else◌}
use Rattle.df_order.specs.Lists.{Has, only}
use Rattle.df_order.specs.Puts.{put}
use Rattle.df_order.specs.Model.{Model, Laws, Whole, own, Fits}
use Rattle.df_order.specs.Histories.{entries}
use Rattle.df_order.specs.Shards.{Place, Shard, Queued, tail, is_free, enqueue, leave, enter, Kept}
use Rattle.df_order.proofs.Lists.{has_last, has_only, only_has, nil_none}
use Rattle.df_order.proofs.Puts.{put_case, put_same, put_other}
use Rattle.df_order.proofs.Commute.{has_own, own_more, own_no_more}
use Rattle.df_order.proofs.ShardKept.{has_insert, insert_has_old, insert_has_new, kept_first, kept_enqueue, kept_leave, kept_hop, kept_at_once, kept_calls}
use Rattle.df_world.specs.World.{Phase, Fresh, Taken, Out, Cancelled, Done, IsTaken, IsActive, World, logs, moved, Finished, Unstaged, first}
use Rattle.df_world.specs.Events.{Event, Draw, Schedule, Quick, Hop, Cancel, Conclude, Bucket_write, takes, offered, runs_at_once, hopped, after, CanOffer, CanQuick, CanHop, CanCancel, CanConclude, Happens, Runs}
use Rattle.df_world.specs.Sound.{Sound}
use Rattle.df_world.proofs.SoundFacts.{fresh_queue, fresh_entry, place_drawn, queued_drawn, entry_drawn}
use Rattle.df_world.proofs.Moves.{Enters, moved_sound}

-- ---- queues and phases

-- who is queued after n left was so before, and isn't n
left_in : (n : ℕ) (q : List Place) (p : Place) → Has (only (λ r. not (eqb r.number n)) q) p → Has q p × (p.number ≢ n)
left_in n q p h =
    let o = has_only (λ r. not (eqb r.number n)) q p h in
    (o.0, λ i. false≢true (sym (not-true (eqb p.number n) o.1) ∙ eq-eqb p.number n i))

left_old : (n : ℕ) (q : List Place) (m : ℕ) → m ≢ n → Queued q m → Queued (only (λ r. not (eqb r.number n)) q) m
left_old n q m ne h =
    (h.0, only_has (λ r. not (eqb r.number n)) q h.0 h.1 (ap not (ne_eqb h.0.number n (λ e. ne (sym h.2 ∙ e)))), h.2)

-- came by a Quick
by_quick : Phase → Bool
by_quick Fresh = false
by_quick (Taken q) = q
by_quick Out = false
by_quick Cancelled = false
by_quick Done = false

quick_is : (q r : Bool) → Taken q ≡ Taken r → q ≡ r
unfolding by_quick
quick_is q r e = ap by_quick e

not_done : (q : Bool) → Taken q ≡ Done → ⊥
not_done q e = subst IsTaken e tt

taken_active : (p : Phase) → IsTaken p → IsActive p
taken_active Fresh h = h
taken_active (Taken q) h = h
taken_active Out h = h
taken_active Cancelled h = h
taken_active Done h = absurd h

-- ---- each event

module _ (M : Model) (laws : Laws M) (start : ℕ → M.State) (w : World M) (sound : Sound M start w) where
  -- the entries of a number stay where a move leaves the log
  same_entries : (s n m : ℕ) (p : Phase) (x : Shard M) → x.log ≡ (w.shard s).log →
      entries M (logs M (moved M s n p x w)) m ≡ entries M (logs M w) m
  same_entries s n m p x e = λ i t. same t i
    where
      same : (t : ℕ) → own M m (logs M (moved M s n p x w) t) ≡ own M m (logs M w t)
      same t = put_case (λ y. own M m y.log ≡ own M m (w.shard t).log) s t x w.shard
          (λ j. ap (own M m) e ∙ ap (λ u. own M m (w.shard u).log) (sym j)) (λ _. refl)

  same_finished : (s n : ℕ) (p : Phase) (x : Shard M) → x.log ≡ (w.shard s).log → Finished M w n →
      Finished M (moved M s n p x w) n
  same_finished s n p x e f = subst (Whole M (w.call n)) (sym (same_entries s n n p x e)) f

  -- a move that leaves the log ends no call that hadn't run all its hops
  still_whole : (s n : ℕ) (p : Phase) (x : Shard M) → x.log ≡ (w.shard s).log → (p ≡ Done → Finished M w n) →
      ((p ≡ Done) ⊎ ((t : ℕ) × (t ≢ s) × (w.phase t n ≡ Done))) → Finished M (moved M s n p x w) n
  still_whole s n p x e f (inl d) = same_finished s n p x e (f d)
  still_whole s n p x e f (inr v) = same_finished s n p x e (sound.done v.0 n v.2)

  -- a call comes and waits
  taken_sound : (quick : Bool) (s n : ℕ) (k : M.Keys) → CanOffer M w s n → M.footprint (w.call n) s ≡ Some k →
      (quick ≡ true → M.quick (w.call n) ≡ true) → takes M n k (w.shard s) ≡ true →
      Sound M start (moved M s n (Taken quick) (enqueue M n k (w.shard s)) w)
  taken_sound quick s n k can fp q t =
      let a = and_parts (ltb (w.shard s).ran n) (is_free M k (w.shard s).holders || not (ltb n (tail (w.shard s).queue))) t in
      let place : Place = record { number = n; granted = is_free M k (w.shard s).holders } in
      let right : (is_free M k (w.shard s).holders ≡ true) ⊎ (tail (w.shard s).queue ≤ n) =
      elim (or_cases (is_free M k (w.shard s).holders) (not (ltb n (tail (w.shard s).queue))) a.1)
      [ inl f ↦ inl f | inr g ↦ inr (ltb-false n (tail (w.shard s).queue) (not-true (ltb n (tail (w.shard s).queue)) g)) ]
      in
      moved_sound M start w s n (Taken quick) (enqueue M n k (w.shard s)) sound record {
        kept = kept_enqueue M laws w.call s (start s) (w.shard s) n k (sound.shards s) fp
            (fresh_queue M start w sound s n can.fresh) (ltb-true (w.shard s).ran n a.0) right;
        live = can.drawn;
        queue_in = λ p h. elim (has_insert place (w.shard s).queue p h) [
          | inl e ↦ ((λ _. tt), (λ ne. absurd (ne (sym (ap (λ r. r.number) e)))))
          | inr m ↦ ((λ _. tt), (λ _. m))
        ];
        queue_new = λ _. (place, insert_has_new place (w.shard s).queue, refl);
        queue_old = λ m ne h. (h.0, insert_has_old place (w.shard s).queue h.0 h.1, h.2);
        log_in = λ e h. inl h;
        asked = can.named;
        quick = λ e. q (quick_is quick true e);
        act = λ t e h i. tt;
        own_old = λ m ne. refl;
        good = sound.good s;
        clean = sound.clean s;
        whole = still_whole s n (Taken quick) (enqueue M n k (w.shard s)) refl (λ d. absurd (not_done quick d));
      }

  -- a call is refused, or finds no memory
  out_sound : (s n : ℕ) → CanOffer M w s n → Sound M start (moved M s n Out (w.shard s) w)
  out_sound s n can = moved_sound M start w s n Out (w.shard s) sound record {
    kept = sound.shards s;
    live = can.drawn;
    queue_in = λ p h. ((λ e. absurd (fresh_queue M start w sound s n can.fresh p h e)), (λ _. h));
    queue_new = λ t. absurd t;
    queue_old = λ m ne h. h;
    log_in = λ e h. inl h;
    asked = can.named;
    quick = λ e. absurd (subst IsTaken (sym e) tt);
    act = λ t e h i. absurd (fresh_entry M start w sound s n can.fresh can.named t e h i);
    own_old = λ m ne. refl;
    good = sound.good s;
    clean = sound.clean s;
    whole = still_whole s n Out (w.shard s) refl (λ d. absurd (subst IsActive (sym d) tt));
  }

  offered_sound : (quick : Bool) (s n : ℕ) (memory : Bool) → CanOffer M w s n →
      (quick ≡ true → M.quick (w.call n) ≡ true) → (f : Option M.Keys) → M.footprint (w.call n) s ≡ f →
      Sound M start (offered M quick s n memory f w)
  offered_sound quick s n memory can q None e = absurd (can.named e)
  offered_sound quick s n memory can q (Some k) e = go (memory && takes M n k (w.shard s)) refl
    where
      go : (b : Bool) → memory && takes M n k (w.shard s) ≡ b →
          Sound M start (if b then moved M s n (Taken quick) (enqueue M n k (w.shard s)) w else moved M s n Out (w.shard s) w)
      go true i = taken_sound quick s n k can e q (and_parts memory (takes M n k (w.shard s)) i).1
      go false i = out_sound s n can

  -- a waiting call leaves without a hop: none ran, since another shard is without it
  cancel_sound : (s n : ℕ) → CanCancel M w s n → Sound M start (moved M s n Cancelled (leave M n (w.shard s)) w)
  cancel_sound s n can = moved_sound M start w s n Cancelled (leave M n (w.shard s)) sound record {
    kept = kept_leave M w.call s (start s) (w.shard s) n (sound.shards s);
    live = sound.drawn s n (λ e. subst IsTaken e can.taken);
    queue_in = λ p h. ((λ e. absurd ((left_in n (w.shard s).queue p h).1 e)), (λ _. (left_in n (w.shard s).queue p h).0));
    queue_new = λ t. absurd t;
    queue_old = left_old n (w.shard s).queue;
    log_in = λ e h. inl h;
    asked = sound.asked s n (λ e. subst IsTaken e can.taken);
    quick = λ e. absurd (subst IsTaken (sym e) tt);
    act = λ t e h i. absurd
        (subst IsActive (ap (w.phase can.other.0) i ∙ can.other.2)
        (sound.active t e h can.other.0 (subst (λ m. M.footprint (w.call m) can.other.0 ≢ None) (sym i) can.other.1)));
    own_old = λ m ne. refl;
    good = sound.good s;
    clean = sound.clean s;
    whole = still_whole s n Cancelled (leave M n (w.shard s)) refl (λ d. absurd (subst IsActive (sym d) tt));
  }

  -- a waiting call leaves after all its hops
  conclude_sound : (s n : ℕ) → CanConclude M w s n → Sound M start (moved M s n Done (leave M n (w.shard s)) w)
  conclude_sound s n can = moved_sound M start w s n Done (leave M n (w.shard s)) sound record {
    kept = kept_leave M w.call s (start s) (w.shard s) n (sound.shards s);
    live = sound.drawn s n (λ e. subst IsTaken e can.taken);
    queue_in = λ p h. ((λ e. absurd ((left_in n (w.shard s).queue p h).1 e)), (λ _. (left_in n (w.shard s).queue p h).0));
    queue_new = λ t. absurd t;
    queue_old = left_old n (w.shard s).queue;
    log_in = λ e h. inl h;
    asked = sound.asked s n (λ e. subst IsTaken e can.taken);
    quick = λ e. absurd (subst IsTaken (sym e) tt);
    act = λ t e h i. tt;
    own_old = λ m ne. refl;
    good = sound.good s;
    clean = sound.clean s;
    whole = still_whole s n Done (leave M n (w.shard s)) refl (λ d. can.ran);
  }

  -- the entries after one more on s
  pushed_here : (s n : ℕ) (p : Phase) (e : M.Entry) (x : Shard M) → x.log ≡ (w.shard s).log ++ e ∷ [] → M.number e ≡ n →
      entries M (logs M (moved M s n p x w)) n s ≡ entries M (logs M w) n s ++ e ∷ []
  pushed_here s n p e x l i = ap (λ y. own M n y.log) (put_same s s x w.shard refl) ∙ ap (own M n) l ∙ own_more M n e (w.shard s).log i

  pushed_there : (s n : ℕ) (p : Phase) (x : Shard M) (t : ℕ) → t ≢ s →
      entries M (logs M (moved M s n p x w)) n t ≡ entries M (logs M w) n t
  pushed_there s n p x t ne = ap (λ y. own M n y.log) (put_other s t x w.shard ne)

  -- what is staged stays its call's to write
  entered_good : (s n : ℕ) (e : M.Entry) → M.number e ≡ n → M.Tells s (w.call n) e (w.shard s).state → (m : ℕ) →
      m < w.counter → M.Good s (w.call m) m (M.effect e (w.shard s).state)
  entered_good s n e i told m lt = elim (eqb_tells m n) [
    | inl y ↦ (let q : M.number e ≡ m = i ∙ sym y.1 in
        subst (λ k. M.Good s (w.call m) k (M.effect e (w.shard s).state)) q
        (laws.good_own s (w.call m) e (w.shard s).state
        (subst (λ k. M.Tells s (w.call k) e (w.shard s).state) (sym y.1) told)
        (subst (λ k. M.Good s (w.call m) k (w.shard s).state) (sym q) (sound.good s m lt))))
    | inr y ↦ laws.good_other s (w.call m) m e (w.shard s).state (λ q. y.1 (sym q ∙ i)) (sound.good s m lt)
  ]

  entered_clean : (s n : ℕ) (e : M.Entry) → M.number e ≡ n → (0 < n) × (n < w.counter) → (m : ℕ) (c : M.Call) →
      w.counter ≤ m → M.Good s c m (M.effect e (w.shard s).state)
  entered_clean s n e i live m c ge = laws.good_other s c m e (w.shard s).state (omega (arith, i, live.1)) (sound.clean s m c ge)

  -- a Quick runs at once
  quick_sound : (s n : ℕ) (memory : Bool) (e : M.Entry) (k : M.Keys) → CanQuick M w s n memory e →
      M.footprint (w.call n) s ≡ Some k → runs_at_once M n memory (Some k) (w.shard s) ≡ true →
      Sound M start (moved M s n Done (enter M e (w.shard s)) w)
  quick_sound s n memory e k can fp r =
      let x = w.shard s in
      let a = and_parts memory (ltb x.ran n && is_free M k x.holders) r in
      let b = and_parts (ltb x.ran n) (is_free M k x.holders) a.1 in
      let above : x.ran < n = ltb-true x.ran n b.0 in
      let fits : Fits M s (w.call n) e x.state = (
        can.told (ap (λ f. runs_at_once M n memory f x) fp ∙ r),
        subst (λ m. M.Good s (w.call n) m x.state) (sym can.number) (sound.good s n can.offer.drawn.1),
      ) in
      let nil : (t : ℕ) → own M n (w.shard t).log ≡ [] = λ t. nil_none (own M n (w.shard t).log) (λ f h.
      let o = has_own M n (w.shard t).log f h in
      fresh_entry M start w sound s n can.offer.fresh can.offer.named t f o.0 o.1) in
      moved_sound M start w s n Done (enter M e x) sound record {
        kept = kept_at_once M laws w.call s (start s) x n k e (sound.shards s) fp b.1 above can.number fits;
        live = can.offer.drawn;
        queue_in = λ p h. ((λ i. absurd (fresh_queue M start w sound s n can.offer.fresh p h i)), (λ _. h));
        queue_new = λ t. absurd t;
        queue_old = λ m ne h. h;
        log_in = λ f h. elim (has_last x.log e f h) [
          | inl o ↦ inl o
          | inr i ↦ inr record {
            number = sym (ap M.number i) ∙ can.number;
            named = can.offer.named;
            here = tt;
            elsewhere = λ u l ne. absurd (ne (laws.quick_one (w.call n) s u can.quick can.offer.named l));
          }
        ];
        asked = can.offer.named;
        quick = λ d. absurd (subst IsTaken (sym d) tt);
        act = λ t f h i. tt;
        own_old = λ m ne. own_no_more M m e x.log (λ i. ne (sym i ∙ can.number));
        good = entered_good s n e can.number fits.0;
        clean = entered_clean s n e can.number can.offer.drawn;
        whole = λ _. laws.quick_whole (w.call n) (λ t. []) (entries M (logs M (moved M s n Done (enter M e x) w)) n) s
            e can.quick can.next
            (pushed_here s n Done e (enter M e x) refl can.number ∙ ap (λ l. l ++ e ∷ []) (nil s))
            (λ t ne. pushed_there s n Done (enter M e x) t ne ∙ nil t);
      }

  -- a waiting call runs a hop
  hop_kept : (s n : ℕ) (e : M.Entry) → CanHop M w s n e → Kept M w.call s (start s) (enter M e (w.shard s))
  hop_kept s n e can =
      kept_hop M laws w.call s (start s) (w.shard s) n e (sound.shards s) can.turn can.number (
        can.told,
        subst (λ m. M.Good s (w.call n) m (w.shard s).state) (sym can.number)
            (sound.good s n (queued_drawn M start w sound s n (can.turn.0, can.turn.1, can.turn.2)).1),
      )
      (λ f h. laws.next_rises (w.call n) (entries M (logs M w) n) s e f can.next h)

  hop_log : (s n : ℕ) (e : M.Entry) (p : Phase) → CanHop M w s n e → IsActive p → (f : M.Entry) →
      Has ((w.shard s).log ++ e ∷ []) f → Has (w.shard s).log f ⊎ Enters M w s n p f
  hop_log s n e p can act f h = elim (has_last (w.shard s).log e f h) [
    | inl o ↦ inl o
    | inr i ↦ inr record {
      number = sym (ap M.number i) ∙ can.number;
      named = laws.next_named (w.call n) (entries M (logs M w) n) s e can.next;
      here = act;
      elsewhere = λ u l ne. taken_active (w.phase u n) (can.taken u l);
    }
  ]

  -- it goes on waiting
  wait_sound : (s n : ℕ) (e : M.Entry) → CanHop M w s n e → w.phase s n ≡ Taken false →
      Sound M start (moved M s n (Taken false) (enter M e (w.shard s)) w)
  wait_sound s n e can ph = moved_sound M start w s n (Taken false) (enter M e (w.shard s)) sound record {
    kept = hop_kept s n e can;
    live = sound.drawn s n (λ i. subst IsTaken (sym ph ∙ i) tt);
    queue_in = λ p h. ((λ _. tt), (λ _. h));
    queue_new = λ _. sound.queued s n (subst IsTaken (sym ph) tt);
    queue_old = λ m ne h. h;
    log_in = hop_log s n e (Taken false) can tt;
    asked = laws.next_named (w.call n) (entries M (logs M w) n) s e can.next;
    quick = λ d. absurd (false≢true (quick_is false true d));
    act = λ t f h i. tt;
    own_old = λ m ne. own_no_more M m e (w.shard s).log (λ i. ne (sym i ∙ can.number));
    good = entered_good s n e can.number can.told;
    clean = entered_clean s n e can.number (sound.drawn s n (λ i. subst IsTaken (sym ph ∙ i) tt));
    whole = λ d. elim d [
      | inl i ↦ absurd (not_done false i)
      | inr v ↦ absurd (subst IsTaken v.2 (can.taken v.0 (sound.asked v.0 n (λ i. subst IsActive (sym v.2 ∙ i) tt))))
    ];
  }

  -- it came by a Quick, so it leaves
  last_sound : (s n : ℕ) (e : M.Entry) → CanHop M w s n e → w.phase s n ≡ Taken true →
      Sound M start (moved M s n Done (leave M n (enter M e (w.shard s))) w)
  last_sound s n e can ph = moved_sound M start w s n Done (leave M n (enter M e (w.shard s))) sound record {
    kept = kept_leave M w.call s (start s) (enter M e (w.shard s)) n (hop_kept s n e can);
    live = sound.drawn s n (λ i. subst IsTaken (sym ph ∙ i) tt);
    queue_in = λ p h. ((λ i. absurd ((left_in n (w.shard s).queue p h).1 i)), (λ _. (left_in n (w.shard s).queue p h).0));
    queue_new = λ t. absurd t;
    queue_old = left_old n (w.shard s).queue;
    log_in = hop_log s n e Done can tt;
    asked = laws.next_named (w.call n) (entries M (logs M w) n) s e can.next;
    quick = λ d. absurd (subst IsTaken (sym d) tt);
    act = λ t f h i. tt;
    own_old = λ m ne. own_no_more M m e (w.shard s).log (λ i. ne (sym i ∙ can.number));
    good = entered_good s n e can.number can.told;
    clean = entered_clean s n e can.number (sound.drawn s n (λ i. subst IsTaken (sym ph ∙ i) tt));
    whole = λ _. laws.quick_whole (w.call n) (entries M (logs M w) n)
        (entries M (logs M (moved M s n Done (leave M n (enter M e (w.shard s))) w)) n) s e (sound.by_quick s n ph)
        can.next
        (pushed_here s n Done e (leave M n (enter M e (w.shard s))) refl can.number)
        (pushed_there s n Done (leave M n (enter M e (w.shard s))));
  }

  hopped_sound : (s n : ℕ) (e : M.Entry) → CanHop M w s n e → (p : Phase) → w.phase s n ≡ p →
      Sound M start (hopped M s n e p w)
  hopped_sound s n e can Fresh i = sound
  hopped_sound s n e can (Taken true) i = last_sound s n e can i
  hopped_sound s n e can (Taken false) i = wait_sound s n e can i
  hopped_sound s n e can Out i = sound
  hopped_sound s n e can Cancelled i = sound
  hopped_sound s n e can Done i = sound

  -- a call draws its number
  draw_sound : (k : ℕ) (c : M.Call) → Sound M start (after M w (Draw k c))
  draw_sound k c = record {
    shards = λ s. kept_calls M w.call (put w.counter c w.call) s (start s) (w.shard s)
        (λ p h. same p.number (place_drawn M start w sound s p h).1)
        (λ e h. same (M.number e) (entry_drawn M start w sound s e h).1) (sound.shards s);
    queued = sound.queued;
    taken = sound.taken;
    active = λ s e h t l. sound.active s e h t
        (subst (λ d. M.footprint d t ≢ None) (sym (same (M.number e) (entry_drawn M start w sound s e h).1)) l);
    named = λ s e h. subst (λ d. M.footprint d s ≢ None) (same (M.number e) (entry_drawn M start w sound s e h).1) (sound.named s e h);
    done = λ s n d. subst (λ c. Whole M c (entries M (logs M w) n))
        (same n (sound.drawn s n (λ i. subst IsActive (sym d ∙ i) tt)).1) (sound.done s n d);
    drawn = λ s n h. let d = sound.drawn s n h in (d.0, omega (arith, d.1));
    asked = λ s n h. subst (λ d. M.footprint d s ≢ None) (same n (sound.drawn s n h).1) (sound.asked s n h);
    by_quick = λ s n h. subst (λ d. M.quick d ≡ true) (same n (sound.drawn s n (λ i. subst IsTaken (sym h ∙ i) tt)).1)
        (sound.by_quick s n h);
    good = λ s n lt. elim (cases_lt n w.counter) [
      | inl l ↦ subst (λ d. M.Good s d n (w.shard s).state) (same n l) (sound.good s n l)
      | inr ge ↦ sound.clean s n (put w.counter c w.call n) ge
    ];
    clean = λ s n d ge. sound.clean s n d (omega arith);
    counted = omega (arith, sound.counted);
  }
    where
      same : (n : ℕ) → n < w.counter → w.call n ≡ put w.counter c w.call n
      same n lt = sym (put_other w.counter n c w.call (omega arith))

  pub event_sound : (e : Event M) → Happens M w e → Sound M start (after M w e)
  event_sound (Draw k c) can = draw_sound k c
  event_sound (Schedule s n memory) can = offered_sound false s n memory can (λ e. absurd (false≢true e))
      (M.footprint (w.call n) s) refl
  event_sound (Quick s n memory e) can = go (M.footprint (w.call n) s) refl
    where
      go : (f : Option M.Keys) → M.footprint (w.call n) s ≡ f →
          Sound M start
          (if runs_at_once M n memory f (w.shard s) then moved M s n Done (enter M e (w.shard s)) w else offered M true s n memory f w)
      go None i = absurd (can.offer.named i)
      go (Some k) i = now (runs_at_once M n memory (Some k) (w.shard s)) refl
        where
          now : (b : Bool) → runs_at_once M n memory (Some k) (w.shard s) ≡ b →
              Sound M start (if b then moved M s n Done (enter M e (w.shard s)) w else offered M true s n memory (Some k) w)
          now true j = quick_sound s n memory e k can i j
          now false j = offered_sound true s n memory can.offer (λ _. can.quick) (Some k) i
  event_sound (Hop s n e) can = hopped_sound s n e can (w.phase s n) refl
  event_sound (Cancel s n) can = cancel_sound s n can
  event_sound (Conclude s n) can = conclude_sound s n can
  event_sound (Bucket_write s) can = sound

-- ---- runs

pub first_sound : (M : Model) (start : ℕ → M.State) (idle : M.Call) → ((s : ℕ) → Unstaged M s (start s)) → Sound M start (first M idle start)
first_sound M start idle unstaged = record {
  shards = λ s. kept_first M (λ n. idle) s (start s);
  queued = λ s n h. absurd h;
  taken = λ s p h. absurd h;
  active = λ s e h. absurd h;
  named = λ s e h. absurd h;
  done = λ s n d. absurd (subst IsActive (sym d) tt);
  drawn = λ s n h. absurd (h refl);
  asked = λ s n h. absurd (h refl);
  by_quick = λ s n d. absurd (subst IsActive (sym d) tt);
  good = λ s n lt. (unstaged s).good n idle;
  clean = λ s n d ge. (unstaged s).good n d;
  counted = omega arith;
}

pub runs_sound : (M : Model) (laws : Laws M) (start : ℕ → M.State) (es : List (Event M)) (w last : World M) →
    Sound M start w → Runs M w es last → Sound M start last
runs_sound M laws start [] w last sound r = subst (Sound M start) r sound
runs_sound M laws start (e ∷ es) w last sound r =
    runs_sound M laws start es (after M w e) last (event_sound M laws start w sound e r.0) r.1
