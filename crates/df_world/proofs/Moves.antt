-- One shard and one number move, and the world stays sound.
use Rattle.std.proofs.Common.{◌≡◌, ◌≢◌, ◌⊎◌, ℕ, ◌<◌, ◌≤◌, true, None, inl, inr, refl, sym, ap, ◌∙◌, subst}
use Rattle.std.proofs.lemmas.Bool.Decides.{eqb_tells}
use Rattle.df_order.specs.Lists.{Has}
use Rattle.df_order.specs.Puts.{put}
use Rattle.df_order.specs.Model.{Model, Whole, own}
use Rattle.df_order.specs.Histories.{entries}
use Rattle.df_order.specs.Shards.{Place, Shard, Queued, Kept}
use Rattle.df_order.proofs.Puts.{put_case}
use Rattle.df_world.specs.World.{Phase, Fresh, Taken, Done, IsTaken, IsActive, World, logs, moved, Finished}
use Rattle.df_world.specs.Sound.{Sound}

-- an entry of n that a shard gets while n is at phase p there: n waits or is done on each shard that its call names
pub record Enters (M : Model) (w : World M) (s n : ℕ) (p : Phase) (e : M.Entry) : Type 0 where
  pub number : M.number e ≡ n
  pub named : M.footprint (w.call n) s ≢ None
  pub here : IsActive p
  pub elsewhere : (t : ℕ) → M.footprint (w.call n) t ≢ None → t ≢ s → IsActive (w.phase t n)

-- What a step owes that makes x of the shard s and leaves the number n at phase p there.
pub record Move (M : Model) (start : ℕ → M.State) (w : World M) (s n : ℕ) (p : Phase) (x : Shard M) : Type 0 where
  pub kept : Kept M w.call s (start s) x
  pub live : (0 < n) × (n < w.counter)
  pub asked : M.footprint (w.call n) s ≢ None
  pub quick : p ≡ Taken true → M.quick (w.call n) ≡ true
  -- n is queued exactly if it is taken, and other numbers as they were
  pub queue_in : (q : Place) → Has x.queue q → (q.number ≡ n → IsTaken p) × (q.number ≢ n → Has (w.shard s).queue q)
  pub queue_new : IsTaken p → Queued x.queue n
  pub queue_old : (m : ℕ) → m ≢ n → Queued (w.shard s).queue m → Queued x.queue m
  -- further entries are of n alone
  pub log_in : (e : M.Entry) → Has x.log e → Has (w.shard s).log e ⊎ Enters M w s n p e
  pub own_old : (m : ℕ) → m ≢ n → own M m x.log ≡ own M m (w.shard s).log
  pub act : (t : ℕ) (e : M.Entry) → Has (w.shard t).log e → M.number e ≡ n → IsActive p
  pub whole : ((p ≡ Done) ⊎ ((t : ℕ) × (t ≢ s) × (w.phase t n ≡ Done))) → Finished M (moved M s n p x w) n
  -- what is staged is its call's to write
  pub good : (m : ℕ) → m < w.counter → M.Good s (w.call m) m x.state
  pub clean : (m : ℕ) (c : M.Call) → w.counter ≤ m → M.Good s c m x.state

module _ (M : Model) (start : ℕ → M.State) (w : World M) (s n : ℕ) (p : Phase) (x : Shard M) (sound : Sound M start w) (change : Move M start w s n p x) where
  -- what holds of the changed shard and of the others holds of each
  shard_case : (P : Shard M → Type 0) (t : ℕ) → (t ≡ s → P x) → (t ≢ s → P (w.shard t)) →
      P ((moved M s n p x w).shard t)
  shard_case P t a b = put_case P s t x w.shard a b

  phase_case : (P : Phase → Type 0) (t m : ℕ) → (t ≡ s → m ≡ n → P p) → ((t ≡ s → m ≡ n → ⊥) → P (w.phase t m)) →
      P ((moved M s n p x w).phase t m)
  phase_case P t m a b = put_case (λ f. P (f m)) s t (put n p (w.phase s)) w.phase
      (λ e. put_case P n m p (w.phase s) (λ i. a e i) (λ i. subst (λ u. P (w.phase u m)) e (b (λ _ j. i j))))
      (λ e. b (λ i _. e i))

  -- the entries of other numbers stay
  own_same : (m : ℕ) → m ≢ n → entries M (logs M (moved M s n p x w)) m ≡ entries M (logs M w) m
  own_same m ne = λ i t. same t i
    where
      same : (t : ℕ) → own M m (logs M (moved M s n p x w) t) ≡ own M m (logs M w t)
      same t = shard_case (λ y. own M m y.log ≡ own M m (logs M w t)) t
          (λ e. change.own_old m ne ∙ ap (λ u. own M m (logs M w u)) (sym e)) (λ e. refl)

  -- an entry was there, or is one of n on s
  new_entry : (t : ℕ) (e : M.Entry) → Has ((moved M s n p x w).shard t).log e →
      Has (w.shard t).log e ⊎ ((t ≡ s) × Enters M w s n p e)
  new_entry t e = shard_case (λ y. Has y.log e → Has (w.shard t).log e ⊎ ((t ≡ s) × Enters M w s n p e)) t
      (λ i h. elim (change.log_in e h) [ inl o ↦ inl (subst (λ u. Has (w.shard u).log e) (sym i) o) | inr v ↦ inr (i, v) ])
      (λ ne h. inl h)

  pub moved_sound : Sound M start (moved M s n p x w)
  moved_sound = record {
    shards = λ t. shard_case (λ y. Kept M w.call t (start t) y) t
        (λ e. subst (λ u. Kept M w.call u (start u) x) (sym e) change.kept) (λ e. sound.shards t);
    queued = λ t m. phase_case (λ f. IsTaken f → Queued ((moved M s n p x w).shard t).queue m) t m
        (λ e i h. shard_case (λ y. Queued y.queue m) t (λ _. subst (λ k. Queued x.queue k) (sym i) (change.queue_new h)) (λ ne. absurd (ne e)))
        (λ not h. shard_case (λ y. Queued y.queue m) t
        (λ e. change.queue_old m (λ i. not e i) (subst (λ u. Queued (w.shard u).queue m) e (sound.queued t m h))) (λ ne. sound.queued t m h));
    taken = λ t q. shard_case (λ y. Has y.queue q → IsTaken ((moved M s n p x w).phase t q.number)) t
        (λ e h. phase_case IsTaken t q.number (λ _ i. (change.queue_in q h).0 i)
        (λ not. subst (λ u. IsTaken (w.phase u q.number)) (sym e) (sound.taken s q ((change.queue_in q h).1 (λ i. not e i)))))
        (λ ne h. phase_case IsTaken t q.number (λ e i. absurd (ne e)) (λ _. sound.taken t q h));
    active = λ t e h u k. elim (new_entry t e h) [
      | inl old ↦ phase_case IsActive u (M.number e) (λ _ i. change.act t e old i) (λ _. sound.active t e old u k)
      | inr v ↦ phase_case IsActive u (M.number e) (λ _ _. v.1.here)
          (λ not. subst (λ m. IsActive (w.phase u m)) (sym v.1.number)
          (v.1.elsewhere u (subst (λ m. M.footprint (w.call m) u ≢ None) v.1.number k) (λ j. not j v.1.number)))
    ];
    named = λ t e h. elim (new_entry t e h) [
      | inl old ↦ sound.named t e old
      | inr v ↦ subst (λ m. M.footprint (w.call m) t ≢ None) (sym v.1.number)
          (subst (λ u. M.footprint (w.call n) u ≢ None) (sym v.0) v.1.named)
    ];
    done = λ t m. phase_case (λ f. f ≡ Done → Finished M (moved M s n p x w) m) t m
        (λ e i d. subst (λ k. Finished M (moved M s n p x w) k) (sym i) (change.whole (inl d)))
        (λ not d. elim (eqb_tells m n) [
          | inl y ↦ subst (λ k. Finished M (moved M s n p x w) k) (sym y.1)
              (change.whole (inr (t, (λ e. not e y.1), ap (w.phase t) (sym y.1) ∙ d)))
          | inr y ↦ subst (Whole M (w.call m)) (sym (own_same m y.1)) (sound.done t m d)
        ]);
    drawn = λ t m. phase_case (λ f. f ≢ Fresh → (0 < m) × (m < w.counter)) t m
        (λ e i _. subst (λ k. (0 < k) × (k < w.counter)) (sym i) change.live) (λ _ h. sound.drawn t m h);
    asked = λ t m. phase_case (λ f. f ≢ Fresh → M.footprint (w.call m) t ≢ None) t m
        (λ e i _. subst (λ k. M.footprint (w.call k) t ≢ None) (sym i) (subst (λ u. M.footprint (w.call n) u ≢ None) (sym e) change.asked))
        (λ _ h. sound.asked t m h);
    by_quick = λ t m. phase_case (λ f. f ≡ Taken true → M.quick (w.call m) ≡ true) t m
        (λ e i d. subst (λ k. M.quick (w.call k) ≡ true) (sym i) (change.quick d)) (λ _ h. sound.by_quick t m h);
    good = λ t m lt. shard_case (λ y. M.Good t (w.call m) m y.state) t
        (λ e. subst (λ u. M.Good u (w.call m) m x.state) (sym e) (change.good m lt)) (λ ne. sound.good t m lt);
    clean = λ t m c ge. shard_case (λ y. M.Good t c m y.state) t
        (λ e. subst (λ u. M.Good u c m x.state) (sym e) (change.clean m c ge)) (λ ne. sound.clean t m c ge);
    counted = sound.counted;
  }
