-- What follows for numbers, places and entries of a sound world.
use Rattle.std.proofs.Common.{◌≡◌, ◌≢◌, ◌⊎◌, ℕ, ◌<◌, inl, inr, None, refl, sym, ap, ◌∙◌, subst}
use Rattle.std.proofs.lemmas.Bool.{cases_lt}
use Rattle.df_order.specs.Lists.{Has}
use Rattle.df_order.specs.Model.{Model, Laws}
use Rattle.df_order.specs.Shards.{Place, Queued}
use Rattle.df_world.specs.World.{Phase, Fresh, Taken, Out, Cancelled, Done, IsTaken, IsActive, World, Finished}
use Rattle.df_world.specs.Sound.{Sound}

module _ (M : Model) (start : ℕ → M.State) (w : World M) (sound : Sound M start w) where
  -- a fresh number isn't queued and has no entry
  pub fresh_queue : (s n : ℕ) → w.phase s n ≡ Fresh → (q : Place) → Has (w.shard s).queue q → q.number ≢ n
  fresh_queue s n fresh q h e = subst IsTaken (ap (w.phase s) e ∙ fresh) (sound.taken s q h)

  pub fresh_entry : (s n : ℕ) → w.phase s n ≡ Fresh → M.footprint (w.call n) s ≢ None → (t : ℕ) (e : M.Entry) →
      Has (w.shard t).log e → M.number e ≡ n → ⊥
  fresh_entry s n fresh named t e h i = subst IsActive (ap (w.phase s) i ∙ fresh)
      (sound.active t e h s (subst (λ m. M.footprint (w.call m) s ≢ None) (sym i) named))

  -- who waits or ran was drawn
  pub place_drawn : (s : ℕ) (p : Place) → Has (w.shard s).queue p → (0 < p.number) × (p.number < w.counter)
  place_drawn s p h = sound.drawn s p.number (λ i. subst IsTaken i (sound.taken s p h))

  pub queued_drawn : (s n : ℕ) → Queued (w.shard s).queue n → (0 < n) × (n < w.counter)
  queued_drawn s n q = subst (λ m. (0 < m) × (m < w.counter)) q.2 (place_drawn s q.0 q.1)

  pub entry_drawn : (s : ℕ) (e : M.Entry) → Has (w.shard s).log e → (0 < M.number e) × (M.number e < w.counter)
  entry_drawn s e h = sound.drawn s (M.number e) (λ i. subst IsActive i (sound.active s e h s (sound.named s e h)))

  -- a log past the last shard is empty
  pub entry_within : Laws M → (s : ℕ) (e : M.Entry) → Has (w.shard s).log e → s < M.shards
  entry_within laws s e h = elim (cases_lt s M.shards) [
    | inl lt ↦ lt
    | inr ge ↦ absurd (sound.named s e h (laws.within (w.call (M.number e)) s ge))
  ]

  -- who has an entry waits here, or ran all its hops
  pub waits_or_done : (s : ℕ) (e : M.Entry) → Has (w.shard s).log e →
      Queued (w.shard s).queue (M.number e) ⊎ Finished M w (M.number e)
  waits_or_done s e h = go (w.phase s (M.number e)) refl (sound.active s e h s (sound.named s e h))
    where
      go : (p : Phase) → w.phase s (M.number e) ≡ p → IsActive p →
          Queued (w.shard s).queue (M.number e) ⊎ Finished M w (M.number e)
      go Fresh i a = absurd a
      go (Taken q) i a = inl (sound.queued s (M.number e) (subst IsTaken (sym i) tt))
      go Out i a = absurd a
      go Cancelled i a = absurd a
      go Done i a = inr (sound.done s (M.number e) i)
