-- Nothing is staged for who doesn't wait.
use Rattle.std.proofs.Common.{◌≡◌, ℕ, List, [], ◌∷◌, inl, inr, refl, sym, ap, ◌∙◌, subst}
use Rattle.std.proofs.lemmas.Bool.Decides.{eqb_tells}
use Rattle.df_order.specs.Lists.{Has}
use Rattle.df_order.specs.Model.{Model, Laws, own, replay}
use Rattle.df_order.specs.Histories.{entries}
use Rattle.df_order.specs.Shards.{Queued}
use Rattle.df_order.proofs.Commute.{own_same, own_other, has_own}
use Rattle.df_world.specs.World.{World, logs, Finished, Unstaged}
use Rattle.df_world.specs.Sound.{Sound}
use Rattle.df_world.proofs.SoundFacts.{waits_or_done}

-- what is staged for a number hangs on its own entries
slot_of : (M : Model) (laws : Laws M) (n : ℕ) (x y : M.State) (log : List M.Entry) → M.slot n x ≡ M.slot n y →
    M.slot n (replay M x log) ≡ M.slot n (replay M y (own M n log))
slot_of M laws n x y [] e = e
slot_of M laws n x y (f ∷ log) e = elim (eqb_tells (M.number f) n) [
  | inl i ↦ slot_of M laws n (M.effect f x) (M.effect f y) log (laws.slot_own n f x y i.1 e)
      ∙ ap (λ l. M.slot n (replay M y l)) (sym (own_same M n f log i.1))
  | inr i ↦ slot_of M laws n (M.effect f x) y log (laws.slot_other n f x i.1 ∙ e) ∙ ap (λ l. M.slot n (replay M y l))
      (sym (own_other M n f log i.1))
]

module _ (M : Model) (laws : Laws M) (start : ℕ → M.State) (w : World M) (sound : Sound M start w) where
  pub staged_queued : (s n : ℕ) → Unstaged M s (start s) → (Queued (w.shard s).queue n → ⊥) →
      M.slot n (w.shard s).state ≡ M.bare
  staged_queued s n unstaged out =
      ap (M.slot n) (sound.shards s).replayed ∙ slot_of M laws n (start s) (start s) (w.shard s).log refl ∙ go
      (own M n (w.shard s).log) refl
    where
      go : (l : List M.Entry) → own M n (w.shard s).log ≡ l →
          M.slot n (replay M (start s) (own M n (w.shard s).log)) ≡ M.bare
      go [] i = ap (λ l. M.slot n (replay M (start s) l)) i ∙ unstaged.bare n
      go (e ∷ l) i =
          let h = has_own M n (w.shard s).log e (subst (λ k. Has k e) (sym i) (inl refl)) in
          elim (waits_or_done M start w sound s e h.0) [
            | inl q ↦ absurd (out (subst (Queued (w.shard s).queue) h.1 q))
            | inr f ↦ laws.whole_bare (w.call n) (entries M (logs M w) n) n s (start s) (subst (Finished M w) h.1 f)
                (λ g m. (has_own M n (w.shard s).log g m).1) (unstaged.bare n)
          ]
