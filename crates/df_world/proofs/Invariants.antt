-- A sound world has the scheduler invariant on each shard.
use Rattle.std.proofs.Common.{ℕ, inl, inr, refl}
use Rattle.df_order.specs.Model.{Model, Laws}
use Rattle.df_order.specs.Histories.{entries}
use Rattle.df_order.proofs.Commute.{sorted}
use Rattle.df_world.specs.World.{World, logs, Unstaged}
use Rattle.df_world.specs.Sound.{Sound}
use Rattle.df_world.specs.Invariant.{Invariant}
use Rattle.df_world.proofs.SoundFacts.{entry_drawn, queued_drawn, waits_or_done}
use Rattle.df_world.proofs.Staged.{staged_queued}

pub invariant_of : (M : Model) (laws : Laws M) (start : ℕ → M.State) (w : World M) → Sound M start w → (s : ℕ) →
    Unstaged M s (start s) → Invariant M w start s
invariant_of M laws start w sound s unstaged =
    let kept = sound.shards s in
    record {
      sorted = kept.sorted;
      held = kept.held;
      holding = kept.holding;
      grants = kept.grants;
      ahead = kept.ahead;
      ran_is = kept.ran_is;
      drawn = entry_drawn M start w sound s;
      in_order = kept.in_order;
      complete = λ e h out. elim (waits_or_done M start w sound s e h) [
        | inl q ↦ absurd (out q)
        | inr all ↦ record { hops = entries M (logs M w) (M.number e); here = refl; whole = all }
      ];
      replayed = kept.replayed;
      sorts = sorted M laws w.call s w.counter (start s) (w.shard s).log kept.in_order
          (λ e h. (entry_drawn M start w sound s e h).1) kept.fitting;
      bare = λ n out. staged_queued M laws start w sound s n unstaged out;
      good = λ n q. sound.good s n (queued_drawn M start w sound s n q).1;
    }
