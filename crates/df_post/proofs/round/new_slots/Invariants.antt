use Rattle.std.proofs.Common.{◌≡◌, ℕ, length}
use Rattle.df_post.specs.declared.slot.Slot.TheVariants as in_slot
use Rattle.df_post.specs.Rounds.{slot_at}
use Rattle.df_post.proofs.round.new_slots.Given as goal

abbrev pub invariant-shards : goal.invariant-shards
invariant-shards l = (length l.slots.items ≡ l._shard) × ((s : ℕ) → slot_at s l.slots.items ≡ in_slot.Idle)
