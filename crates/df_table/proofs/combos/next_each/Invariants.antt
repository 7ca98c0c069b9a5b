use Rattle.std.proofs.Common.{◌≡◌, drop, map}
use Rattle.df_sets.specs.Combined.{folded}
use Rattle.df_table.specs.HeldSets.{set_at}
use Rattle.df_table.proofs.combos.next_each.Given as goal

abbrev pub invariant-keys : goal.invariant-keys
invariant-keys l = folded l.op l.so_far.members (map (set_at l.table.keys) (drop l.key-index l.keys)) ≡ folded l.op l.fn.so_far.members (map (set_at l.table.keys) l.keys)
