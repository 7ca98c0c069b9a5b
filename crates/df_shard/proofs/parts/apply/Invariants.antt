use Rattle.std.proofs.Common.{◌≡◌, ◌+◌, length}
use Rattle.df_log.specs.Changes.{with_changes}
use Rattle.df_shard.specs.Holds.{changes_seen, puts_in}
use Rattle.df_shard.proofs.parts.apply.Given as goal

abbrev pub invariant-changes : goal.invariant-changes
invariant-changes l = record {
  keys : with_changes (changes_seen l.staged.items) l.table.keys ≡ with_changes (changes_seen l.fn.staged.items) l.fn.table.keys;
  kept : l.table.kept + puts_in (changes_seen l.fn.staged.items) ≡ l.fn.table.kept + puts_in (changes_seen l.staged.items);
}

abbrev pub decreases-changes : goal.decreases-changes
decreases-changes l = length l.staged.items
