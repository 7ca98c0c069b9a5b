use Rattle.std.proofs.Common.{◌≡◌, ◌+◌, ◌≤◌, drop}
use Rattle.df_shard.specs.Holds.{changes_seen, puts_in}
use Rattle.df_shard.proofs.parts.count_puts.Given as goal

abbrev pub invariant-changes : goal.invariant-changes
invariant-changes l = (puts_in (changes_seen l.fn.changes) ≡ l.puts + puts_in (changes_seen (drop l.value-index l.changes))) × (l.puts ≤ l.value-index)
