use Rattle.std.proofs.Common.{◌≡◌, ◌≤◌, ◌++◌, List, length}
use Rattle.df_model.specs.Keyspace.{Keyspace}
use Rattle.df_desk.specs.declared.exec.Part.{Part}
use Rattle.df_desk.specs.Parts.{GaveAll}
use Rattle.df_desk.proofs.exec.run_each.Given as goal

-- whatever the commands that are left come to, all of them come to the parts so far and those
abbrev pub invariant-commands : goal.invariant-commands
invariant-commands l = record {
  counts : length l.command-iterator.rest.items ≡ l.command-iterator.rest.len;
  room : length l.command-iterator.rest.items ≤ l.parts.spare;
  so_far : (more : List Part) (after : Keyspace) → GaveAll l.command-iterator.rest.items more l.table.keys after → GaveAll l.fn.commands.items (l.parts.items ++ more) l.fn.table.keys after;
}
