use Rattle.std.proofs.Common.{◌≡◌, length, take}
use Rattle.df_plan.specs.Plans.{AllReady}
use Rattle.df_plan.proofs.plan.Plan.add_turns.Given as goal

-- the turns so far are those of the commands so far
abbrev pub invariant-commands : goal.invariant-commands
invariant-commands l = record {
  at : l.self.at ≡ l.fn.self.at;
  said : l.self.said ≡ l.fn.self.said;
  room : length l.keys.items ≡ l.shards;
  ready : AllReady l.shards (take l.command-index l.commands) l.self.turns.items;
}
