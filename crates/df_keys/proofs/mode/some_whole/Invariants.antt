use Rattle.std.proofs.Common.{◌≡◌, drop}
use Rattle.df_footprints.specs.Footprints.{some_whole}
use Rattle.df_keys.proofs.mode.some_whole.Given as goal

-- what is left tells of all
abbrev pub invariant-commands : goal.invariant-commands
invariant-commands l = some_whole (drop l.command-index l.commands) ≡ some_whole l.commands
