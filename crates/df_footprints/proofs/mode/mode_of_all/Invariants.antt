use Rattle.std.proofs.Common.{◌≡◌, drop}
use Rattle.std.specs.Prelude.{Some}
use Rattle.df_footprints.specs.Footprints.{mode_of_all, stronger}
use Rattle.df_footprints.proofs.mode.mode_of_all.Given as goal

-- the mode so far, and that of what is left, give that of all
abbrev pub invariant-commands : goal.invariant-commands
invariant-commands l = stronger l.mode (Some (mode_of_all (drop l.command-index l.commands))) ≡ mode_of_all l.commands
