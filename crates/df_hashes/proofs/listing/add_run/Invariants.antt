use Rattle.std.proofs.Common.{◌≡◌, ◌++◌, drop}
use Rattle.std.specs.List.{flat_map}
use Rattle.df_hashes.specs.Parts.{entry_bytes}
use Rattle.df_hashes.proofs.listing.add_run.Given as goal

abbrev pub invariant-entries : goal.invariant-entries
invariant-entries l = l.reply ++ flat_map (entry_bytes l.part) (drop l.entry-index l.run) ≡ l.initial.reply ++ flat_map (entry_bytes l.part) l.run
