use Rattle.std.proofs.Common.{◌≡◌, ◌++◌, ◌-◌, ◌≤◌, drop}
use Rattle.std.specs.List.{flat_map}
use Rattle.std.specs.FinMap as map
use Rattle.df_model.specs.Replies.{encoding_of}
use Rattle.df_hashes.specs.Parts.{part_row, entry_bytes}
use Rattle.df_hashes.proofs.listing.list.Given as goal

abbrev pub invariant-runs : goal.invariant-runs
invariant-runs l =
    record { within : l.at ≤ map.len l.hash.fields; told : l.reply ++ flat_map (entry_bytes l.part) (drop l.at (map.entries l.hash.fields)) ≡ encoding_of (part_row l.part l.hash.fields) }

abbrev pub decreases-runs : goal.decreases-runs
decreases-runs l = map.len l.hash.fields - l.at
