use Rattle.std.proofs.Common.{◌≡◌, ◌≤◌, ◌++◌, length, drop}
use Rattle.std.specs.List.{concat, flat_map}
use Rattle.df_model.specs.Values.{Bytes}
use Rattle.df_rdbcore.specs.Crc.{crc_from}
use Rattle.df_rdbcore.proofs.crc.with_rows.Given as goal

-- what stands behind is at least as long as a row
abbrev pub invariant-rows : goal.invariant-rows
invariant-rows l = (rest : Bytes) → 32 ≤ length rest → crc_from l.lanes (flat_map concat (drop l.row-index l.others) ++ rest) ≡ crc_from l.fn.from (flat_map concat l.others ++ rest)
