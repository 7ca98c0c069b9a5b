use Rattle.std.proofs.Common.{◌≡◌, drop}
use Rattle.std.specs.List.{concat}
use Rattle.df_rdbcore.specs.Crc.{crc_from}
use Rattle.df_rdbcore.proofs.crc.with_eights.Given as goal

abbrev pub invariant-eights : goal.invariant-eights
invariant-eights l = crc_from l.sum (concat (drop l.eight-index l.eights)) ≡ crc_from l.fn.from (concat l.eights)
