use Rattle.std.proofs.Common.{◌≡◌, drop}
use Rattle.df_rdbcore.specs.Crc.{crc_from}
use Rattle.df_rdbcore.proofs.crc.with_bytes.Given as goal

abbrev pub invariant-bytes : goal.invariant-bytes
invariant-bytes l = crc_from l.sum (drop l.b-index l.bytes) ≡ crc_from l.fn.from l.bytes
