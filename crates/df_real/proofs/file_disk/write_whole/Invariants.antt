use Rattle.std.proofs.Common.{length}
use Rattle.df_real.proofs.file_disk.write_whole.Given as goal

abbrev pub decreases-writes : goal.decreases-writes
decreases-writes l = length l.rest
