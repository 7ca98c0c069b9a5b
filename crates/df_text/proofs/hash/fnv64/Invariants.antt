use Rattle.std.proofs.Common.{◌≡◌, drop}
use Rattle.df_model.specs.Hash as hashes
use Rattle.df_text.proofs.hash.fnv64.Given as goal

abbrev pub invariant-bytes : goal.invariant-bytes
invariant-bytes l = hashes.fnv64 l.key ≡ hashes.fnv_from l.hash (drop l.byte-index l.key)
