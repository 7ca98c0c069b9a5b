-- The hash of a key (FNV-1a of 64 bits), and the shard on which a key stands.
use Rattle.std.specs.Prelude.{ℕ, ◌*◌, ◌%◌, ◌^◌, [], ◌∷◌, bit_xor}
use Rattle.df_model.specs.Values.{Bytes}

-- the hash goes on with these bytes: each is first combined by exclusive or, then the prime is multiplied in
abbrev pub fnv_from : ℕ → Bytes → ℕ
fnv_from hash [] = hash
fnv_from hash (b ∷ bytes) = fnv_from (bit_xor hash b * 0x100000001b3 % 2 ^ 64) bytes

abbrev pub fnv64 : Bytes → ℕ
fnv64 key = fnv_from 0xcbf29ce484222325 key

abbrev pub shard_of : Bytes → ℕ → ℕ
shard_of key shards = fnv64 key % shards
