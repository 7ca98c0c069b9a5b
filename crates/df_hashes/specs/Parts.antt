-- What is told of a hash as a whole.
use Rattle.std.specs.Prelude.{ℕ, ◌+◌, ◌++◌}
use Rattle.df_model.specs.Values.{Bytes, Fields}
use Rattle.df_model.specs.Meaning.Hashes as hashes
use Rattle.df_model.specs.Replies.{encoding_of}
use Rattle.df_model.specs.declared.reply.Reply.{Reply}
use Rattle.df_model.specs.declared.reply.Reply.TheVariants.{Bulk}
use Rattle.df_hashes.specs.declared.listing.Part.{Part}
use Rattle.df_hashes.specs.declared.listing.Part.TheVariants as parts

abbrev pub part_row : Part → Fields → Reply
part_row parts.Fields = hashes.hkeys
part_row parts.Words = hashes.hvals
part_row parts.Both = hashes.hgetall

-- the bytes for one entry
abbrev pub entry_bytes : Part → Bytes × Bytes → Bytes
entry_bytes parts.Fields entry = encoding_of (Bulk entry.0)
entry_bytes parts.Words entry = encoding_of (Bulk entry.1)
entry_bytes parts.Both entry = encoding_of (Bulk entry.0) ++ encoding_of (Bulk entry.1)

-- how many bulks there are for so many entries
abbrev pub bulk_count : Part → ℕ → ℕ
bulk_count parts.Fields n = n
bulk_count parts.Words n = n
bulk_count parts.Both n = n + n
