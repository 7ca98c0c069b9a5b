-- What a command does to the keys that it names: it sees the keyspace at these keys alone, and changes no other.
use Rattle.std.specs.Prelude.{Bool, ◌||◌, false, List, [], ◌∷◌, ◌++◌}
use Rattle.std.specs.FinMap as map
use Rattle.df_model.specs.Values.{Bytes}
use Rattle.df_model.specs.Keyspace.{Keyspace, held, with_held}
use Rattle.df_model.specs.Words.{same}
use Rattle.df_model.specs.Outcomes.{KeyRow, Change, settled}
use Rattle.df_model.specs.declared.reply.Reply.{Reply}

-- a reply, and the keyspace that is left
abbrev pub Meaning : Type 0
Meaning = Reply × Keyspace

-- the keys that are only read, those that may be written, and a row on the keyspace of all these
pub record Access : Type 0 where
  pub reads : List Bytes
  pub writes : List Bytes
  pub row : Keyspace → Meaning

-- the keys that an access names
abbrev pub names : Access → List Bytes
names a = a.reads ++ a.writes

abbrev pub among : List Bytes → Bytes → Bool
among [] key = false
among (k ∷ ks) key = same k key || among ks key

-- the keyspace at these keys alone
abbrev pub part : Keyspace → List Bytes → Keyspace
part K ks = map.retain_keys K (among ks)

-- the keyspace with what another one holds at these keys
abbrev pub taken_over : Keyspace → List Bytes → Keyspace → Keyspace
taken_over K [] new = K
taken_over K (k ∷ ks) new = with_held (taken_over K ks new) k (held new k)

-- what an access does to a keyspace
abbrev pub does : Access → Keyspace → Meaning
does a K =
    let out = a.row (part K (names a)) in
    (out.0, taken_over K a.writes out.1)

abbrev pub looking : List Bytes → (Keyspace → Reply) → Access
looking ks reply = record { reads = ks; writes = []; row = λ K. (reply K, K) }

abbrev pub changing : List Bytes → (Keyspace → Meaning) → Access
changing ks row = record { reads = []; writes = ks; row = row }

-- a row of one key
abbrev pub on_key : Bytes → KeyRow → Access
on_key key (KeyRow.Looks row) = looking (key ∷ []) (λ K. row (held K key))
on_key key (KeyRow.Changes row) =
    changing (key ∷ []) (λ K. ((row (held K key)).0, with_held K key (settled (row (held K key)).1 (held K key))))

-- the keyspace with this change of a key
abbrev pub with_change : Bytes → Change → Keyspace → Keyspace
with_change key change K = with_held K key (settled change (held K key))
