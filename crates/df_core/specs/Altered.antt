-- Which keys a command changes, among those that it names.
use Rattle.std.specs.Prelude.{Bool, true, false, ◌&&◌, cond, Option, Some, None, List, [], ◌∷◌}
use Rattle.std.specs.Cmp.Lexicographic.{pointwise}
use Rattle.std.specs.FinMap as fin
use Rattle.df_model.specs.Values.{Bytes, Value}
use Rattle.df_model.specs.Keyspace.{Keyspace, held}
use Rattle.df_model.specs.Words.{same}
use Rattle.df_log.specs.Acts.{Changes}

-- one value and the other
abbrev pub same_value : Value → Value → Bool
same_value (Value.Str a) (Value.Str b) = same a b
same_value (Value.Elements a) (Value.Elements b) = pointwise same a b
same_value (Value.Hash a) (Value.Hash b) = pointwise (λ e f. same e.0 f.0 && same e.1 f.1) (fin.entries a) (fin.entries b)
same_value (Value.Set a) (Value.Set b) = pointwise (λ e f. same e.0 f.0) (fin.entries a) (fin.entries b)
same_value (Value.Str a) (Value.Elements b) = false
same_value (Value.Str a) (Value.Hash b) = false
same_value (Value.Str a) (Value.Set b) = false
same_value (Value.Elements a) (Value.Str b) = false
same_value (Value.Elements a) (Value.Hash b) = false
same_value (Value.Elements a) (Value.Set b) = false
same_value (Value.Hash a) (Value.Str b) = false
same_value (Value.Hash a) (Value.Elements b) = false
same_value (Value.Hash a) (Value.Set b) = false
same_value (Value.Set a) (Value.Str b) = false
same_value (Value.Set a) (Value.Elements b) = false
same_value (Value.Set a) (Value.Hash b) = false

-- what a key holds, before and after
abbrev pub same_held : Option Value → Option Value → Bool
same_held None None = true
same_held None (Some w) = false
same_held (Some v) None = false
same_held (Some v) (Some w) = same_value v w

-- what the keys of a list hold in another keyspace, where that is something else
abbrev pub altered : Keyspace → Keyspace → List Bytes → Changes
altered old new [] = []
altered old new (key ∷ keys) =
    cond (same_held (held old key) (held new key)) (altered old new keys) ((key, held new key) ∷ altered old new keys)
