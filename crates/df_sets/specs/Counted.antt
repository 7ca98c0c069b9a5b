-- How many words change a set, each counted once.
use Rattle.std.specs.Prelude.{◌≡◌, ℕ, ◌+◌, Bool, true, false, List}
use Rattle.df_model.specs.Values.{Bytes, Members}
use Rattle.df_model.specs.Members as members
use Rattle.df_model.specs.Meaning.Sets.{with_members, without_members}

-- inside: so many members go with the words; otherwise so many come
abbrev pub Counted : Bool → List Bytes → Members → ℕ → Type 0
Counted true words set n = members.len (without_members words set) + n ≡ members.len set
Counted false words set n = members.len (with_members words set) ≡ n + members.len set
