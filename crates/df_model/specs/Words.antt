-- The words of a request, and names in any case.
use Rattle.std.specs.Prelude.{List, Bool, nat_eq}
use Rattle.std.specs.Cmp.Lexicographic.{pointwise}
use Rattle.std.specs.Str.{str_eq_ignore_ascii_case}
use Rattle.df_model.specs.Values.{Bytes}

abbrev pub Words : Type 0
Words = List Bytes

-- equal without ASCII case
abbrev pub is_name : Bytes → Bytes → Bool
is_name word name = str_eq_ignore_ascii_case word name

abbrev pub same : Bytes → Bytes → Bool
same = pointwise nat_eq
