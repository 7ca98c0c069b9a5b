-- What is compared two by two.
use Rattle.std.specs.Prelude.{Bool, false, ◌&&◌, Option, Some, None}
use Rattle.df_model.specs.Values.{Bytes}
use Rattle.df_model.specs.Words.{same}

-- both are there, and the test holds of them
abbrev pub both : {X : Type 0} → (X → X → Bool) → Option X → Option X → Bool
both test None b = false
both test (Some x) None = false
both test (Some x) (Some y) = test x y

-- one field with what it holds, and another
abbrev pub same_field : Bytes × Bytes → Bytes × Bytes → Bool
same_field e f = same e.0 f.0 && same e.1 f.1
