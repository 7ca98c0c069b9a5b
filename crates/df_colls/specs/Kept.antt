-- Which members of a set are kept: those that are in another set, or those that aren't.
use Rattle.std.specs.Prelude.{Bool, not, cond}
use Rattle.df_model.specs.Members.{contains}
use Rattle.df_model.specs.Values.{Bytes, Members}

abbrev pub is_kept : Bool → Members → Bytes → Bool
is_kept inside other member = cond inside (contains other member) (not (contains other member))
