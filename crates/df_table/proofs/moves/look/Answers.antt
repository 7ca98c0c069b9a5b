use Rattle.std.proofs.Common.{◌≡◌, Bool, false, List, [], ◌∷◌, refl, rules}
use Rattle.std.specs.Prelude.{Option, Some, IsTrue, ◌↔◌}
use Rattle.std.specs.Option.{option_map, option_copied}
use Rattle.df_model.specs.Values.{Bytes, Value}
use Rattle.df_values.specs.Seen.{seen}
use Rattle.df_table.specs.Moved.{IsFilled}
use Rattle.df_table.proofs.moves.look.Goals as goal

not_true : (b : Bool) → b ≡ false → IsTrue b → ⊥
not_true b e h = cc

filled : (b : Bool) (xs : List Bytes) (held : Option Value) → b ≡ false → (IsTrue b ↔ (xs ≡ [])) → held ≡ Some (Value.Elements xs) → IsFilled held
filled b [] held e is h = absurd (not_true b e (is.1 refl))
filled b (x ∷ xs) held e is h = (x, xs, h)

pub returns-else-is_empty : goal.returns-else-is_empty
returns-else-is_empty c =
    filled c.is_empty.result c.in-Some-List.list.items (option_map seen (option_copied c.args.value)) c.if-is_empty.false c.is_empty.ensures (search rules)
