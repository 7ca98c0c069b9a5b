-- The two ends of a list: the same row from either of them.
use Rattle.std.specs.Prelude.{ℕ, ℤ, List, reverse, Option}
use Rattle.df_model.specs.Values.{Bytes}
use Rattle.df_model.specs.Spared.{Spared}
use Rattle.df_model.specs.Outcomes.{Outcome}
use Rattle.df_model.specs.Meaning.Lists as rows
use Rattle.df_model.specs.declared.command.Side.{Side}
use Rattle.df_model.specs.declared.command.Side.TheVariants.{Left, Right}
use Rattle.df_values.specs.declared.edit.Edit.{Edit}
use Rattle.df_values.specs.declared.edit.Edit.TheVariants.{PushFront, PushBack, PopFront, PopBack}

-- the elements as they are met from this end
abbrev pub from_end : Side → List Bytes → List Bytes
from_end Left xs = xs
from_end Right xs = reverse xs

abbrev pub push : Side → List Bytes → List Bytes → Outcome
push Left words xs = rows.lpush words xs
push Right words xs = rows.rpush words xs

abbrev pub pushx : Side → List Bytes → List Bytes → Outcome
pushx Left words xs = rows.lpushx words xs
pushx Right words xs = rows.rpushx words xs

abbrev pub pop : Side → Option ℤ → List Bytes → Outcome
pop Left n xs = rows.lpop n xs
pop Right n xs = rows.rpop n xs

abbrev pub push_edit : Side → Spared Bytes → Edit
push_edit Left words = PushFront words
push_edit Right words = PushBack words

abbrev pub pop_edit : Side → ℕ → Edit
pop_edit Left n = PopFront n
pop_edit Right n = PopBack n
