-- The pushes from either end.
use Rattle.std.proofs.Common.{◌≡◌, ℕ, ◌+◌, ◌<◌, ◌≤◌, List, [], ◌∷◌, ◌++◌, length, reverse, refl, sym, ap, ◌∙◌, subst, arith, append-nil, length-append}
use Rattle.std.specs.Prelude.{Some, None}
use Rattle.std.proofs.lemmas.List.{length-reverse}
use Rattle.df_model.specs.Values.{Bytes}
use Rattle.df_model.specs.Values as plain
use Rattle.df_model.specs.Spared.{Spared}
use Rattle.df_model.specs.Outcomes.{count}
use Rattle.df_model.specs.Meaning.Lists.{stored}
use Rattle.df_model.specs.Replies.{encoding_of}
use Rattle.df_model.specs.declared.command.Side.{Side}
use Rattle.df_model.specs.declared.command.Side.TheVariants.{Left, Right}
use Rattle.df_values.specs.declared.value.Value.{Value}
use Rattle.df_values.specs.declared.value.Value.TheVariants as values
use Rattle.df_values.specs.declared.edit.Edit.{Edit}
use Rattle.df_values.specs.declared.change.Change.{Change}
use Rattle.df_values.specs.declared.change.Change.TheVariants as changes
use Rattle.df_values.specs.Edits.{edited, IsPreparedOn}
use Rattle.df_values.specs.Prepares.{Makes}
use Rattle.df_values.specs.Seen.{seen}
use Rattle.df_lists.specs.Ends.{push, push_edit}
use Rattle.df_lists.specs.Resized.{resized}
use Rattle.df_lists.proofs.ResizeLaws.{gives, resized_gives, stored_some}

abbrev pub pushed : Side → List Bytes → List Bytes → List Bytes
pushed Left words xs = reverse words ++ xs
pushed Right words xs = xs ++ words

push_is : (side : Side) (words xs : List Bytes) → push side words xs ≡ (count (length (pushed side words xs)), stored (pushed side words xs))
push_is Left words xs = refl
push_is Right words xs = refl

length-pushed : (side : Side) (words xs : List Bytes) → length (pushed side words xs) ≡ length xs + length words
length-pushed Left words xs = omega (arith, length-append (reverse words) xs, length-reverse words)
length-pushed Right words xs = length-append xs words

pushed_none : (side : Side) (words xs : List Bytes) → length words ≡ 0 → pushed side words xs ≡ xs
pushed_none Left [] xs none = refl
pushed_none Right [] xs none = append-nil xs
pushed_none Left (word ∷ words) xs none = absurd (omega arith)
pushed_none Right (word ∷ words) xs none = absurd (omega arith)

pub edit_pushes : (side : Side) (words : Spared Bytes) (xs : List Bytes) → edited (push_edit side words) (plain.Value.Elements xs) ≡ plain.Value.Elements (pushed side words.items xs)
edit_pushes Left words xs = refl
edit_pushes Right words xs = refl

pub push_fits : (side : Side) (words list : Spared Bytes) → length words.items ≤ list.spare → IsPreparedOn (push_edit side words) (values.List list)
push_fits Left words list room = room
push_fits Right words list room = room

-- on a list
pub push_gives : (side : Side) (words list : Spared Bytes) (xs : List Bytes) (before after : ℕ) (edit : Edit) (bytes : Bytes) (made : Change)
    → list.items ≡ xs → before ≡ length xs → after ≡ before + length words.items → length words.items ≤ list.spare → edit ≡ push_edit side words
    → bytes ≡ encoding_of (count after) → made ≡ resized edit before after
    → Makes (push side words.items xs) (Some (values.List list)) bytes made
push_gives side words list xs before after edit bytes made is was sum room pushes replies makes =
    subst (λ (ys : List Bytes). Makes (push side words.items ys) (Some (values.List list)) bytes made) is
    (resized_gives (push side words.items list.items) (count (length (pushed side words.items list.items))) list (pushed side words.items list.items) (push_edit side words) before after bytes made
    (push_is side words.items list.items)
    (replies ∙ ap (λ n. encoding_of (count n)) long)
    (makes ∙ ap (λ e. resized e before after) pushes)
    here long (edit_pushes side words list.items) (push_fits side words list room)
    (λ same. pushed_none side words.items list.items (omega (arith, length-pushed side words.items list.items, same))))
  where
    here : before ≡ length list.items
    here = was ∙ ap length (sym is)

    long : after ≡ length (pushed side words.items list.items)
    long = omega (arith, length-pushed side words.items list.items, here, sum)

-- on nothing
pub push_puts : (side : Side) (words : Spared Bytes) (old new : Value) (bytes : Bytes) (made : Change)
    → 0 < length words.items → seen old ≡ plain.Value.Elements [] → seen new ≡ edited (push_edit side words) (seen old)
    → bytes ≡ encoding_of (count (length words.items)) → made ≡ changes.Put new
    → Makes (push side words.items []) None bytes made
push_puts side words old new bytes made some empty is replies makes =
    gives (push side words.items []) (count (length (pushed side words.items []))) (stored (pushed side words.items [])) None bytes made (changes.Put new)
    (push_is side words.items [])
    (replies ∙ ap (λ n. encoding_of (count n)) long)
    makes
    (record {
      is = ap Some (is ∙ ap (edited (push_edit side words)) empty ∙ edit_pushes side words []) ∙ sym (stored_some (pushed side words.items []) None (omega (arith, long)));
      fits = tt;
      alters = tt;
    })
  where
    long : length words.items ≡ length (pushed side words.items [])
    long = omega (arith, length-pushed side words.items [])
