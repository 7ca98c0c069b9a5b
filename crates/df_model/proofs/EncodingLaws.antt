-- The encodings of replies, each from its parts.
use Rattle.std.proofs.Common.{◌≡◌, List, [], ◌∷◌, ◌++◌, length, map, codes, decimal, refl, ap, sym, ◌∙◌}
use Rattle.std.specs.Prelude.{ℤ}
use Rattle.std.specs.List.{flat_map}
use Rattle.std.specs.Fmt.{signed_decimal}
use Rattle.std.proofs.lemmas.List.{length-map}
use Rattle.df_model.specs.Values.{Bytes}
use Rattle.df_model.specs.Outcomes.{array, bulks}
use Rattle.df_model.specs.Spared.{all_of}
use Rattle.df_model.specs.Replies.{crlf, text_of, encoding_step, encoding_of}
use Rattle.df_model.specs.declared.reply.ErrorText.{ErrorText}
use Rattle.df_model.specs.declared.reply.Reply.{Reply, fold-roll-Reply}
use Rattle.df_model.specs.declared.reply.Reply.TheOpen.{Reply-F}
use Rattle.df_model.specs.declared.reply.Reply.TheVariants.{Simple, Error, Int, Bulk, NullBulk, NullArray, rolls-Simple, rolls-Error, rolls-Int, rolls-Bulk, rolls-NullBulk, rolls-NullArray, rolls-Array}

pub simple_is : (text : Bytes) → encoding_of (Simple text) ≡ codes "+" ++ text ++ crlf
simple_is text = ap encoding_of (sym (rolls-Simple text)) ∙ fold-roll-Reply Bytes encoding_step _

pub error_is : (error : ErrorText) → encoding_of (Error error) ≡ codes "-" ++ text_of error ++ crlf
error_is error = ap encoding_of (sym (rolls-Error error)) ∙ fold-roll-Reply Bytes encoding_step _

pub int_is : (n : ℤ) → encoding_of (Int n) ≡ codes ":" ++ signed_decimal n ++ crlf
int_is n = ap encoding_of (sym (rolls-Int n)) ∙ fold-roll-Reply Bytes encoding_step _

pub bulk_is : (bytes : Bytes) → encoding_of (Bulk bytes) ≡ codes "$" ++ decimal (length bytes) ++ crlf ++ bytes ++ crlf
bulk_is bytes = ap encoding_of (sym (rolls-Bulk bytes)) ∙ fold-roll-Reply Bytes encoding_step _

pub null_is : encoding_of NullBulk ≡ codes "$-1" ++ crlf
null_is = ap encoding_of (sym rolls-NullBulk) ∙ fold-roll-Reply Bytes encoding_step _

pub null_array_is : encoding_of NullArray ≡ codes "*-1" ++ crlf
null_array_is = ap encoding_of (sym rolls-NullArray) ∙ fold-roll-Reply Bytes encoding_step _

-- ---- arrays

one_by_one : (f : Reply → Bytes) (replies : List Reply) → flat_map (λ bytes. bytes) (map f replies) ≡ flat_map f replies
one_by_one f [] = refl
one_by_one f (reply ∷ replies) = ap (λ x. f reply ++ x) (one_by_one f replies)

layers : (f : Reply → Bytes) (replies : List Reply) → codes "*" ++ decimal (length (map f replies)) ++ crlf ++ flat_map (λ bytes. bytes) (map f replies) ≡ codes "*" ++ decimal (length replies) ++ crlf ++ flat_map f replies
layers f replies =
    ap (λ n. codes "*" ++ decimal n ++ crlf ++ flat_map (λ bytes. bytes) (map f replies)) (length-map replies f)
    ∙ ap (λ x. codes "*" ++ decimal (length replies) ++ crlf ++ x) (one_by_one f replies)

pub array_is : (replies : List Reply) → encoding_of (array replies) ≡ codes "*" ++ decimal (length replies) ++ crlf ++ flat_map encoding_of replies
array_is replies = ap encoding_of (sym (rolls-Array (all_of replies))) ∙ fold-roll-Reply Bytes encoding_step (Reply-F.Array (all_of replies)) ∙ layers encoding_of replies

of_bulks : (list : List Bytes) → flat_map encoding_of (map Bulk list) ≡ flat_map (λ bytes. encoding_of (Bulk bytes)) list
of_bulks [] = refl
of_bulks (bytes ∷ list) = ap (λ x. encoding_of (Bulk bytes) ++ x) (of_bulks list)

-- an array of bulks, as a writer makes it
pub bulks_is : (list : List Bytes) → encoding_of (bulks list) ≡ codes "*" ++ decimal (length list) ++ crlf ++ flat_map (λ bytes. encoding_of (Bulk bytes)) list
bulks_is list =
    array_is (map Bulk list)
    ∙ ap (λ n. codes "*" ++ decimal n ++ crlf ++ flat_map encoding_of (map Bulk list)) (length-map list Bulk)
    ∙ ap (λ x. codes "*" ++ decimal (length list) ++ crlf ++ x) (of_bulks list)
