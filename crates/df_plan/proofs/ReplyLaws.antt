-- The reply of a call, as its commands are answered one by one.
use Rattle.std.proofs.Common.{◌≡◌, ◌<◌, List, [], ◌∷◌, ◌++◌, length, codes, decimal, refl, sym, ap, ◌∙◌, arith, append-nil, append_assoc}
use Rattle.std.specs.List.{flat_map}
use Rattle.std.proofs.lemmas.Grind.{flat_map-append}
use Rattle.df_model.specs.Values.{Bytes}
use Rattle.df_model.specs.Replies.{crlf, encoding_of}
use Rattle.df_model.specs.declared.command.Call.{Call}
use Rattle.df_model.specs.declared.command.Call.TheVariants.{Single, Exec}
use Rattle.df_model.specs.declared.reply.Reply.{Reply}
use Rattle.df_model.proofs.EncodingLaws.{array_is}
use Rattle.df_footprints.specs.Footprints.{commands_of}
use Rattle.df_rounds.specs.Progress.{reply_to}
use Rattle.df_plan.specs.Commands.{IsAdded}
use Rattle.df_plan.specs.Plans.{AlikeCalls, IsSoFar}

-- nothing is said yet, behind the head
pub so-far-none : (call : Call) (bytes : Bytes) → ((commands : _) → call ≡ Exec commands → bytes ≡ codes "*" ++ decimal (length commands.items) ++ crlf) → IsSoFar call [] bytes
so-far-none (Single command) bytes e = tt
so-far-none (Exec commands) bytes e = e commands refl ∙ sym (append-nil (codes "*" ++ decimal (length commands.items) ++ crlf))

-- one command's reply more
pub so-far-more : (call mine : Call) (replies : List Reply) (reply : Reply) (before said after : Bytes) → AlikeCalls call mine →
    length replies < length (commands_of call) → IsSoFar call replies before → said ≡ encoding_of reply → IsAdded mine before said after →
    IsSoFar call (replies ++ reply ∷ []) after
so-far-more (Single command) (Single mine) [] reply before said after alike lt so is added = added ∙ is
so-far-more (Single command) (Single mine) (r ∷ replies) reply before said after alike lt so is added = absurd (omega arith)
so-far-more (Single command) (Exec mine) replies reply before said after alike lt so is added = absurd alike
so-far-more (Exec commands) (Single mine) replies reply before said after alike lt so is added = absurd alike
so-far-more (Exec commands) (Exec mine) replies reply before said after alike lt so is added =
    let head : Bytes = codes "*" ++ decimal (length commands.items) ++ crlf in
    added
    ∙ ap (λ b. b ++ said) so
    ∙ append_assoc head (flat_map encoding_of replies) said
    ∙ ap (λ b. head ++ (flat_map encoding_of replies ++ b)) (is ∙ sym (append-nil (encoding_of reply)))
    ∙ ap (λ b. head ++ b) (sym (flat_map-append encoding_of replies (reply ∷ [])))

-- a reply for each command is the call's
pub so-far-all : (call : Call) (replies : List Reply) (bytes : Bytes) → length replies ≡ length (commands_of call) → IsSoFar call replies bytes →
    bytes ≡ encoding_of (reply_to call replies)
so-far-all (Single command) [] bytes e so = absurd (omega arith)
so-far-all (Single command) (reply ∷ replies) bytes e so = so
so-far-all (Exec commands) replies bytes e so =
    so ∙ ap (λ n. codes "*" ++ decimal n ++ crlf ++ flat_map encoding_of replies) (sym e) ∙ sym (array_is replies)
