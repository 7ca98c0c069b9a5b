-- How a session goes on, request after request.
use Rattle.std.proofs.Common.{◌≡◌, inl, inr, List, [], ◌∷◌, ◌++◌, refl, sym, ap, subst, ◌∙◌, append_assoc, append-nil}
use Rattle.std.specs.List.{flat_map}
use Rattle.std.proofs.lemmas.List.Concat.{flat_map-append}
use Rattle.df_model.specs.Values.{Bytes}
use Rattle.df_model.specs.Words.{Words}
use Rattle.df_model.specs.Replies.{encoding_of}
use Rattle.df_model.specs.Framing.{Splits}
use Rattle.df_model.specs.Session.{State, without_memory}
use Rattle.df_model.specs.History.{Item}
use Rattle.df_model.specs.Output.{Walk}
use Rattle.df_model.specs.declared.command.Call.{Call}
use Rattle.df_model.specs.declared.session.Why.{Why}
use Rattle.df_model.specs.declared.reply.ErrorText.TheVariants as errors
use Rattle.df_model.specs.declared.reply.Reply.{Reply}
use Rattle.df_model.specs.declared.reply.Reply.TheVariants.{Error}
use Rattle.df_model.proofs.FramingLaws.{no_split, splits_join, splits_more}
use Rattle.df_caller.specs.Told.{Told, told_item, told_items}
use Rattle.df_caller.proofs.ToldLaws.{told_more}
use Rattle.df_conn.specs.Answers.{Replies}
use Rattle.df_conn.specs.Walked.{Walked, Asked}

pub walked_none : Walked [] [] [] State.Ready []
walked_none = record {
  requests = [];
  replies = [];
  splits = no_split [];
  said_is = refl;
  walks = λ end more later answers walk. walk;
}

-- a piece that was read
pub walked_more : (told : List Told) (bytes said : Bytes) (state : State) (rest piece : Bytes) → Walked told bytes said state rest → Walked told (bytes ++ piece) said state (rest ++ piece)
walked_more told bytes said state rest piece s = record {
  requests = s.requests;
  replies = s.replies;
  splits = splits_more bytes rest s.requests piece s.splits;
  said_is = s.said_is;
  walks = s.walks;
}

-- frames without words
pub walked_skip : (told : List Told) (bytes said : Bytes) (state : State) (rest new : Bytes) → Walked told bytes said state rest → Splits rest [] new → Walked told bytes said state new
walked_skip told bytes said state rest new s t = record {
  requests = s.requests;
  replies = s.replies;
  splits = subst (λ r. Splits bytes r new) (append-nil s.requests) (splits_join bytes rest new s.requests [] s.splits t);
  said_is = s.said_is;
  walks = s.walks;
}

said_more : (said : Bytes) (replies : List Reply) (reply : Reply) → said ≡ flat_map encoding_of replies → said ++ encoding_of reply ≡ flat_map encoding_of (replies ++ reply ∷ [])
said_more said replies reply e =
    ap (λ x. x ++ encoding_of reply) e
    ∙ ap (λ x. flat_map encoding_of replies ++ x) (sym (append-nil (encoding_of reply)))
    ∙ sym (flat_map-append encoding_of replies (reply ∷ []))

-- a request that takes no item goes in front of any walk
abbrev pub Prefixes : State → State → Words → Reply → Type 0
Prefixes state after words reply = (end : Why) (more : List Words) (later : List Item) (answers : List Reply) → Walk end after more later answers → Walk end state (words ∷ more) later (reply ∷ answers)

pub walked_by : (told : List Told) (bytes said : Bytes) (state after : State) (rest new : Bytes) (words : Words) (reply : Reply) → Walked told bytes said state rest → Splits rest (words ∷ []) new
    → Prefixes state after words reply → Walked told bytes (said ++ encoding_of reply) after new
walked_by told bytes said state after rest new words reply s t prefixes = record {
  requests = s.requests ++ words ∷ [];
  replies = s.replies ++ reply ∷ [];
  splits = splits_join bytes rest new s.requests (words ∷ []) s.splits t;
  said_is = said_more said s.replies reply s.said_is;
  walks = λ end more later answers walk.
      subst (λ r. Walk end State.Ready r (told_items told ++ later) ((s.replies ++ reply ∷ []) ++ answers)) (sym (append_assoc s.requests (words ∷ []) more))
      (subst (λ p. Walk end State.Ready (s.requests ++ words ∷ more) (told_items told ++ later) p) (sym (append_assoc s.replies (reply ∷ []) answers))
      (s.walks end (words ∷ more) later (reply ∷ answers) (prefixes end more later answers walk)));
}

memory_prefixes : (state after : State) (words : Words) (reply : Reply) → reply ≡ Error errors.Memory → after ≡ without_memory state → Prefixes state after words reply
memory_prefixes state after words reply is left = λ end more later answers walk.
    subst (λ r. Walk end state (words ∷ more) later (r ∷ answers)) (sym is)
    (Walk.not_taken state words more later answers (subst (λ x. Walk end x more later answers) left walk))

-- a request that was answered at once
pub walked_reply : (told : List Told) (bytes said : Bytes) (state after : State) (rest new : Bytes) (words : Words) (reply : Reply) → Walked told bytes said state rest → Splits rest (words ∷ []) new
    → Replies words state after reply → Walked told bytes (said ++ encoding_of reply) after new
walked_reply told bytes said state after rest new words reply s t (inl step) =
    walked_by told bytes said state after rest new words reply s t (λ end more later answers walk. Walk.replied state words more later reply answers after step walk)
walked_reply told bytes said state after rest new words reply s t (inr none) =
    walked_by told bytes said state after rest new words reply s t (memory_prefixes state after words reply none.0 none.1)

-- a call that never ran
pub asked_not_run : (told : List Told) (bytes said : Bytes) (call : Call) (after : State) (rest : Bytes) → Asked told bytes said call after rest → Walked told bytes (said ++ encoding_of (Error errors.Memory)) after rest
asked_not_run told bytes said call after rest a =
    walked_by told bytes said a.state after a.behind rest a.words (Error errors.Memory) a.walked a.splits
    (λ end more later answers walk. Walk.not_run a.state a.words more later answers call after a.step walk)

-- a call that ran
pub asked_answered : (told : List Told) (bytes said : Bytes) (call : Call) (reply : Reply) (after : State) (rest : Bytes) → Asked told bytes said call after rest
    → Walked (told ++ record { call = call; reply = reply } ∷ []) bytes (said ++ encoding_of reply) after rest
asked_answered told bytes said call reply after rest a =
    let s : Walked told bytes said a.state a.behind = a.walked in
    let t : Told = record { call = call; reply = reply } in
    let item : Item = told_item t in
    record {
      requests = s.requests ++ a.words ∷ [];
      replies = s.replies ++ reply ∷ [];
      splits = splits_join bytes a.behind rest s.requests (a.words ∷ []) s.splits a.splits;
      said_is = said_more said s.replies reply s.said_is;
      walks = λ end more later answers walk.
          subst (λ r. Walk end State.Ready r (told_items (told ++ t ∷ []) ++ later) ((s.replies ++ reply ∷ []) ++ answers)) (sym (append_assoc s.requests (a.words ∷ []) more))
          (subst (λ p. Walk end State.Ready (s.requests ++ a.words ∷ more) (told_items (told ++ t ∷ []) ++ later) p) (sym (append_assoc s.replies (reply ∷ []) answers))
          (subst (λ i. Walk end State.Ready (s.requests ++ a.words ∷ more) (i ++ later) (s.replies ++ reply ∷ answers)) (sym (told_more told t))
          (subst (λ i. Walk end State.Ready (s.requests ++ a.words ∷ more) i (s.replies ++ reply ∷ answers)) (sym (append_assoc (told_items told) (item ∷ []) later))
          (s.walks end (a.words ∷ more) (item ∷ later) (reply ∷ answers) (Walk.called a.state a.words more item later answers after a.step walk)))));
    }
