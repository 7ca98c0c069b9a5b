-- What each answer of the reader and of the machine makes of a session.
use Rattle.std.proofs.Common.{◌≡◌, ℕ, ◌+◌, ◌-◌, List, [], ◌∷◌, ◌++◌, length, refl, sym, subst, ◌∙◌, arith, append-nil}
use Rattle.std.specs.Prelude.{None}
use Rattle.std.specs.Global.{Box}
use Rattle.df_model.specs.Values.{Bytes}
use Rattle.df_model.specs.Words.{Words}
use Rattle.df_model.specs.Replies.{encoding_of, protocol_error}
use Rattle.df_model.specs.Framing.{Splits, IsPartial, BeginsWhole}
use Rattle.df_model.specs.BadInput.{BadAt}
use Rattle.df_model.specs.Session.{State, Given, session_step}
use Rattle.df_model.specs.declared.command.Call.{Call}
use Rattle.df_model.specs.declared.session.BadKind.{BadKind}
use Rattle.df_model.specs.declared.reply.Reply.{Reply}
use Rattle.df_resp.specs.Stream.{Stream, Counts, place_of}
use Rattle.df_resp.proofs.FramedLaws.{partial_behind, bad_at_behind}
use Rattle.df_resp.proofs.CountLaws.{no_longer, counts_join}
use Rattle.df_caller.specs.Told.{Told}
use Rattle.df_caller.specs.declared.slip.Slip.{Slip}
use Rattle.df_conn.specs.Answers.{IsAnswer, Replies, TookWords, taken_of}
use Rattle.df_conn.specs.declared.answer.Answer.{Answer}
use Rattle.df_conn.specs.declared.answer.Answer.TheVariants as answers
use Rattle.df_conn.specs.declared.talk.Taken.{Taken}
use Rattle.df_conn.specs.declared.talk.Taken.TheVariants as taken
use Rattle.df_conn.specs.Walked.{Walked}
use Rattle.df_conn.specs.Talks.{Stands, Awaits, Stuck, StandsNext, Took}
use Rattle.df_conn.proofs.WalkLaws.{walked_skip, walked_reply}
use Rattle.df_conn.proofs.SpeakLaws.{closes_quit, closes_asked, closes_bad}

counted_on : (told : List Told) (bytes said : Bytes) (state : State) (requests : List Words) (old new : Stream) → Stands told bytes said state old → Splits old.rest requests new.rest → Counts old.before old.rest new.before new.rest
    → Counts 0 bytes new.before new.rest
counted_on told bytes said state requests old new s splits counts =
    counts_join 0 old.before new.before bytes old.rest new.rest (no_longer bytes old.rest s.walked.requests s.walked.splits) (no_longer old.rest new.rest requests splits) s.counted counts

stands_reply : (told : List Told) (bytes said : Bytes) (state after : State) (words : Words) (reply : Reply) (old new : Stream) → Stands told bytes said state old → new.failed ≡ None → Splits old.rest (words ∷ []) new.rest
    → Counts old.before old.rest new.before new.rest → Replies words state after reply → Stands told bytes (said ++ encoding_of reply) after new
stands_reply told bytes said state after words reply old new s good splits counts replies = record {
  good = good;
  counted = counted_on told bytes said state (words ∷ []) old new s splits counts;
  walked = walked_reply told bytes said state after old.rest new.rest words reply s.walked splits replies;
}

awaits_call : (told : List Told) (bytes said : Bytes) (state after : State) (words : Words) (call : Call) (old new : Stream) → Stands told bytes said state old → new.failed ≡ None → Splits old.rest (words ∷ []) new.rest
    → Counts old.before old.rest new.before new.rest → session_step state words ≡ (Given.Calls call, after) → Awaits told bytes said call after new
awaits_call told bytes said state after words call old new s good splits counts step = record {
  good = good;
  counted = counted_on told bytes said state (words ∷ []) old new s splits counts;
  asked = record { words = words; state = state; behind = old.rest; walked = s.walked; splits = splits; step = step };
}

stuck_here : (told : List Told) (bytes said : Bytes) (state : State) (old : Stream) → Stands told bytes said state old → Stuck told bytes (said ++ [])
stuck_here told bytes said state old s = record { state = state; rest = old.rest; walked = subst (λ x. Walked told bytes x state old.rest) (sym (append-nil said)) s.walked }

-- a request was given and answered
pub took_words : (t : Taken) (words : Words) (sent_old sent : ℕ) (state after : State) (old new : Stream) (before now : Bytes) → sent ≡ sent_old
    → (old.failed ≡ None → (new.failed ≡ None) × Splits old.rest (words ∷ []) new.rest) → Counts old.before old.rest new.before new.rest
    → TookWords t words state after before now → Took t sent_old sent state after old new before now
took_words taken.Replied words sent_old sent state after old new before now eq gave counts is = record {
  sent_is = eq;
  added = encoding_of is.0;
  output = is.1;
  adds = tt;
  stands = λ told bytes said s. stands_reply told bytes said state after words is.0 old new s (gave s.good).0 (gave s.good).1 counts is.2;
  takes = λ good. (words, (gave good).1);
}
took_words (taken.Calls slip) words sent_old sent state after old new before now eq gave counts is = record {
  sent_is = eq;
  added = [];
  output = is.1 ∙ sym (append-nil before);
  adds = tt;
  stands = λ told bytes said s. subst (λ x. Awaits told bytes x slip.value.call after new) (sym (append-nil said)) (awaits_call told bytes said state after words slip.value.call old new s (gave s.good).0 (gave s.good).1 counts is.0);
  takes = λ good. (words, (gave good).1);
}
took_words taken.Quit words sent_old sent state after old new before now eq gave counts is = record {
  sent_is = eq;
  added = encoding_of is.0;
  output = is.1;
  adds = tt;
  stands = λ told bytes said s. closes_quit told bytes said state after old.rest new.rest words is.0 s.walked (gave s.good).1 is.2;
  takes = λ good. (words, (gave good).1);
}
took_words taken.Asked words sent_old sent state after old new before now eq gave counts is = record {
  sent_is = eq;
  added = [];
  output = is.1 ∙ sym (append-nil before);
  adds = tt;
  stands = λ told bytes said s. subst (λ x. StandsNext taken.Asked told bytes x after new) (sym (append-nil said)) (closes_asked told bytes said state after old.rest new.rest words s.walked (gave s.good).1 is.0);
  takes = λ good. (words, (gave good).1);
}
took_words taken.NoMemory words sent_old sent state after old new before now eq gave counts is = record {
  sent_is = eq;
  added = [];
  output = is ∙ sym (append-nil before);
  adds = tt;
  stands = λ told bytes said s. stuck_here told bytes said state old s;
  takes = λ good. tt;
}
took_words taken.Dry words sent_old sent state after old new before now eq gave counts is = absurd is
took_words (taken.Bad kind at) words sent_old sent state after old new before now eq gave counts is = absurd is

-- ---- an answer, once it is taken

pub took_answer : (a : Answer) (slip : Box Slip) (words : Words) (state after : State) (before now : Bytes) → IsAnswer a words state after slip.value.call before now → TookWords (taken_of a slip) words state after before now
took_answer answers.Replied slip words state after before now is = is
took_answer answers.Calls slip words state after before now is = is
took_answer answers.Quit slip words state after before now is = is
took_answer answers.Asked slip words state after before now is = is
took_answer answers.NoMemory slip words state after before now is = is

-- nothing is whole
pub took_none : (sent_old sent : ℕ) (state after : State) (old new : Stream) (before now : Bytes) → sent ≡ sent_old → after ≡ state → now ≡ before
    → (old.failed ≡ None → (new.failed ≡ None) × Splits old.rest [] new.rest × IsPartial new.rest × ¬ (BeginsWhole new.rest)) → Counts old.before old.rest new.before new.rest
    → Took taken.Dry sent_old sent state after old new before now
took_none sent_old sent state after old new before now eq same out gave counts = record {
  sent_is = eq;
  added = [];
  output = out ∙ sym (append-nil before);
  adds = refl;
  stands = λ told bytes said s.
      let g = gave s.good in
      let w : Walked told bytes said state new.rest = walked_skip told bytes said state old.rest new.rest s.walked g.1 in (
        record {
          good = g.0;
          counted = counted_on told bytes said state [] old new s g.1 counts;
          walked = subst (λ x. Walked told bytes x after new.rest) (sym (append-nil said)) (subst (λ x. Walked told bytes said x new.rest) (sym same) w);
        },
        record { no_whole = g.3; can_go_on = partial_behind bytes new.rest w.requests w.splits g.2 },
      );
  takes = λ good. (gave good).1;
}

-- the input is bad, and the error line was added
pub took_bad : (kind : BadKind) (at : ℕ) (sent_old sent : ℕ) (state after : State) (old new : Stream) (before now : Bytes) → sent ≡ sent_old → now ≡ before ++ protocol_error kind
    → (old.failed ≡ None → Splits old.rest [] new.rest × ¬ (BeginsWhole new.rest) × ((off : ℕ) × BadAt new.rest off kind × (at ≡ place_of (new.before + off))))
    → Counts old.before old.rest new.before new.rest → Took (taken.Bad kind at) sent_old sent state after old new before now
took_bad kind at sent_old sent state after old new before now eq out gave counts = record {
  sent_is = eq;
  added = protocol_error kind;
  output = out;
  adds = tt;
  stands = λ told bytes said s.
      let g = gave s.good in
      let w : Walked told bytes said state new.rest = walked_skip told bytes said state old.rest new.rest s.walked g.0 in
      let counted : Counts 0 bytes new.before new.rest = counted_on told bytes said state [] old new s g.0 counts in
      let place : ℕ = length bytes - length new.rest + g.2.0 in
      let bad : BadAt bytes place kind = bad_at_behind bytes new.rest w.requests g.2.0 kind w.splits g.2.1 in
      (closes_bad told bytes said state new.rest kind at place w g.1 bad, record { place = place; bad = bad; at_is = omega (arith, counted, g.2.2) });
  takes = λ good. (gave good).0;
}

-- memory ran out
pub took_no_memory : (sent_old sent : ℕ) (state after : State) (old new : Stream) (before now : Bytes) → sent ≡ sent_old → now ≡ before → Took taken.NoMemory sent_old sent state after old new before now
took_no_memory sent_old sent state after old new before now eq out = record {
  sent_is = eq;
  added = [];
  output = out ∙ sym (append-nil before);
  adds = tt;
  stands = λ told bytes said s. stuck_here told bytes said state old s;
  takes = λ good. tt;
}
