use Rattle.std.proofs.Common.{refl, sym, subst, ◌∙◌}
use Rattle.df_model.specs.Words.{Words}
use Rattle.df_resp.specs.Next.{Gives}
use Rattle.df_resp.specs.declared.reader.Next.TheVariants as next
use Rattle.df_conn.specs.Answers.{TookWords}
use Rattle.df_conn.specs.Talks.{Took}
use Rattle.df_conn.proofs.TakeLaws.{took_words, took_none, took_bad, took_no_memory}
use Rattle.df_conn.proofs.talk.Talk.take.Goals as goal

pub returns-in-Ok-Words : goal.returns-in-Ok-Words
returns-in-Ok-Words c =
    let old = c.args.self.now in
    let stream = c.next.new.self in
    let after = c.take_words-taken.new.self in
    let taken = c.take_words-taken.result in
    let words : Words = c.in-Ok-Words.words.items in
    let is : TookWords taken words old.state after.state old.output.items after.output.items =
    subst (λ w. TookWords taken w old.state after.state old.output.items after.output.items) c.as_slice.ensures.value c.take_words-taken.ensures.took in
    subst (λ r. Took taken old.sent after.sent old.state after.state old.reader r old.output.items after.output.items) (sym (c.give_back.ensures ∙ c.take_words-taken.ensures.reader))
    (took_words taken words old.sent after.sent old.state after.state old.reader stream old.output.items after.output.items c.take_words-taken.ensures.sent
    (λ good. subst (λ x. Gives x old.reader stream) c.in-Ok-Words.field-0-is (c.in-Ok-Words.ensures.ok good)) c.next.ensures.count is)

pub returns-in-Ok-NeedMore : goal.returns-in-Ok-NeedMore
returns-in-Ok-NeedMore c =
    let old = c.args.self.now in
    let stream = c.next.new.self in
    took_none old.sent old.sent old.state old.state old.reader stream old.output.items old.output.items refl refl refl
    (λ good. subst (λ x. Gives x old.reader stream) c.in-Ok-NeedMore.field-0-is (c.in-Ok-NeedMore.ensures.ok good)) c.next.ensures.count

pub returns-in-Ok : goal.returns-in-Ok
returns-in-Ok c =
    let old = c.args.self.now in
    let stream = c.next.new.self in
    let bad = c.in-Ok-Bad in
    took_bad bad.kind bad.at old.sent old.sent old.state old.state old.reader stream old.output.items c.encode_protocol_error.new.to.items refl c.in-Ok.ensures.ok
    (λ good.
    let given : Gives (next.Bad bad.kind bad.at) old.reader stream = subst (λ x. Gives x old.reader stream) bad.field-0-is (bad.ensures.ok good) in
    (given.1, given.3, given.4)) c.next.ensures.count

pub returns-in-Err-encode_protocol_error : goal.returns-in-Err-encode_protocol_error
returns-in-Err-encode_protocol_error c =
    let old = c.args.self.now in
    took_no_memory old.sent old.sent old.state old.state old.reader c.next.new.self old.output.items c.encode_protocol_error.new.to.items refl c.in-Err-encode_protocol_error.ensures.err

pub returns-in-Err : goal.returns-in-Err
returns-in-Err c =
    let old = c.args.self.now in
    took_no_memory old.sent old.sent old.state old.state old.reader c.next.new.self old.output.items old.output.items refl refl
