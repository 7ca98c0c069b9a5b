use Rattle.std.proofs.Common.{◌≡◌, ◌∙◌, ap, subst, true}
use Rattle.df_book.specs.Passes.{Caller, Receipt}
use Rattle.df_rounds.specs.Progress.{hop_next}
use Rattle.df_hops.specs.Shown.{book_shown, shard_shown}
use Rattle.df_hops.specs.Came.{IsDue, came_due, came_shown, may_want_it, outcome_said, outcome_shown}
use Rattle.df_hops.specs.declared.answer.Answer.{Answer}
use Rattle.df_hops.specs.declared.answer.Outcome.{Outcome}
use Rattle.df_hops.specs.declared.answer.AnswerBody.{AnswerBody}
use Rattle.df_hops.specs.declared.answer.AnswerBody.TheVariants as answers
use Rattle.df_post.specs.Fits.{is_hop}
use Rattle.df_exchange.specs.Asks.{awaited_hop, kind_of_act}
use Rattle.df_exchange.proofs.FoundLaws.{fits-parts}
use Rattle.df_exchange.proofs.HearLaws.{Comes, hop_is_answered}
use Rattle.df_exchange.proofs.hearing.told_by.Goals as goal

pub returns-clause-told : goal.returns-clause-told
returns-clause-told c = λ shards s n before v call progress act back pos words b under asks fit.
    let a : Answer = c.args.answer in let is = c.in-Did.is in let o : Outcome = c.in-Did.outcome in let r : Receipt = c.in-Did.receipt in
    let body : AnswerBody = answers.Did o r c.in-Did.keys in
    let u : Caller = c.args.pass.now in let w : Caller = c.take_answer.new.pass in let t = c.take_answer.ensures in
    let f = fits-parts (awaited_hop n (hop_next shards progress) act) s a fit in
    let book = subst (λ x. book_shown c.args.book.now x ≡ c.args.book.now) is c.requires.shown in
    let comes : Comes shards s n (hop_next shards progress) u w r o c.in-Did.keys.value.keys = record {
      some = pos;
      words = ap (λ z. z.words) book ∙ words;
      here = subst (λ x. shard_shown a.shard x ≡ a.shard) is a.shown ∙ f.0;
      said = subst (λ h. outcome_said body ≡ outcome_shown n h body) f.2
          (subst (λ m. outcome_said body ≡ outcome_shown m a.hop body) f.1
          (subst (λ x. outcome_said x ≡ outcome_shown a.number a.hop x) is a.outcome));
      came = subst (λ h. came_shown n h body ≡ came_due n h body) f.2
          (subst (λ m. came_shown m a.hop body ≡ came_due m a.hop body) f.1
          (subst (λ x. came_shown a.number a.hop x ≡ came_due a.number a.hop x) is a.came));
      wants = subst (λ h. may_want_it n h body ≡ true) f.2
          (subst (λ m. may_want_it m a.hop body ≡ true) f.1
          (subst (λ x. may_want_it a.number a.hop x ≡ true) is a.wants));
      part = subst (λ h. ∥ IsDue n h body ∥₁) f.2
          (subst (λ m. ∥ IsDue m a.hop body ∥₁) f.1
          (subst (λ x. ∥ IsDue a.number a.hop x ∥₁) is a.part));
      after = t.seen.0;
      both = t.seen.1;
      agreed = t.agreed;
    } in
    hop_is_answered shards s n before v call progress u w r o c.in-Did.keys.value.keys act back comes
    (λ e has number before_it. t.answered shards n v _ back e has number before_it)
    b under asks (subst (λ x. is_hop (kind_of_act act) x ≡ true) is f.3)
