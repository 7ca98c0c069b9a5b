use Rattle.std.proofs.Common.{◌≡◌, ◌∙◌, ◌≤◌, ℕ, ap, sym, subst, arith, true}
use Rattle.df_model.specs.declared.command.Call.TheVariants.{Single}
use Rattle.df_book.specs.Passes.{Caller, Receipt, after_draw}
use Rattle.df_hops.specs.Shown.{act_asked, act_shown, book_shown, call_back, call_drawn, draws_needed, draws_shown, has_note, shard_shown, told_said, told_shown}
use Rattle.df_hops.specs.Came.{came_due, came_shown}
use Rattle.df_hops.specs.declared.answer.AnswerBody.TheVariants as answers
use Rattle.df_coord.specs.Asking.{Asked}
use Rattle.df_coord.specs.Hearing.{HasHeard}
use Rattle.df_coord.specs.declared.hearing.Heard.TheVariants as heard
use Rattle.df_coord.proofs.FoundLaws.{fits-hop}
use Rattle.df_coord.proofs.HeardLaws.{Comes, heard-passed, heard-ran, heard-wanted}
use Rattle.df_coord.proofs.hearing.hear.Goals as goal

pub returns-in-Ran-clause-heard : goal.returns-in-Ran-clause-heard
returns-in-Ran-clause-heard c = λ v call k asked.
    let a = c.args.answer in let shards : ℕ = c.args.shards in let is = c.in-Ran.is in let r : Receipt = c.in-Ran.receipt in
    let w : Caller = c.take_answer.new.pass in let t = c.take_answer.ensures in
    let book = subst (λ b. book_shown c.args.book.now b ≡ c.args.book.now) is c.requires.shown in
    let hop = (fits-hop a.number a.shard a c.requires.fits).1 in
    let comes : Comes shards a.shard a.number v c.args.pass.now w k.command r = record {
      some = c.requires.some;
      words = ap (λ z. z.words) book ∙ c.requires.book.1;
      alone = k.alone;
      there = k.there;
      asked = subst (λ x. Asked v c.args.pass.now x a.number) k.is asked;
      here = subst (λ b. shard_shown a.shard b ≡ a.shard) is a.shown;
      drawn = omega (arith, subst (λ b. draws_needed b ≤ draws_shown a.number b) is a.drawn);
      after = t.seen.0;
      both = t.seen.1;
      agreed = t.agreed;
      takes = λ e has number under. t.answered shards a.number (after_draw v (Single k.command) a.number) _ _ e has number under;
    } in
    subst (λ x. HasHeard (heard.Ran c.in-Ran.slip) shards v w x a.number) (sym k.is)
    (heard-ran shards a.shard a.number v c.args.pass.now w k.command r c.in-Ran.slip.value.reply c.in-Ran.keys.value.keys comes
    (subst (λ h. told_said (answers.Ran c.in-Ran.slip r c.in-Ran.keys) ≡ told_shown a.number h (answers.Ran c.in-Ran.slip r c.in-Ran.keys)) hop (subst (λ b. told_said b ≡ told_shown a.number a.hop b) is a.told))
    (subst (λ h. act_shown a.number h (answers.Ran c.in-Ran.slip r c.in-Ran.keys) ≡ act_asked a.shard a.number h (answers.Ran c.in-Ran.slip r c.in-Ran.keys)) hop (subst (λ b. act_shown a.number a.hop b ≡ act_asked a.shard a.number a.hop b) is a.act))
    (subst (λ h. came_shown a.number h (answers.Ran c.in-Ran.slip r c.in-Ran.keys) ≡ came_due a.number h (answers.Ran c.in-Ran.slip r c.in-Ran.keys)) hop (subst (λ b. came_shown a.number a.hop b ≡ came_due a.number a.hop b) is a.came)))

pub returns-in-Wanted-clause-heard : goal.returns-in-Wanted-clause-heard
returns-in-Wanted-clause-heard c = λ v call k asked.
    let a = c.args.answer in let shards : ℕ = c.args.shards in let is = c.in-Wanted.is in let r : Receipt = c.in-Wanted.receipt in
    let w : Caller = c.take_answer-in-Wanted.new.pass in let t = c.take_answer-in-Wanted.ensures in
    let book = subst (λ b. book_shown c.args.book.now b ≡ c.args.book.now) is c.requires.shown in
    let hop = (fits-hop a.number a.shard a c.requires.fits).1 in
    let comes : Comes shards a.shard a.number v c.args.pass.now w k.command r = record {
      some = c.requires.some;
      words = ap (λ z. z.words) book ∙ c.requires.book.1;
      alone = k.alone;
      there = k.there;
      asked = subst (λ x. Asked v c.args.pass.now x a.number) k.is asked;
      here = subst (λ b. shard_shown a.shard b ≡ a.shard) is a.shown;
      drawn = omega (arith, subst (λ b. draws_needed b ≤ draws_shown a.number b) is a.drawn);
      after = t.seen.0;
      both = t.seen.1;
      agreed = t.agreed;
      takes = λ e has number under. t.answered shards a.number (after_draw v (Single k.command) a.number) _ _ e has number under;
    } in
    subst (λ x. HasHeard (heard.Wanted c.in-Wanted.slip) shards v w x a.number) (sym k.is)
    (heard-wanted shards a.shard a.number v c.args.pass.now w k.command r comes
    (subst (λ h. told_said (answers.Wanted c.in-Wanted.slip r) ≡ told_shown a.number h (answers.Wanted c.in-Wanted.slip r)) hop (subst (λ b. told_said b ≡ told_shown a.number a.hop b) is a.told))
    (subst (λ h. act_shown a.number h (answers.Wanted c.in-Wanted.slip r) ≡ act_asked a.shard a.number h (answers.Wanted c.in-Wanted.slip r)) hop (subst (λ b. act_shown a.number a.hop b ≡ act_asked a.shard a.number a.hop b) is a.act)))

pub returns-in-Passed-clause-heard : goal.returns-in-Passed-clause-heard
returns-in-Passed-clause-heard c = λ v call k asked.
    let a = c.args.answer in let shards : ℕ = c.args.shards in let is = c.in-Passed.is in let r : Receipt = c.in-Passed.receipt in
    let w : Caller = c.take_answer-in-Passed.new.pass in let t = c.take_answer-in-Passed.ensures in
    let book = subst (λ b. book_shown c.args.book.now b ≡ c.args.book.now) is c.requires.shown in
    let hop = (fits-hop a.number a.shard a c.requires.fits).1 in
    let comes : Comes shards a.shard a.number v c.args.pass.now w k.command r = record {
      some = c.requires.some;
      words = ap (λ z. z.words) book ∙ c.requires.book.1;
      alone = k.alone;
      there = k.there;
      asked = subst (λ x. Asked v c.args.pass.now x a.number) k.is asked;
      here = subst (λ b. shard_shown a.shard b ≡ a.shard) is a.shown;
      drawn = omega (arith, subst (λ b. draws_needed b ≤ draws_shown a.number b) is a.drawn);
      after = t.seen.0;
      both = t.seen.1;
      agreed = t.agreed;
      takes = λ e has number under. t.answered shards a.number (after_draw v (Single k.command) a.number) _ _ e has number under;
    } in
    subst (λ x. HasHeard (heard.Passed c.in-Passed.why c.in-Passed.slip) shards v w x a.number) (sym k.is)
    (heard-passed shards a.shard a.number v c.args.pass.now w k.command r c.in-Passed.slip.value.call comes
    (subst (λ b. has_note a.number b ≡ true) is a.note) (subst (λ b. call_back b ≡ call_drawn a.number b) is a.call))
