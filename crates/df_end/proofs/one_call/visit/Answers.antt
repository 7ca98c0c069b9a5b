use Rattle.std.proofs.Common.{◌≡◌, ◌∷◌, [], sym, ap, ◌∙◌, subst}
use Rattle.df_book.specs.Logs.{BothSeen}
use Rattle.df_book.specs.Passes.{Caller, first_pass, split_off, after_split, joined}
use Rattle.df_end.specs.Rounds.{CallWent}
use Rattle.df_end.specs.OneCall.{Idle, Visited, flushall, flush_row}
use Rattle.df_end.proofs.FlushLaws.{visited, idle-first}
use Rattle.df_end.proofs.one_call.visit.Goals as goal

pub flush-requires-clause-idle : goal.flush-requires-clause-idle
flush-requires-clause-idle c = subst Idle (sym c.requires.shard) (idle-first c.args.book.now)

pub returns-clause-lobby : goal.returns-clause-lobby
returns-clause-lobby c = λ w one.
    let z = c.args.book.now in let u = c.flush.new.caller in let f = c.join.new.into in
    let split : c.split-caller.result ≡ split_off (first_pass z 1) 1 = c.split-caller.ensures.given ∙ ap (λ p. split_off p 1) c.requires.first in
    let kept : c.split-caller.new.from ≡ after_split (first_pass z 1) 1 = c.split-caller.ensures.left ∙ ap (λ p. after_split p 1) c.requires.first in
    let went : CallWent 1 (split_off (first_pass z 1) 1) u flushall (flush_row (split_off (first_pass z 1) 1) c.flush.result ∷ []) =
    subst (λ (p : Caller). CallWent 1 p u flushall (flush_row p c.flush.result ∷ [])) split c.flush.ensures.went in
    let now : f ≡ joined (after_split (first_pass z 1) 1) u f.seen = c.join.ensures.both ∙ ap (λ p. joined p u f.seen) kept in
    let both : BothSeen [] u.seen f.seen = subst (λ (p : Caller). BothSeen p.seen u.seen f.seen) kept c.join.ensures.seen in
    subst (Visited w) (sym now) (visited z u c.flush.result f.seen w went both one)
