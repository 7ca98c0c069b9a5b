use Rattle.std.proofs.Common.{◌≡◌, ◌∙◌, sym, subst, arith}
use Rattle.df_hops.specs.declared.message.Message.{Message}
use Rattle.df_post.specs.Fits.{awaited_by}
use Rattle.df_post.specs.declared.awaited.Awaited.{Awaited}
use Rattle.df_post.specs.Rounds.{Goes, Sent, Unsent, sent, stays}
use Rattle.df_post.proofs.slot.send.Goals as goal

unlike : {a b : Awaited} → Sent a ≡ Unsent b → ⊥
unlike same = cc

pub returns-in-Ok-clause-goes : goal.returns-in-Ok-clause-goes
returns-in-Ok-clause-goes g c =
    let a : Awaited = awaited_by c.args.m in
    subst (λ (x : Awaited). Goes (Unsent a) (Sent x)) (sym (c.of.ensures ∙ c.of-awaited.ensures)) (sent a)

pub returns-in-Ok-clause-counts : goal.returns-in-Ok-clause-counts
returns-in-Ok-clause-counts g c = record { kept = omega (arith, c.in-Ok.ensures.sent.stalls); rose = λ same going. absurd (unlike same) }

pub returns-in-Err-clause-goes : goal.returns-in-Err-clause-goes
returns-in-Err-clause-goes g c =
    let a : Awaited = awaited_by c.args.m in
    subst (λ (x : Message). Goes (Unsent a) (Unsent (awaited_by x))) (sym c.in-Err.ensures.back) (stays (Unsent a))

pub returns-in-Err-clause-counts : goal.returns-in-Err-clause-counts
returns-in-Err-clause-counts g c = let rose = c.in-Err.ensures.stalled.rose in record { kept = omega (arith, rose); rose = λ same going. rose }
