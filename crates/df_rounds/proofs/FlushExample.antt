-- FLUSHALL on one shard, from its draw to what it leaves, by the laws alone.
use Rattle.std.proofs.Common.{◌≡◌, ℕ, zero, suc, Bool, true, false, [], ◌∷◌, refl, sym, ap, ◌∙◌, subst, arith}
use Rattle.std.specs.Prelude.{Option, Some, None, is_some}
use Rattle.df_model.specs.Keyspace.{no_keys}
use Rattle.df_model.specs.Outcomes.{ok}
use Rattle.df_model.specs.declared.command.WholeOp.TheVariants as wholes
use Rattle.df_model.specs.declared.command.Command.{Command}
use Rattle.df_model.specs.declared.command.Command.TheVariants.{Whole}
use Rattle.df_log.specs.Acts.{Told, Ran}
use Rattle.df_log.specs.Parts.{ran}
use Rattle.df_log.specs.declared.entry.Entry.{Entry}
use Rattle.df_core.specs.Courses.{Alone}
use Rattle.df_book.specs.Passes.{Caller}
use Rattle.df_end.specs.OneCall.{flushall, flushed, flush_row}
use Rattle.df_end.specs.Rounds.{CallWent}
use Rattle.df_rounds.specs.Standing.{MayBeTold, first_asked}
use Rattle.df_rounds.specs.Progress.{Progress, Answers, progress_of, asks_next, after_round, after_command, hop_next}
use Rattle.df_rounds.specs.Underway.{Underway}
use Rattle.df_rounds.specs.Between.{Between}
use Rattle.df_rounds.proofs.ToldLaws.{on-out}
use Rattle.df_rounds.proofs.ProgressLaws.{over_goes_on}
use Rattle.df_rounds.proofs.BetweenLaws.{calls_go_round, calls_move, calls_leave}

abbrev flush : Command
flush = Whole wholes.Flushall

abbrev start : Progress
start = progress_of flushall

abbrev told : ℕ → Told
told s = Ran ok

asks-none : (s : ℕ) → asks_next 1 start (suc s) ≡ None
asks-none s = on-out 1 (first_asked 1 flush (Alone 0)) (suc s) (omega arith)

module _ (before v u : Caller) (n : ℕ) (sent : ℕ → Bool) (back : ℕ → Option Entry) (drawn : Between 1 before flushall n start v)
    (under : Underway 1 n v u sent back) (sent_0 : sent 0 ≡ true) (sent_else : (s : ℕ) → sent (suc s) ≡ false)
    (back_0 : back 0 ≡ Some (flushed n)) (back_else : (s : ℕ) → back (suc s) ≡ None) where
  may : (s : ℕ) → MayBeTold 1 s (asks_next 1 start s) (told s)
  may zero = (no_keys, ran flush)
  may (suc s) = subst (λ o. MayBeTold 1 (suc s) o (Ran ok)) (sym (asks-none s)) tt

  all-sent : (s : ℕ) → sent s ≡ is_some (asks_next 1 start s)
  all-sent zero = sent_0
  all-sent (suc s) = sent_else s ∙ sym (ap is_some (asks-none s))

  answers : (s : ℕ) → Answers (hop_next 1 start) (asks_next 1 start s) (told s) (back s)
  answers zero = (flushed n, back_0, refl)
  answers (suc s) = subst (λ o. Answers (hop_next 1 start) o (Ran ok) (back (suc s))) (sym (asks-none s)) (back_else s)

  ran_once : Between 1 before flushall n (after_round told start) u
  ran_once = calls_go_round 1 before flushall n start v u sent back told (omega arith) drawn under refl may all-sent answers

  over : Between 1 before flushall n (after_command ok [] (after_round told start)) u
  over =
      calls_move 1 before flushall n (after_round told start) (after_command ok [] (after_round told start)) u ran_once
      (λ steps st. over_goes_on 1 flushall (after_round told start) steps flush [] ok (omega arith) st refl refl (λ e. cc))

  flush-went : CallWent 1 before u flushall (flush_row before n ∷ [])
  flush-went = calls_leave 1 before flushall n (after_command ok [] (after_round told start)) u over refl
