-- The hops of a call compose to what one thread does for it.
use Rattle.std.proofs.Common.{◌≡◌, ℕ, suc, ◌<◌, Bool, List, [], ◌∷◌, ◌++◌, sym, ap, ◌∙◌, subst}
use Rattle.df_model.specs.Calls.{DoesAll, Allowed}
use Rattle.df_model.specs.declared.command.Command.{Command}
use Rattle.df_model.specs.declared.command.Call.{Call}
use Rattle.df_model.specs.declared.command.Call.TheVariants.{Single, Exec}
use Rattle.df_model.specs.declared.reply.Reply.{Reply}
use Rattle.df_order.specs.Lists.{Has}
use Rattle.df_order.specs.Model.{replay, FitAll}
use Rattle.df_log.specs.Parts.{Part}
use Rattle.df_log.specs.declared.entry.Entry.{Entry}
use Rattle.df_core.specs.Steps.{Step, steps_of, after_steps, AllTold}
use Rattle.df_core.specs.Joined.{joined}
use Rattle.df_core.specs.Calls.{calls}
use Rattle.df_core.specs.Done.{DoneAll, Gives, marks_of}
use Rattle.df_core.proofs.StepLaws.{after_both, told_front, told_back, after_entries, told_entries}
use Rattle.df_core.proofs.SpreadLaws.{done_does}
use Rattle.df_core.proofs.JoinedLaws.{joined_stays}
use Rattle.df_core.proofs.MarkLaws.{marks_told}

-- the hops of a list of commands do what the commands mean, one after the other
pub all_compose : (shards i n : ℕ) (commands : List Command) (steps : ℕ → List Step) (marks : List Bool) (replies : List Reply) (parts : ℕ → Part) →
    0 < shards → DoneAll shards i commands steps marks replies → ((s : ℕ) → AllTold shards s n (steps s) (parts s)) →
    DoesAll commands marks (joined shards parts) replies (joined shards (λ s. after_steps n (steps s) (parts s)))
all_compose shards i n [] steps [] [] parts pos d told =
    joined_stays shards parts (λ s. after_steps n (steps s) (parts s)) (λ s. ap (λ own. (after_steps n own (parts s)).visible) (d s))
all_compose shards i n [] steps [] (reply ∷ replies) parts pos d told = absurd d
all_compose shards i n [] steps (kept ∷ marks) replies parts pos d told = absurd d
all_compose shards i n (command ∷ commands) steps [] replies parts pos d told = absurd d
all_compose shards i n (command ∷ commands) steps (kept ∷ marks) [] parts pos d told = absurd d
all_compose shards i n (command ∷ commands) steps (kept ∷ marks) (reply ∷ replies) parts pos d told = (
  joined shards middle,
  done_does shards i n command d.0 kept reply parts pos d.3 (λ s. told_front shards s n (d.0 s) (d.1 s) (parts s) (both s)),
  subst (DoesAll commands marks (joined shards middle) replies) (λ k. joined shards (λ s. ends s k))
      (all_compose shards (suc i) n commands d.1 marks replies middle pos d.4 (λ s. told_back shards s n (d.0 s) (d.1 s) (parts s) (both s))),
)
  where
    -- where the first command ends
    middle : ℕ → Part
    middle s = after_steps n (d.0 s) (parts s)

    both : (s : ℕ) → AllTold shards s n (d.0 s ++ d.1 s) (parts s)
    both s = subst (λ own. AllTold shards s n own (parts s)) (d.2 s) (told s)

    ends : (s : ℕ) → after_steps n (d.1 s) (middle s) ≡ after_steps n (steps s) (parts s)
    ends s = sym (ap (λ own. after_steps n own (parts s)) (d.2 s) ∙ after_both shards s n (d.0 s) (d.1 s) (parts s))

-- the hops of a call, each told what it gives, are an outcome that one thread may have, with the marks that the logs tell
pub composes : (shards n : ℕ) (call : Call) (steps : ℕ → List Step) (reply : Reply) (parts : ℕ → Part) → 0 < shards →
    Gives shards call steps reply → ((s : ℕ) → AllTold shards s n (steps s) (parts s)) →
    Allowed call (marks_of shards call steps) (joined shards parts) reply (joined shards (λ s. after_steps n (steps s) (parts s)))
composes shards n (Single command) steps reply parts pos gives told =
    subst (λ marks. DoesAll (command ∷ []) marks (joined shards parts) (reply ∷ []) (joined shards (λ s. after_steps n (steps s) (parts s))))
    (sym (marks_told shards 0 (command ∷ []) steps (gives.0 ∷ []) (reply ∷ []) pos gives.1))
    (all_compose shards 0 n (command ∷ []) steps (gives.0 ∷ []) (reply ∷ []) parts pos gives.1 told)
composes shards n (Exec commands) steps reply parts pos gives told = (
  gives.1,
  gives.2,
  subst (λ marks. DoesAll commands.items marks (joined shards parts) gives.1 (joined shards (λ s. after_steps n (steps s) (parts s))))
      (sym (marks_told shards 0 commands.items steps gives.0 gives.1 pos gives.3))
      (all_compose shards 0 n commands.items steps gives.0 gives.1 parts pos gives.3 told),
)

-- the same of the entries of one number
pub entries_compose : (shards n : ℕ) (call : ℕ → Call) (es : ℕ → List Entry) (reply : Reply) (parts : ℕ → Part) →
    0 < shards → ((s : ℕ) (e : Entry) → Has (es s) e → e.number ≡ n) →
    Gives shards (call n) (λ s. steps_of (es s)) reply → ((s : ℕ) → FitAll (calls shards) call s (parts s) (es s)) →
    Allowed (call n) (marks_of shards (call n) (λ s. steps_of (es s)))
    (joined shards parts) reply (joined shards (λ s. replay (calls shards) (parts s) (es s)))
entries_compose shards n call es reply parts pos numbers gives fit =
    subst (Allowed (call n) (marks_of shards (call n) (λ s. steps_of (es s))) (joined shards parts) reply)
    (λ k. joined shards (λ s. sym (after_entries shards s n (es s) (parts s) (numbers s)) k))
    (composes shards n (call n) (λ s. steps_of (es s)) reply parts pos gives
    (λ s. told_entries shards s n call (es s) (parts s) (numbers s) (fit s)))
