-- How a command goes on once a round was answered, and how it comes to its end.
use Rattle.std.proofs.Common.{◌≡◌, ◌≢◌, ℕ, Bool, true, false, cond, is_some, List, inl, refl, ap, subst, ◌∙◌}
use Rattle.std.specs.Prelude.{Option, None, nat_lt}
use Rattle.df_model.specs.Outcomes.{ok}
use Rattle.df_model.specs.Reads.{IsLinked}
use Rattle.df_model.specs.declared.command.WholeOp.TheVariants as wholes
use Rattle.df_model.specs.declared.command.Command.{Command}
use Rattle.df_model.specs.declared.command.Command.TheVariants.{Plain, One, Many, Whole, Wrong}
use Rattle.df_model.specs.declared.reply.Reply.{Reply}
use Rattle.df_log.specs.Acts.{Act, Told}
use Rattle.df_core.specs.Courses.{Course, Nowhere, Alone, Spread, Counts, Cuts, Clears, course_of}
use Rattle.df_core.specs.Courses as courses
use Rattle.df_core.specs.Due.{some}
use Rattle.df_core.specs.Done.{IsSaveReply, want_of_memory}
use Rattle.df_core.proofs.HopLaws.{none_passes}
use Rattle.df_rounds.specs.Standing.{Standing, Fresh, Asked, asks, goes_on, on_shards}
use Rattle.df_rounds.specs.Replies.{reply_of, may_stop}
use Rattle.df_hops.specs.declared.answer.Outcome.{Outcome}
use Rattle.df_exchange.specs.Asks.{AllHeard}
use Rattle.df_turn.specs.Steps.{Goes, Says}
use Rattle.df_turn.specs.Turns.{IsOver, IsClear, IsLent, IsLentBy, WentOn}
use Rattle.df_turn.specs.declared.turn.Turn.{Turn}
use Rattle.df_turn.specs.declared.turn.Next.{Next}
use Rattle.df_turn.specs.declared.turn.Next.TheVariants as nexts

over_says : (shards : ℕ) (command : Command) (standing : Standing) (new : Turn) (reply : Reply) (next : Next) →
    IsOver shards command standing reply → Says next reply → Goes next shards command standing new
over_says shards command standing new reply nexts.Asks ended says = absurd says
over_says shards command standing new reply (nexts.Over said) ended says = (reply, ended, says)
over_says shards command standing new reply nexts.Unsaid ended says = (reply, ended)

-- nothing more is asked, and this is its reply, where a SAVE is answered so
pub over_saved : (shards : ℕ) (command : Command) (standing : Standing) (new : Turn) (next : Next) (course : Course) (saved reply : Reply) → IsSaveReply saved →
    course_of shards command ≡ course → goes_on shards command course standing ≡ false → reply_of shards command course saved standing ≡ reply →
    Says next reply → Goes next shards command standing new
over_saved shards command standing new next course saved reply may e none is says =
    let all : reply_of shards command (course_of shards command) saved standing ≡ reply = ap (λ c. reply_of shards command c saved standing) e ∙ is in
    over_says shards command standing new reply next
    (subst (IsOver shards command standing) all (IsOver.over saved may (ap (λ c. goes_on shards command c standing) e ∙ none))) says

-- of any other command
pub over_by : (shards : ℕ) (command : Command) (standing : Standing) (new : Turn) (next : Next) (course : Course) (reply : Reply) →
    course_of shards command ≡ course → goes_on shards command course standing ≡ false → reply_of shards command course ok standing ≡ reply →
    Says next reply → Goes next shards command standing new
over_by shards command standing new next course reply = over_saved shards command standing new next course ok reply (inl refl)

-- it stops for want of memory, where it may
pub stop_by : (shards : ℕ) (command : Command) (standing : Standing) (new : Turn) (next : Next) (course : Course) → course_of shards command ≡ course →
    may_stop course standing ≡ true → Says next want_of_memory → Goes next shards command standing new
stop_by shards command standing new next course e may says =
    over_says shards command standing new want_of_memory next (IsOver.stopped (ap (λ c. may_stop c standing) e ∙ may)) says

-- where nothing is asked of any shard
pub none-asked : (shards : ℕ) (asked : Asked) → ((s : ℕ) → asked s ≡ None) → some (λ s. is_some (on_shards shards asked s)) shards ≡ false
none-asked shards asked none = none_passes (λ s. is_some (on_shards shards asked s)) shards (λ s. ap (λ o. is_some (cond (nat_lt s shards) o None)) (none s) ∙ go (nat_lt s shards) None refl)
  where
    go : (b : Bool) (o : Option Act) → o ≡ None → is_some (cond b o None) ≡ false
    go true o e = ap is_some e
    go false o e = refl

-- and nothing is heard any more
pub went_on : (shards : ℕ) (command : Command) (standing : Standing) (new : Turn) (heard : List (Option Outcome)) (next : Next) →
    Goes next shards command standing new → IsClear shards heard → WentOn next shards command standing new heard
went_on shards command standing new heard nexts.Asks goes clear = (goes, clear)
went_on shards command standing new heard (nexts.Over said) goes clear = (goes.0, goes.1, goes.2, clear)
went_on shards command standing new heard nexts.Unsaid goes clear = (goes.0, goes.1, clear)

-- what was asked and heard, by the course
pub heard_by : (shards : ℕ) (command : Command) (standing : Standing) (told : ℕ → Told) (heard : List (Option Outcome)) (course : Course) →
    course_of shards command ≡ course → AllHeard (asks shards command (course_of shards command) standing) told heard →
    AllHeard (asks shards command course standing) told heard
heard_by shards command standing told heard course e all =
    let P : Course → Type 0 = λ c. AllHeard (asks shards command c standing) told heard in subst P e all

-- what is lent, by the course
pub lent_by : (shards : ℕ) (command lent : Command) (course : Course) → course_of shards command ≡ course → IsLent shards Fresh command lent →
    IsLentBy course command lent
lent_by shards command lent course e l = let P : Course → Type 0 = λ c. IsLentBy c command lent in subst P e l

-- whatever the course, it may be lent as it is
pub lent_whole : (shards : ℕ) (command : Command) → IsLent shards Fresh command command
lent_whole shards command = go (course_of shards command)
  where
    go : (course : Course) → IsLentBy course command command
    go Nowhere = refl
    go (Alone s) = tt
    go Spread = refl
    go courses.Names = refl
    go Counts = refl
    go Cuts = refl
    go Clears = refl

-- what takes another course is no SAVE
pub no-save : (shards : ℕ) (command : Command) → course_of shards command ≢ Cuts → IsLinked command
no-save shards (Plain op) ne = refl
no-save shards (One key op) ne = refl
no-save shards (Many op) ne = refl
no-save shards (Whole wholes.Dbsize) ne = refl
no-save shards (Whole (wholes.Keys pattern)) ne = refl
no-save shards (Whole wholes.Flushall) ne = refl
no-save shards (Whole wholes.Flushdb) ne = refl
no-save shards (Whole wholes.Save) ne = absurd (ne refl)
no-save shards (Wrong error) ne = refl
