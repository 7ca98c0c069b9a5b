-- A command that names no key, and one that runs on one shard alone.
use Rattle.std.proofs.Common.{◌≡◌, ◌≢◌, ◌⊎◌, ℕ, ◌<◌, Bool, true, false, cond, List, length, inl, inr, refl, sym, ap, subst, ◌∙◌}
use Rattle.std.specs.Prelude.{Option, Some, None, ◌==◌}
use Rattle.std.specs.Option.{option_map}
use Rattle.std.specs.Global.{Box}
use Rattle.std.proofs.lemmas.Bool.{false≢true, eq-eqb, eqb-true}
use Rattle.df_model.specs.Keyspace.{no_keys}
use Rattle.df_model.specs.Meaning.{meaning}
use Rattle.df_model.specs.declared.command.Command.{Command}
use Rattle.df_model.specs.declared.reply.Reply.{Reply}
use Rattle.df_log.specs.Acts as acts
use Rattle.df_log.specs.Acts.{Act, Told}
use Rattle.df_core.specs.Courses.{Nowhere, Alone, Cuts, course_of}
use Rattle.df_core.specs.Courses as courses
use Rattle.df_core.specs.Done.{want_of_memory}
use Rattle.df_core.proofs.CourseLaws.{alone_within}
use Rattle.df_rounds.specs.Standing.{Standing, Fresh, Once, Twice, Thrice, then_told, first_asked, second_asked, first_hop}
use Rattle.df_rounds.specs.Replies.{reply_in}
use Rattle.df_rounds.proofs.ToldLaws.{on-in}
use Rattle.df_hops.specs.Parts.{act_of}
use Rattle.df_hops.specs.declared.answer.Outcome.{Outcome}
use Rattle.df_exchange.specs.Asks.{Heard, heard_of}
use Rattle.df_turn.specs.Steps.{Goes, RunsThere, Says}
use Rattle.df_turn.specs.Turns.{Asking, Began, IsAnswered, IsLentBy, Keeps, KeepsFresh, KeepsReady, Ready, asked_at_once, part_for}
use Rattle.df_turn.specs.declared.turn.Rest.{Rest}
use Rattle.df_turn.specs.declared.turn.Rest.TheVariants as rests
use Rattle.df_turn.specs.declared.turn.Turn.{Turn}
use Rattle.df_turn.specs.declared.turn.Next.{Next}
use Rattle.df_turn.specs.declared.turn.Next.TheVariants as nexts
use Rattle.df_turn.proofs.BeginLaws.{asking_by, begins, goes_by, parts_by}
use Rattle.df_turn.proofs.OverLaws.{over_by, stop_by, none-asked, heard_by, lent_whole}
use Rattle.df_turn.proofs.WholeGoes.{kept}

-- ---- no key

-- it is over before any round
over_begun : (shards : ℕ) (command lent : Command) (new : Turn) (next : Next) → Goes next shards command Fresh new → next ≢ nexts.Asks →
    Began next shards command new lent
over_begun shards command lent new nexts.Asks goes ne = absurd (ne refl)
over_begun shards command lent new (nexts.Over said) goes ne = goes
over_begun shards command lent new nexts.Unsaid goes ne = goes

-- what says something asks nothing
says-over : (next : Next) (reply : Reply) → Says next reply → next ≢ nexts.Asks
says-over nexts.Asks reply says is = says
says-over (nexts.Over said) reply says is = cc
says-over nexts.Unsaid reply says is = cc

pub answered_begun : (shards : ℕ) (command lent : Command) (new : Turn) (next : Next) → course_of shards command ≡ Nowhere →
    Says next want_of_memory ⊎ Says next (meaning command no_keys).0 → Began next shards command new lent
answered_begun shards command lent new next e says = elim says [
  | inl want ↦
      over_begun shards command lent new next (stop_by shards command Fresh new next Nowhere e refl want) (says-over next want_of_memory want)
  | inr over ↦
      over_begun shards command lent new next
      (over_by shards command Fresh new next Nowhere (meaning command no_keys).0 e (none-asked shards (first_asked shards command Nowhere) (λ s. refl)) refl over)
      (says-over next (meaning command no_keys).0 over)
]

-- ---- its turn comes

-- what is kept before
pub ready_kept : (shards : ℕ) (command : Command) (turn : Turn) (rest : Rest) → turn.rest ≡ rest → Ready shards command turn → KeepsReady shards command rest
ready_kept shards command turn rest is r = subst (KeepsReady shards command) is r.keeps

-- a command that asks several shards, or all, stands as it stood
pub stays_begun : (shards : ℕ) (command : Command) (turn : Turn) (rest : Rest) → 0 < shards → Ready shards command turn → rest ≡ turn.rest →
    rest ≢ rests.Nowhere → ((s : ℕ) (room : Box Command) → rest ≢ rests.Waiting s room) → Began nexts.Asks shards command (record turn { rest = rest }) command
stays_begun shards command turn rest pos r is named several =
    let a = begins shards command turn pos r (λ e. named (is ∙ e)) (λ s room e. several s room (is ∙ e)) in
    (record { keeps = subst (KeepsFresh shards command) (sym is) a.keeps; goes = a.goes; hop = a.hop; count = a.count; parts = a.parts }, lent_whole shards command)

-- ---- one shard

-- what that shard is asked
runs-first : (shards s : ℕ) (command : Command) → first_asked shards command (Alone s) s ≡ Some (acts.Run command)
runs-first shards s command = ap (λ b. cond b (Some (acts.Run command)) None) (eq-eqb s s refl)

module _ (shards s : ℕ) (command lent : Command) (old new : Turn) (next : Next) (pos : 0 < shards) (e : course_of shards command ≡ Alone s)
    (ready : Ready shards command old) (asks_on : next ≡ nexts.Asks) (runs : RunsThere s command old new) where
  -- the command is there, and nothing on any other shard
  runs-at : (t : ℕ) (b : Bool) → (s == t) ≡ b → option_map act_of (part_for t new.parts.items) ≡ cond b (Some (acts.Run command)) None
  runs-at t true is = let P : ℕ → Type 0 = λ u. option_map act_of (part_for u new.parts.items) ≡ Some (acts.Run command) in subst P (eqb-true s t is) runs.here
  runs-at t false is =
      ap (option_map act_of) (runs.others t (λ same. false≢true (sym is ∙ eq-eqb s t (sym same))))
      ∙ ready.parts t ∙ ap (λ c. asked_at_once shards command c t) e

  runs_asking : Asking shards 0 command Fresh new
  runs_asking =
      asking_by shards command Fresh new (Alone s) e (subst (KeepsFresh shards command) (sym runs.rest) e)
      (goes_by shards s (first_asked shards command (Alone s)) _ (alone_within shards s command pos e) (runs-first shards s command))
      (runs.hop ∙ ready.hop ∙ ap first_hop e) (runs.count ∙ ready.count)
      (parts_by shards (first_asked shards command (Alone s)) new (runs.count ∙ ready.count) (λ t lt. runs-at t (s == t) refl))

  pub runs_begun : Began next shards command new lent
  runs_begun =
      subst (λ n. Began n shards command new lent) (sym asks_on)
      (runs_asking, let P : courses.Course → Type 0 = λ c. IsLentBy c command lent in subst P (sym e) tt)

module _ (shards : ℕ) (command : Command) (told : ℕ → Told) (turn : Turn) (lent : Command) (heard : List (Option Outcome)) where
  pub ran_within : (standing : Standing) (s : ℕ) → turn.rest ≡ rests.Running s → IsAnswered shards command standing told turn lent heard → s < length heard
  ran_within standing s is a = go standing (kept shards command told turn lent heard standing (rests.Running s) is a)
    where
      go : (standing : Standing) → Keeps shards command standing (rests.Running s) → s < length heard
      go Fresh e = subst (λ n. s < n) (sym a.count) (alone_within shards s command a.some e)
      go (Once x) k = absurd k
      go (Twice x y) k = absurd k
      go (Thrice x y z) k = absurd k

  pub ran_goes : (standing : Standing) (new : Turn) (next : Next) (s : ℕ) → turn.rest ≡ rests.Running s → IsAnswered shards command standing told turn lent heard →
      ((ran : Command) (answer : Told) → Heard (Some (acts.Run ran)) answer (heard_of s heard) → Says next (reply_in answer)) →
      Goes next shards command (then_told told standing) new
  ran_goes standing new next s is a says = go standing a (kept shards command told turn lent heard standing (rests.Running s) is a)
    where
      go : (standing : Standing) → IsAnswered shards command standing told turn lent heard → Keeps shards command standing (rests.Running s) →
          Goes next shards command (then_told told standing) new
      go Fresh a e =
          let first = first_asked shards command (Alone s) in
          let all = heard_by shards command Fresh told heard (Alone s) e a.heard in
          let here = on-in shards first s (alone_within shards s command a.some e) ∙ runs-first shards s command in
          let P : Option Act → Type 0 = λ o. Heard o (told s) (heard_of s heard) in
          over_by shards command (Once told) new next (Alone s) (reply_in (told s)) e (none-asked shards (second_asked shards command (Alone s) told) (λ t. refl)) refl
          (says command (told s) (subst P here (all s)))
      go (Once x) a k = absurd k
      go (Twice x y) a k = absurd k
      go (Thrice x y z) a k = absurd k

  -- before its turn no round is answered
  pub not_nowhere : (standing : Standing) → turn.rest ≡ rests.Nowhere → IsAnswered shards command standing told turn lent heard → ⊥
  not_nowhere standing is a = go standing (kept shards command told turn lent heard standing rests.Nowhere is a)
    where
      go : (standing : Standing) → Keeps shards command standing rests.Nowhere → ⊥
      go Fresh k = k
      go (Once x) k = k
      go (Twice x y) k = k
      go (Thrice x y z) k = k

  pub not_waiting : (standing : Standing) (s : ℕ) (room : Box Command) → turn.rest ≡ rests.Waiting s room →
      IsAnswered shards command standing told turn lent heard → ⊥
  not_waiting standing s room is a = go standing (kept shards command told turn lent heard standing (rests.Waiting s room) is a)
    where
      go : (standing : Standing) → Keeps shards command standing (rests.Waiting s room) → ⊥
      go Fresh k = k
      go (Once x) k = k
      go (Twice x y) k = k
      go (Thrice x y z) k = k
