-- A turn as the loop sees it.
use Rattle.std.proofs.Common.{◌≡◌, inl, inr, ℕ, ◌+◌, ◌*◌, ◌^◌, ◌<◌, Bool, true, [], ◌∷◌, ◌++◌, length, refl, sym, ap, ◌∙◌, subst}
use Rattle.std.specs.Prelude.{Option, Some, None, is_some}
use Rattle.df_model.specs.declared.session.Turn.{Turn}
use Rattle.df_model.specs.declared.session.Turn.TheVariants as turns
use Rattle.df_outside.specs.Links.{Flow, Spends}
use Rattle.df_caller.specs.Calling.{Calling}
use Rattle.df_conn.specs.Turns.{Sight, At, see, Going, StaysServed, Turned, TurnedAway, Causes, Moves, rank, waiting}
use Rattle.df_conn.specs.declared.conn.Stage.{Stage}
use Rattle.df_conn.specs.declared.conn.Stage.TheVariants as stages
use Rattle.df_conn.proofs.WorkLaws.{falls, never_stalls}
use Rattle.df_conn.specs.declared.talk.Talk.{Talk}
use Rattle.df_model.specs.Values.{Bytes}
use Rattle.df_model.specs.Keyspace.{Keyspace}
use Rattle.df_desk.specs.States.{DeskState, Served}
use Rattle.df_sessions.specs.Sessions.{StageAt, HaltsFor, ComesNearer, Sitting, Sat, Same, IsDueAfter, limit_of, work_of}
use Rattle.df_sessions.specs.AllSessions.{Ran}

pub turned_going : (turn : Turn) (stopping : Bool) (old new : Sight) → Turned turn stopping old new → Going new
turned_going turns.Moved stopping old new t = t.0
turned_going turns.NotYet stopping old new t = t.0
turned_going (turns.Ended why) stopping old new t = t.0

pub turned_stage : (turn : Turn) (stopping : Bool) (old new : Sight) → Turned turn stopping old new → StageAt turn new.stage
turned_stage turns.Moved stopping old new t = t.1
turned_stage turns.NotYet stopping old new t = t.1
turned_stage (turns.Ended why) stopping old new t = t.1

-- Going doesn't look at whether the call's outcome is due
at_due : (x : Stage) (s : Sight) (due : Bool) (bytes said wrote : Bytes) → At x s bytes said wrote → At x (record s { calling = record s.calling { due = due } }) bytes said wrote
at_due stages.Open s due bytes said wrote at = at
at_due stages.Calling s due bytes said wrote at = at
at_due (stages.Closing why) s due bytes said wrote at = at
at_due (stages.Over why) s due bytes said wrote at = at

pub going_due : (id : ℕ) (stage : Stage) (calling calling' : Calling) (first flow : Flow) (talk : Talk) → calling' ≡ record calling { due = true } → Going (see id stage calling first flow talk) → Going (see id stage calling' first flow talk)
going_due id stage calling calling' first flow talk e g =
    subst (λ (c : Calling). Going (see id stage c first flow talk)) (sym e)
    record { flows = g.flows; at = at_due stage (see id stage calling first flow talk) true g.flows.bytes g.flows.said g.flows.wrote g.at }

same_work : (old new : Sitting) → Same old new → work_of new ≡ work_of old
same_work old new same =
    ap (λ f. ((limit_of f.left * 2 + new.rest) * 4 + rank new.stage) * 2 ^ 64 + new.waits) same.flow
    ∙ ap (λ r. ((limit_of old.flow.left * 2 + r) * 4 + rank new.stage) * 2 ^ 64 + new.waits) same.rest
    ∙ ap (λ x. ((limit_of old.flow.left * 2 + old.rest) * 4 + rank x) * 2 ^ 64 + new.waits) same.stage
    ∙ ap (λ w. ((limit_of old.flow.left * 2 + old.rest) * 4 + rank old.stage) * 2 ^ 64 + w) same.waits

-- what a turn of the connection does, as its seat sees it
abbrev pub seen : DeskState → Sight → Sitting
seen desk s = record { id = s.id; stage = s.stage; desk = desk; first = s.first; flow = s.flow; rest = length s.stream.rest; waits = waiting s }

pub turned_halts : (turn : Turn) (stopping : Bool) (old new : Sight) (desk : DeskState) → Turned turn stopping old new → HaltsFor stopping turn (seen desk new)
turned_halts turns.Moved stopping old new desk t = tt
turned_halts turns.NotYet stopping old new desk t = tt
turned_halts (turns.Ended why) stopping old new desk t = ((λ e. subst (λ w. Causes w stopping old new) e t.2), (λ e. subst (λ w. Causes w stopping old new) e t.2))

-- a session that was turned away is seen alike in its seat and after it
pub away_alike : (Halts : Type 0) (id other : ℕ) (first first' now now' : Flow) → other ≡ id → first' ≡ first → now' ≡ now → TurnedAway Halts id first now → TurnedAway Halts other first' now'
away_alike Halts id other first first' now now' same one two a =
    subst (λ n. TurnedAway Halts n first' now') (sym same) (subst (λ f. TurnedAway Halts id f now') (sym one) (subst (λ f. TurnedAway Halts id first f) (sym two) a))

halts_after : (turn : Turn) (stopping : Bool) (middle new : Sitting) → HaltsFor stopping turn middle → Same middle new → HaltsFor stopping turn new
halts_after turns.Moved stopping middle new h same = tt
halts_after turns.NotYet stopping middle new h same = tt
halts_after (turns.Ended why) stopping middle new h same = (h.0, (λ e. away_alike (stopping ≡ true) middle.id new.id middle.first new.first middle.flow new.flow same.id same.first same.flow (h.1 e)))

told_is : (x : Option ℕ) → is_some x ≡ true → x ≡ Some (limit_of x)
told_is None e = absurd (cc e)
told_is (Some n) e = refl

pub spent_told : (x y : Option ℕ) (n : ℕ) → Spends x y n → is_some x ≡ true → is_some y ≡ true
spent_told None y n s e = absurd (cc e)
spent_told (Some a) None n s e = absurd s
spent_told (Some a) (Some b) n s e = refl

moved_told : (old new : Sight) → Moves old new → is_some old.flow.left ≡ true → is_some new.flow.left ≡ true
moved_told old new (Moves.called call was now d) e = ap (λ f. is_some f.left) d.flow ∙ e
moved_told old new (Moves.took words one same) e = ap (λ f. is_some f.left) same ∙ e
moved_told old new (Moves.read bytes some taken d) e = spent_told old.flow.left new.flow.left (length bytes) d.left e
moved_told old new (Moves.wrote bytes some written d) e = ap is_some d.left ∙ e

pub turned_nearer : (turn : Turn) (stopping : Bool) (old new : Sight) (before after : DeskState) → before.calling ≡ old.calling → waiting new < 2 ^ 64 → Turned turn stopping old new → ComesNearer turn (seen before old) (seen after new)
turned_nearer turns.Moved stopping old new before after same below t = λ told.
    let now = moved_told old new t.2 told in
    (now, falls old new (limit_of old.flow.left) (limit_of new.flow.left) t.2 (told_is old.flow.left told) (told_is new.flow.left now) below)
turned_nearer turns.NotYet stopping old new before after same below t = λ told due.
    never_stalls old new (limit_of old.flow.left) t.2 (told_is old.flow.left told) (ap (λ c. c.due) (sym same) ∙ due)
turned_nearer (turns.Ended why) stopping old new before after same below t = tt

-- a turn, and then the mailbox
pub ran_after : (old middle new : DeskState) (K after : Keyspace) → middle.ran ≡ old.ran → Served middle new K after → Ran old.ran new.ran K after
ran_after old middle new K after same s =
    elim (s.ran) [
      | inl none ↦ inl (none.0 ∙ same, none.1)
      | inr one ↦ inr (one.0, one.1, one.2 ∙ ap (λ l. l ++ one.0 ∷ []) same, one.4)
    ]

nearer_after : (turn : Turn) (old middle new : Sitting) → ComesNearer turn old middle → Same middle new → ComesNearer turn old new
nearer_after turns.Moved old middle new near same = λ told.
    let n = near told in
    (ap (λ f. is_some f.left) same.flow ∙ n.0, subst (λ w. w < work_of old) (sym (same_work middle new same)) n.1)
nearer_after turns.NotYet old middle new near same = near
nearer_after (turns.Ended why) old middle new near same = tt

pub due_after : (turn : Turn) (s : Sitting) → s.desk.calling.due ≡ true → IsDueAfter turn s
due_after turns.Moved s due = due
due_after turns.NotYet s due = due
due_after (turns.Ended why) s due = tt

pub due_served : (middle new : DeskState) (K after : Keyspace) → Served middle new K after → new.calling.due ≡ true
due_served middle new K after s = ap (λ c. c.due) s.calling

pub sat_after : (stopping : Bool) (turn : Turn) (old middle new : Sitting) → Sat stopping turn old middle → Same middle new → Sat stopping turn old new
sat_after stopping turn old middle new s same = record { id = same.id ∙ s.id; first = same.first ∙ s.first; stage = subst (StageAt turn) (sym same.stage) s.stage; halts = halts_after turn stopping middle new s.halts same; nearer = nearer_after turn old middle new s.nearer same; served = subst (StaysServed old.stage) (sym same.stage) s.served }
